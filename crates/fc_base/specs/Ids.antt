-- What numbers are identifiers. Of RFC 5810, section 6.1, are the top two bits of the IDs; the rest is this profile's own.
use Rattle.std.specs.Prelude.{◌≡◌, ◌<◌, ℕ, ◌/◌, ◌%◌, ◌^◌, List, ◌∷◌, ◌++◌, decimal}

-- the number is a forwarding element's ID
abbrev pub IsFe : ℕ → Type 0
IsFe n = (0 < n) × (n < 2 ^ 30)

-- the number is a control element's ID
abbrev pub IsCe : ℕ → Type 0
IsCe n = (n / 2 ^ 30 ≡ 1) × (0 < n % 256)

-- the number is a round of a controller
abbrev pub IsRound : ℕ → Type 0
IsRound round = (0 < round) × (round < 2 ^ 24)

-- the word names a round of a controller
abbrev pub IsEpoch : ℕ → Type 0
IsEpoch word = (0 < word / 256) × (0 < word % 256) × (word < 2 ^ 32)

-- a transaction: the epoch of the life that made it, and its number within that life
pub record Txn : Type 0 where
  pub epoch : ℕ
  pub number : ℕ

-- how a transaction is printed: the epoch and the number in decimal, with a full stop between them
abbrev pub txn_text : Txn → List ℕ
txn_text txn = decimal txn.epoch ++ 46 ∷ decimal txn.number
