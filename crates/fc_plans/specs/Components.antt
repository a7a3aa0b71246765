-- The class Mastership and those of its components of which a control element speaks. This profile's own.
use Rattle.std.specs.Prelude.{ℕ}

abbrev pub mastership : ℕ
mastership = 126977

-- the epoch of the control element that is master
abbrev pub epoch : ℕ
epoch = 1

-- the records of transactions, and the key that finds one by its epoch and number
abbrev pub transactions : ℕ
transactions = 3

abbrev pub transaction_key : ℕ
transaction_key = 1

-- what begins a transaction, and what names the one that an operation is of
abbrev pub opening : ℕ
opening = 4

abbrev pub subject : ℕ
subject = 5

-- the transaction before which an element forgets all others
abbrev pub floor : ℕ
floor = 6

-- the records of those transactions that are neither completed nor aborted
abbrev pub held : ℕ
held = 7
