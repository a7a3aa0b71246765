-- What an element tells itself is made of numbers of 32 bits, and each of its transactions has at most 64 participants (this profile's own).
use Rattle.std.specs.Prelude.{ℕ, ◌<◌, ◌≤◌, ◌^◌, List, length}
use Rattle.std.specs.List.{AllByRecursion}
use Rattle.fc_lfbs.specs.LiveValues.{Told, Txn}

abbrev pub IsWord : ℕ → Type 0
IsWord n = n < 2 ^ 32

pub record IsPacked (x : Txn) : Type 0 where
  pub epoch : IsWord x.epoch
  pub number : IsWord x.number
  pub state : IsWord x.state
  pub participants : AllByRecursion IsWord x.participants
  pub few : length x.participants ≤ 64

abbrev pub IsWordPair : ℕ × ℕ → Type 0
IsWordPair p = IsWord p.0 × IsWord p.1

pub record TellsWords (s : Told) : Type 0 where
  pub id : IsWord s.id
  pub instances : AllByRecursion IsWordPair s.instances
  pub ce : IsWord s.ce
  pub last_ce : IsWord s.last_ce
  pub epoch : IsWord s.epoch
  pub master : IsWord s.master
  pub transactions : AllByRecursion IsPacked s.transactions
