-- Where a text is refused, and what a call that reads it answers. This profile's own.
use Rattle.std.specs.Prelude.{◌≡◌, ℕ, Option, Some, None, IfSome, Result, Ok, Err}
use Rattle.fc_base.specs.Answers as answers
use Rattle.fc_lines.specs.declared.fault.TextFault.{TextFault}
use Rattle.fc_lines.specs.declared.fault.TextFault.TheVariants as faults

-- a line and a column, both from 1
pub record TextPlace : Type 0 where
  pub line : ℕ
  pub column : ℕ

abbrev pub place : ℕ → ℕ → TextPlace
place line column = record { line = line; column = column }

-- the place at which reading fails by what a fault tells: none where it tells that it was out of memory
abbrev pub told : TextFault → Option TextPlace
told (faults.At line column) = Some (place line column)
told faults.Memory = None

-- the fault tells the place at which reading fails, unless it is out of memory
abbrev pub Fails : {X : Type 0} → TextFault → Result X TextPlace → Type 0
Fails fault read = IfSome (told fault) (λ p. read ≡ Err p)

-- what a call answers is what reading gives, unless it is out of memory
abbrev pub Gives : {X : Type 0} → Result X TextFault → Result X TextPlace → Type 0
Gives = answers.Gives (λ x. x) told

-- where a call refuses, this holds of the place
abbrev pub RefusedAt : {X : Type 0} → (TextPlace → Type 0) → Result X TextFault → Type 0
RefusedAt Is (Ok x) = Unit {0}
RefusedAt Is (Err (faults.At line column)) = Is (place line column)
RefusedAt Is (Err faults.Memory) = Unit {0}

-- the same of a call that reads the front, and what it leaves to be read
abbrev pub Reads : {X S : Type 0} → Result X TextFault → Result (X × S) TextPlace → S → Type 0
Reads (Ok x) read rest = read ≡ Ok (x, rest)
Reads (Err fault) read rest = Fails fault read

-- the same of what is lent, seen in a way
abbrev pub Lends : {X Y : Type 0} → (X → Y) → Result X TextFault → Result Y TextPlace → Type 0
Lends seen = answers.Gives seen told

abbrev pub ReadsAs : {X Y S : Type 0} → (X → Y) → Result X TextFault → Result (Y × S) TextPlace → S → Type 0
ReadsAs seen (Ok x) read rest = read ≡ Ok (seen x, rest)
ReadsAs seen (Err fault) read rest = Fails fault read
