-- What reading gives: a value, or the code of the first failure from left to right (RFC 5810, section 7.1.7, on the codes; which
-- one stands where is this profile's own).
use Rattle.std.specs.Prelude.{◌≡◌, ℕ, Option, Some, None, IfSome, Result, Err}
use Rattle.fc_base.specs.Answers as answers
use Rattle.fc_base.specs.declared.faults.OpFault.{OpFault}
use Rattle.fc_base.specs.declared.faults.OpFault.TheVariants as faults

abbrev pub invalid_tlv : ℕ
invalid_tlv = 19

abbrev pub invalid_parameters : ℕ
invalid_parameters = 16

abbrev pub out_of_range : ℕ
out_of_range = 14

-- what a call answers, seen in this way, is what reading gives
abbrev pub Answers : {X Y : Type 0} → (X → Y) → Result X ℕ → Result Y ℕ → Type 0
Answers view = answers.Gives view Some

-- the code of reading that a fault tells: none where it tells that memory was wanting
abbrev pub told : OpFault → Option ℕ
told (faults.Refused code) = Some code
told faults.Memory = None

-- the fault is want of memory, or the code that reading gives
abbrev pub Fails : {Y : Type 0} → OpFault → Result Y ℕ → Type 0
Fails fault read = IfSome (told fault) (λ code. read ≡ Err code)

-- what a call answers, seen in this way, is what reading gives, unless memory is wanting
abbrev pub Gives : {X Y : Type 0} → (X → Y) → Result X OpFault → Result Y ℕ → Type 0
Gives view = answers.Gives view told
