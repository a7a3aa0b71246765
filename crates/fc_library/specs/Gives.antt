-- What a reader answers of data that have a meaning: that meaning, or the fault for which they have none. It says nothing
-- where there was no memory. This is this profile's own.
use Rattle.std.specs.Prelude.{Option, Some, None, Result}
use Rattle.fc_base.specs.Answers as answers
use Rattle.fc_library.specs.declared.fault.LibFault.{LibFault}
use Rattle.fc_library.specs.declared.fault.LibFault.TheVariants.{NotToml, Unknown, Missing, WrongKind, Check, Rule, StepText, Memory}

-- the fault of the meaning that an error tells
abbrev pub told : LibFault → Option LibFault
told NotToml = Some NotToml
told (Unknown key) = Some (Unknown key)
told (Missing key) = Some (Missing key)
told (WrongKind key) = Some (WrongKind key)
told (Check fault) = Some (Check fault)
told (Rule rule) = Some (Rule rule)
told (StepText place) = Some (StepText place)
told Memory = None

abbrev pub GivesBy : {A B : Type 0} → (A → B) → Result A LibFault → Result B LibFault → Type 0
GivesBy seen = answers.Gives seen told

abbrev pub Gives : {A : Type 0} → Result A LibFault → Result A LibFault → Type 0
Gives = GivesBy (λ x. x)
