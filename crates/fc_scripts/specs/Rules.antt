-- The rules that a script keeps beside those that a plan keeps too, each looked for in the whole script before the next one (this
-- profile's own).
use Rattle.std.specs.Prelude.{ℕ, ◌%◌, nat_eq, nat_le, ◌&&◌, Bool, List, map, length, Option}
use Rattle.std.specs.List.{list_all}
use Rattle.fc_types.specs.Ids.{is_distinct}
use Rattle.fc_documents.specs.Rules.{is_listed}
use Rattle.fc_steps.specs.declared.step.StepText.{StepText}
use Rattle.fc_scripts.specs.Steps.{count}

-- a controller's number, by which steps name it
abbrev pub number_of : ℕ → ℕ
number_of ce = ce % 256

-- at most 16 controllers, and 100,000 steps
abbrev pub keeps_counts : List ℕ → List (Option StepText) → Bool
keeps_counts controllers said = nat_le (length controllers) 16 && nat_le (count said) 100000

-- the controller that an element has of itself is listed
abbrev pub is_served : List ℕ → ℕ × ℕ → Bool
is_served controllers e = is_listed controllers e.1

-- no two controllers have one number, and each element's is listed
abbrev pub keeps_controllers : List (ℕ × ℕ) → List ℕ → Bool
keeps_controllers elements controllers = is_distinct nat_eq (map number_of controllers) && list_all (is_served controllers) elements
