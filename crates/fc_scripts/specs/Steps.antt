-- The steps that the texts of a script say, each with the place of its text, counted from 1 (this profile's own).
use Rattle.std.specs.Prelude.{ℕ, zero, suc, ◌+◌, ◌-◌, List, [], ◌∷◌, ◌++◌, map, Option, Some, None, Result, Ok, Err}
use Rattle.fc_base.specs.Answers.{◌>>=◌}
use Rattle.fc_library.specs.declared.fault.LibFault.{LibFault}
use Rattle.fc_library.specs.declared.fault.LibFault.TheVariants.{StepText as StepFault}
use Rattle.fc_steps.specs.declared.step.Step.{Step}
use Rattle.fc_steps.specs.declared.step.Step.TheVariants as step
use Rattle.fc_steps.specs.declared.step.StepText.{StepText}
use Rattle.fc_steps.specs.declared.step.StepText.TheVariants.{One, Deliveries}

-- how many deliveries a text says behind a first step
abbrev pub behind_first : Option StepText → ℕ
behind_first None = 0
behind_first (Some (One s)) = 0
behind_first (Some (Deliveries first last)) = last - first

-- how many steps the texts say, where one that says none counts as one
abbrev pub count : List (Option StepText) → ℕ
count [] = 0
count (t ∷ ts) = 1 + behind_first t + count ts

-- so many numbers, from one on
abbrev pub numbers_from : ℕ → ℕ → List ℕ
numbers_from first zero = []
numbers_from first (suc more) = first ∷ numbers_from (first + 1) more

abbrev pub delivery : ℕ → ℕ → ℕ × Step
delivery place i = (place, step.Deliver i)

-- the delivery of each message from one place to another
abbrev pub deliveries : ℕ → ℕ → ℕ → List (ℕ × Step)
deliveries place first last = map (delivery place) (numbers_from first (last - first)) ++ delivery place last ∷ []

-- the steps that the text at a place says
abbrev pub steps_at : ℕ → StepText → List (ℕ × Step)
steps_at place (One s) = (place, s) ∷ []
steps_at place (Deliveries first last) = deliveries place first last

-- the steps that the texts from a place on say, or the place of the first that says none
abbrev pub steps_from : ℕ → List (Option StepText) → Result (List (ℕ × Step)) LibFault
steps_from place [] = Ok []
steps_from place (None ∷ ts) = Err (StepFault place)
steps_from place (Some t ∷ ts) = steps_from (place + 1) ts >>= λ more. Ok (steps_at place t ++ more)
