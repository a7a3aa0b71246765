-- What the steps of a script come to: a world, or the first step that can't be made. This profile's own.
use Rattle.std.specs.Prelude.{◌≡◌, ◌++◌, ℕ, List, [], ◌∷◌, codes, decimal, Option, Some, None, Result, Ok, Err}
use Rattle.fc_documents.specs.declared.transaction.PlanTxn.{PlanTxn}
use Rattle.fc_steps.specs.declared.step.Step.{Step}
use Rattle.fc_world.specs.Played.{Played, world_of}
use Rattle.fc_world.specs.Worlds.{WorldState, first_world}
use Rattle.fc_world.specs.WorldSteps.{fault_of, happens, run}
use Rattle.fc_world.specs.declared.faults.WorldFault.{WorldFault}
use Rattle.fc_world.specs.declared.faults.WorldFault.TheVariants as faults
use Rattle.fc_world.specs.declared.setting.Setting.{Setting}
use Rattle.fc_playing.specs.declared.playing.StepFault.{StepFault}

-- ---- what the steps come to
abbrev pub step_fault : ℕ → WorldFault → StepFault
step_fault place f = record { place = place; fault = f }

-- the world after all steps, or the first of them that can't be made where its turn comes
abbrev pub played_by : Option WorldFault → ℕ → Result WorldState StepFault → Result WorldState StepFault
played_by None place rest = rest
played_by (Some f) place rest = Err (step_fault place f)

abbrev pub played : List PlanTxn → WorldState → List (ℕ × Step) → Result WorldState StepFault
played ts w [] = Ok w
played ts w (x ∷ xs) = played_by (fault_of ts w x.1) x.0 (played ts (happens ts w x) xs)

-- the same from the first world on
abbrev pub played_from : Setting → List (ℕ × Step) → Result WorldState StepFault
played_from s steps = played s.transactions (first_world s) steps

-- ---- the same, told otherwise: each step can be made where its turn comes
abbrev pub CanAll : List PlanTxn → WorldState → List (ℕ × Step) → Type 0
CanAll ts w [] = Unit {0}
CanAll ts w (x ∷ xs) = (fault_of ts w x.1 ≡ None) × CanAll ts (happens ts w x) xs

abbrev pub AreMade : List PlanTxn → WorldState → List (ℕ × Step) → WorldState → Type 0
AreMade ts w steps new = CanAll ts w steps × (new ≡ run ts w steps)

-- a step can't be made after those before it, each of which could be
pub record IsFirstFault (ts : List PlanTxn) (w : WorldState) (steps : List (ℕ × Step)) (fault : StepFault) : Type 0 where
  pub before : List (ℕ × Step)
  pub step : Step
  pub after : List (ℕ × Step)
  pub split : steps ≡ before ++ (fault.place, step) ∷ after
  pub made : CanAll ts w before
  pub wrong : fault_of ts (run ts w before) step ≡ Some fault.fault

-- ---- the same of a world that is played

-- steps were made up to the first that can't be, with what they come to and the world then
abbrev pub PlaysTo : Option StepFault → Result WorldState StepFault → WorldState → Type 0
PlaysTo None meant new = meant ≡ Ok new
PlaysTo (Some f) meant new = meant ≡ Err f

-- a step was made, or it can't be made and all is as it was
abbrev pub IsMade : Option StepFault → Played → ℕ → Step → Played → Type 0
IsMade None old place step new =
    (fault_of old.setting.transactions (world_of old) step ≡ None) × (new ≡ record { setting = old.setting; done = old.done ++ (place, step) ∷ [] })
IsMade (Some f) old place step new = (f.place ≡ place) × (fault_of old.setting.transactions (world_of old) step ≡ Some f.fault) × (new ≡ old)

-- ---- the line of a step that can't be made
abbrev pub fault_word : WorldFault → List ℕ
fault_word faults.NoSuchName = codes "name"
fault_word faults.NoSuchMessage = codes "message"
fault_word faults.RoundUsed = codes "round"
fault_word faults.NotRunning = codes "notrunning"
fault_word faults.Running = codes "running"
fault_word faults.Memory = codes "memory"

unfoldable pub fault_text : StepFault → List ℕ
fault_text f = codes "refused script " ++ (fault_word f.fault ++ (codes " " ++ (decimal f.place ++ codes "\n")))
