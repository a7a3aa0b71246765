-- What steps come to, up to the first that can't be made. This profile's own.
use Rattle.std.specs.Prelude.{◌≡◌, ℕ, Bool, true, false, List, [], ◌∷◌, length, Option, Some, None}
use Rattle.fc_documents.specs.declared.transaction.PlanTxn.{PlanTxn}
use Rattle.fc_generated.specs.Generated.{generated}
use Rattle.fc_scripts.specs.Scripts.{Scripted}
use Rattle.fc_steps.specs.declared.step.Step.{Step}
use Rattle.fc_world.specs.Played.{setting_of}
use Rattle.fc_world.specs.Trails.{TrailSoFar, trail_of}
use Rattle.fc_world.specs.Worlds.{WorldState, first_world}
use Rattle.fc_world.specs.WorldSteps.{fault_of, happens}
use Rattle.fc_world.specs.declared.faults.WorldFault.{WorldFault}

-- the world behind a step that can be made, or else the one before it
abbrev pub tried_by : Option WorldFault → WorldState → WorldState → WorldState
tried_by None behind before = behind
tried_by (Some fault) behind before = before

-- the steps in their order; one that can't be made is the end
abbrev pub tried : List PlanTxn → WorldState → List (ℕ × Step) → WorldState
tried ts w [] = w
tried ts w (x ∷ xs) = tried_by (fault_of ts w x.1) (tried ts (happens ts w x) xs) w

-- the same where the first of them was tried, and was made or not, and this is the world then
abbrev pub tried_behind : Bool → List PlanTxn → WorldState → List (ℕ × Step) → WorldState
tried_behind true ts w xs = tried ts w xs
tried_behind false ts w xs = w

-- the last world of a script
abbrev pub last_world : Scripted → WorldState
last_world s = tried s.transactions (first_world (setting_of s)) s.steps

-- and that of a large run
abbrev pub world_of_run : ℕ → WorldState
world_of_run n = last_world (generated n)

-- a trail that is past all messages that were sent in a world
pub record Follows (t : TrailSoFar) (w : WorldState) : Type 0 where
  pub count : t.count ≡ length w.sent
  pub number : t.number ≡ trail_of w.sent
