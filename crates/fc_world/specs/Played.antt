-- A world as it is seen: its setting and the steps done, each with the place of its text. All else of it follows from these. This profile's own.
use Rattle.std.specs.Prelude.{◌≡◌, ℕ, ⊤, List, [], ◌∷◌, None}
use Rattle.fc_documents.specs.declared.transaction.PlanTxn.{PlanTxn}
use Rattle.fc_exec.specs.declared.operations.Operation.{Operation}
use Rattle.fc_machine.specs.Trace.{Fact}
use Rattle.fc_scripts.specs.Scripts.{Scripted}
use Rattle.fc_steps.specs.declared.step.Step.{Step}
use Rattle.fc_world.specs.Reports.{world_report}
use Rattle.fc_world.specs.Stages.{HasRound}
use Rattle.fc_world.specs.Worlds.{WorldState, first_world}
use Rattle.fc_world.specs.WorldSteps.{facts, fault_of, happens, run}
use Rattle.fc_world.specs.declared.setting.Setting.{Setting}

pub record Played : Type 0 where
  pub setting : Setting
  pub done : List (ℕ × Step)

-- a script but for its steps
abbrev pub setting_of : Scripted → Setting
setting_of s = record { library = s.library; instances = s.instances; elements = s.elements; controllers = s.controllers; transactions = s.transactions }

-- before the first step
abbrev pub begins_with : Setting → Played
begins_with s = record { setting = s; done = [] }

-- the world after these steps
abbrev pub world_after : Setting → List (ℕ × Step) → WorldState
world_after s done = run s.transactions (first_world s) done

abbrev pub world_of : Played → WorldState
world_of p = world_after p.setting p.done

-- all that has happened at the elements, the newest first
abbrev pub trace_of : Played → List (Fact Operation)
trace_of p = facts p.setting.transactions (first_world p.setting) p.done

abbrev pub report_of : Played → List ℕ
report_of p = world_report (world_of p)

-- each step could be made when it was, and a life that it begins has a round
abbrev pub AreMade : List PlanTxn → WorldState → List (ℕ × Step) → Type 0
AreMade ts w [] = ⊤
AreMade ts w (x ∷ xs) = (fault_of ts w x.1 ≡ None) × HasRound x.1 × AreMade ts (happens ts w x) xs
