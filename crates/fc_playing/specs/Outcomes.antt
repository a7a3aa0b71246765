-- The end of `world` as its document decides it, where nothing fails and memory suffices. This profile's own.
use Rattle.std.specs.Prelude.{◌≡◌, ◌++◌, ℕ, Bool, true, false, nat_lt, List, [], length, codes, Option, Some, Result, Ok, Err, ⊤}
use Rattle.fc_library.specs.Refusals.{refusal_text}
use Rattle.fc_library.specs.declared.fault.LibFault.{LibFault}
use Rattle.fc_scripts.specs.Scripts.{Scripted, script_of}
use Rattle.fc_world.specs.Reports.{world_report}
use Rattle.fc_world.specs.Worlds.{WorldState}
use Rattle.fc_playing.specs.Playing.{fault_text}
use Rattle.fc_playing.specs.WorldRun.{come_of}
use Rattle.fc_playing.specs.declared.end.PlayEnd.{PlayEnd}
use Rattle.fc_playing.specs.declared.end.PlayEnd.TheVariants.{Done, ReadFault, Refused, TooLong}
use Rattle.fc_playing.specs.declared.playing.StepFault.{StepFault}

-- the end, and what is written
pub record Outcome : Type 0 where
  pub end : PlayEnd
  pub text : List ℕ

abbrev pub outcome : PlayEnd → List ℕ → Outcome
outcome end text = record { end = end; text = text }

abbrev pub outcome_by_steps : Result WorldState StepFault → Outcome
outcome_by_steps (Ok w) = outcome Done (world_report w)
outcome_by_steps (Err f) = outcome Refused (fault_text f)

abbrev pub outcome_by : Bool → Result Scripted LibFault → Outcome
outcome_by true meant = outcome TooLong []
outcome_by false (Err fault) = outcome Refused (refusal_text (codes "script") fault)
outcome_by false (Ok s) = outcome_by_steps (come_of s)

-- where so many bytes of the document are looked at
abbrev pub outcome_of : ℕ → List ℕ → Outcome
outcome_of limit document = outcome_by (nat_lt limit (length document)) (script_of document)

-- it came to this end, where that had been written
pub record CameTo (o : Outcome) (how : PlayEnd) (old : List ℕ) (written : Option (List ℕ)) : Type 0 where
  pub end : how ≡ o.end
  pub text : written ≡ Some (old ++ o.text)

-- the endings in which nothing failed
abbrev pub IsOutcome : PlayEnd → Type 0
IsOutcome Done = ⊤
IsOutcome Refused = ⊤
IsOutcome TooLong = ⊤
IsOutcome ReadFault = ⊥
