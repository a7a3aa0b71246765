-- The end of `control` as its document, its round and its events decide it, where nothing fails, memory suffices and there are fewer
-- events than are to be taken. This profile's own.
use Rattle.std.specs.Prelude.{◌≡◌, ℕ, ◌&&◌, ◌^◌, Bool, true, false, nat_lt, List, [], ◌++◌, length, Option, Some, Result, Ok, Err, option_map, ⊤}
use Rattle.fc_hub.specs.Hubs.{Held}
use Rattle.fc_hub.specs.declared.event.HubEvent.{HubEvent}
use Rattle.fc_hub.specs.declared.event.Act.{Act}
use Rattle.fc_documents.specs.Plans.{Planned}
use Rattle.fc_library.specs.declared.fault.LibFault.{LibFault}
use Rattle.fc_control.specs.ControlNode.{ControlState, NodeState, acts_of, has_ended, node_after}
use Rattle.fc_control.specs.Pieces.{unnumbered}
use Rattle.fc_control.specs.Reports.{is_done}
use Rattle.fc_controlling.specs.ControlRun.{if_done, no_round_text, refused_text, report_after}
use Rattle.fc_controlling.specs.Meanings.{node_given, plan_for}
use Rattle.fc_controlling.specs.declared.asked.Asked.{Asked}
use Rattle.fc_controlling.specs.declared.asked.ControlEnd.{ControlEnd}
use Rattle.fc_controlling.specs.declared.asked.ControlEnd.TheVariants.{Deposed, Done, HubFault, NoRound, ReadFault, Refused, RoundsFault, TooLong, Turns, Unfinished}

-- the end, what is written, and what is done on the hub
pub record Outcome : Type 0 where
  pub end : ControlEnd
  pub text : List ℕ
  pub acts : List Act

abbrev pub outcome : ControlEnd → List ℕ → List Act → Outcome
outcome end text acts = record { end = end; text = text; acts = acts }

-- whether a number is a round of a control element
abbrev pub is_round : ℕ → Bool
is_round round = nat_lt 0 round && nat_lt round (2 ^ 24)

-- the end once all events were taken, or all up to the one that deposed it
abbrev pub last_end : Bool → ControlState → ControlEnd
last_end true n = Deposed
last_end false n = if_done (is_done n)

abbrev pub outcome_by_round : Bool → NodeState → ℕ → List HubEvent → Outcome
outcome_by_round false n round coming = outcome NoRound (no_round_text round) []
outcome_by_round true n round coming =
    outcome (last_end (has_ended (node_after n coming).control) (node_after n coming).control) (report_after n coming) (unnumbered (acts_of 0 n coming))

abbrev pub outcome_by : Bool → Asked → Result Planned LibFault → ℕ → List HubEvent → Outcome
outcome_by true asked meant round coming = outcome TooLong [] []
outcome_by false asked (Err fault) round coming = outcome Refused (refused_text (Err fault)) []
outcome_by false asked (Ok plan) round coming = outcome_by_round (is_round round) (node_given asked.ce round (Ok plan)) round coming

-- where so many bytes of the document are looked at
abbrev pub outcome_of : ℕ → Asked → List ℕ → ℕ → List HubEvent → Outcome
outcome_of limit asked document round coming = outcome_by (nat_lt limit (length document)) asked (plan_for asked.addresses document) round coming

-- the acts that a hub holds, without their numbers of events
abbrev pub acts_held : Option Held → Option (List Act)
acts_held held = option_map (λ h. unnumbered h.acts) held

-- it came to this end, where these acts had been done and that had been written
pub record CameTo (o : Outcome) (how : ControlEnd) (done : List (ℕ × Act)) (new : Option Held) (old : List ℕ) (written : Option (List ℕ)) : Type 0 where
  pub end : how ≡ o.end
  pub acts : acts_held new ≡ Some (unnumbered done ++ o.acts)
  pub text : written ≡ Some (old ++ o.text)

-- the endings in which nothing failed, and fewer events were taken than are to be taken
abbrev pub IsRunOut : ControlEnd → Type 0
IsRunOut Done = ⊤
IsRunOut Unfinished = ⊤
IsRunOut Deposed = ⊤
IsRunOut NoRound = ⊤
IsRunOut Refused = ⊤
IsRunOut TooLong = ⊤
IsRunOut Turns = ⊥
IsRunOut HubFault = ⊥
IsRunOut RoundsFault = ⊥
IsRunOut ReadFault = ⊥
