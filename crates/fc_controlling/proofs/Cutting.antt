-- Two runs of `control` whose events make the same of its node.
use Rattle.std.proofs.Common.{◌≡◌, ◌++◌, ◌∷◌, ℕ, Bool, true, false, List, refl, sym, ap, ◌∙◌, Option, Some, Result, Ok, Err}
use Rattle.fc_hub.specs.Hubs.{Held, holds}
use Rattle.fc_hub.specs.Rounds.{Given}
use Rattle.fc_hub.specs.declared.event.Act.{Act}
use Rattle.fc_hub.specs.declared.event.HubEvent.{HubEvent}
use Rattle.fc_hub.specs.declared.event.HubEvent.TheVariants.{Bytes}
use Rattle.fc_documents.specs.Plans.{Planned}
use Rattle.fc_library.specs.declared.fault.LibFault.{LibFault}
use Rattle.fc_control.specs.ControlNode.{NodeState, acts_of, has_ended, node_after}
use Rattle.fc_control.specs.Pieces.{MakeTheSame, unnumbered}
use Rattle.fc_control.specs.Reports.{report_of}
use Rattle.fc_control.proofs.Runs.{run_alike}
use Rattle.fc_controlling.specs.ControlRun.{ControlEnds, control_status, report_after}
use Rattle.fc_controlling.specs.Meanings.{node_given, plan_for}
use Rattle.fc_controlling.specs.Outcomes.{CameTo, IsRunOut, Outcome, is_round, last_end, outcome, outcome_by, outcome_by_round, outcome_of}
use Rattle.fc_controlling.specs.RunsAlike.{EndAlike}
use Rattle.fc_controlling.specs.declared.asked.Asked.{Asked}
use Rattle.fc_controlling.specs.declared.asked.ControlEnd.{ControlEnd}
use Rattle.fc_controlling.proofs.Deciding.{decided}

same_by_round : (b : Bool) (n : NodeState) (round : ℕ) (these those : List HubEvent) → MakeTheSame n these those → outcome_by_round b n round these ≡ outcome_by_round b n round those
same_by_round false n round these those same = refl
same_by_round true n round these those same =
    ap (λ (m : NodeState). outcome (last_end (has_ended m.control) m.control) (report_of m.control) (unnumbered (acts_of 0 n these))) same.state
    ∙ ap (outcome (last_end (has_ended (node_after n those).control) (node_after n those).control) (report_after n those)) (same.acts 0)

same_by : (b : Bool) (asked : Asked) (meant : Result Planned LibFault) (round : ℕ) (these those : List HubEvent) → ((n : NodeState) → MakeTheSame n these those)
    → outcome_by b asked meant round these ≡ outcome_by b asked meant round those
same_by true asked meant round these those same = refl
same_by false asked (Err fault) round these those same = refl
same_by false asked (Ok plan) round these those same =
    let n = node_given asked.ce round (Ok plan) in
    same_by_round (is_round round) n round these those (same n)

-- two that came to one outcome
alike : (o p : Outcome) (one other : ControlEnd) (done : List (ℕ × Act)) (first second : Option Held) (old : List ℕ) (new renewed : Option (List ℕ)) → o ≡ p → CameTo o one done first old new
    → CameTo p other done second old renewed → EndAlike one other first second new renewed
alike o p one other done first second old new renewed same here there =
    let end : one ≡ other = here.end ∙ ap (λ x. x.end) same ∙ sym there.end in
    record {
      end = end;
      status = ap (λ e. control_status (Ok e)) end;
      acts = here.acts ∙ ap (λ x. Some (unnumbered done ++ x.acts)) same ∙ sym there.acts;
      text = here.text ∙ ap (λ x. Some (old ++ x.text)) same ∙ sym there.text;
    }

pub cut_alike : (limit : ℕ) (asked : Asked) (document : List ℕ) (before after : List HubEvent) (peer : ℕ) (front back : List ℕ) (taken : ℕ) (done : List (ℕ × Act)) (given gave : Given) (one other : ControlEnd)
    (l k : Option (List ℕ)) (first second : Option Held) (old : List ℕ) (new renewed : Option (List ℕ)) (read reads served serves took takes : ℕ × ℕ) → IsRunOut one → IsRunOut other
    → ControlEnds limit asked read served took (Ok one) (Some document) l given gave (Some (holds (before ++ Bytes peer front ∷ Bytes peer back ∷ after) taken done)) first (Some old) new
    → ControlEnds limit asked reads serves takes (Ok other) (Some document) k given gave (Some (holds (before ++ Bytes peer (front ++ back) ∷ after) taken done)) second (Some old) renewed
    → EndAlike one other first second new renewed
cut_alike limit asked document before after peer front back taken done given gave one other l k first second old new renewed read reads served serves took takes a b here there =
    let these = before ++ Bytes peer front ∷ Bytes peer back ∷ after in
    let those = before ++ Bytes peer (front ++ back) ∷ after in
    alike (outcome_of limit asked document gave.last these) (outcome_of limit asked document gave.last those) one other done first second old new renewed
    (same_by _ asked (plan_for asked.addresses document) gave.last these those (λ n. run_alike n before after peer front back))
    (decided one limit asked document l given gave these taken done first old new read served took a here)
    (decided other limit asked document k given gave those taken done second old renewed reads serves takes b there)
