-- Two runs of `element` over events that make the same of a node have one ending, with the same acts and the same text.
use Rattle.std.proofs.Common.{◌≡◌, ◌++◌, ◌∷◌, ℕ, List, refl, sym, ap, subst, ◌∙◌, Option, Some, Result, Ok, Err}
use Rattle.std.proofs.lemmas.List.{map-append}
use Rattle.fc_element.specs.Reports.{report_of}
use Rattle.fc_hub.specs.Hubs.{Held, holds}
use Rattle.fc_hub.specs.declared.event.Act.{Act}
use Rattle.fc_hub.specs.declared.event.HubEvent.{HubEvent}
use Rattle.fc_hub.specs.declared.event.HubEvent.TheVariants.{Bytes}
use Rattle.fc_library.specs.Documents.{library_of}
use Rattle.fc_serving.specs.declared.end.ElementEnd.{ElementEnd}
use Rattle.fc_serving.specs.declared.end.ElementEnd.TheVariants.{Done, ReadFault, HubFault, Refused, Turns, TooLong}
use Rattle.fc_endings.specs.declared.stops.Stop.{Stop}
use Rattle.fc_serving.specs.Serving.{Went}
use Rattle.fc_serving.specs.ElementNode.{NodeState, acts_of, node_by}
use Rattle.fc_serving.specs.ElementRun.{ElementEnds, refused_text, report_after}
use Rattle.fc_serving.specs.Pieces.{MakeTheSame, unnumbered}
use Rattle.fc_serving.specs.RunsAlike.{EndAlike, IsRunOut, acts_held}
use Rattle.fc_serving.proofs.Outcomes.{library_or_none}
use Rattle.fc_serving.proofs.Runs.{run_alike}
use Rattle.fc_endings.proofs.Endings.{same_text}
use Rattle.fc_endings.proofs.Looking.{all_read, read_twice, whole_long}

-- the acts that were done before, and those of all events
acts_went : (coming events : List HubEvent) (taken : ℕ) (n : NodeState) (done : List (ℕ × Act)) (new : Option Held) → coming ≡ events
    → Went (Some (holds coming taken done)) new n events
    → acts_held new ≡ Some (unnumbered done ++ unnumbered (acts_of taken n coming))
acts_went coming events taken n done new all (more, split, is) =
    ap acts_held is ∙ ap Some (map-append (λ act. act.1) done (acts_of taken n events))
    ∙ ap (λ es. Some (unnumbered done ++ unnumbered (acts_of taken n es))) (sym all)

runs_alike : (one other : Result ElementEnd Stop) (limit id ce turns : ℕ) (document : List ℕ) (these those : List HubEvent) (taken : ℕ) (done : List (ℕ × Act)) (l k : Option (List ℕ)) (first second : Option Held)
    (old : List ℕ) (new renewed : Option (List ℕ)) (read reads served serves : ℕ × ℕ) → MakeTheSame (node_by id ce document) these those → IsRunOut one → IsRunOut other
    → ElementEnds limit id ce turns read served one (Some document) l (Some (holds these taken done)) first (Some old) new
    → ElementEnds limit id ce turns reads serves other (Some document) k (Some (holds those taken done)) second (Some old) renewed
    → EndAlike one other first second new renewed
runs_alike (Ok Done) (Ok Done) limit id ce turns document these those taken done l k first second old new renewed p q u v same a b (said, (bytes, events, seen, judged, (few, went, all), is, counts), wrote) (told, (read, others, looked, weighed, (less, goes, whole), says, tells), writes) =
    let n = node_by id ce document in
    let here : node_by id ce bytes ≡ n = sym (ap (node_by id ce) (all_read document bytes l seen.0 seen.1)) in
    let there : node_by id ce read ≡ n = sym (ap (node_by id ce) (all_read document read k looked.0 looked.1)) in
    record {
      status = refl;
      acts = acts_went these events taken n done first all (subst (λ (m : NodeState). Went (Some (holds these taken done)) first m events) here went) ∙ ap (λ acts. Some (unnumbered done ++ acts)) (same.acts taken)
          ∙ sym (acts_went those others taken n done second whole (subst (λ (m : NodeState). Went (Some (holds those taken done)) second m others) there goes));
      text = same_text old new renewed _ _ wrote writes
          (is ∙ ap (λ (m : NodeState). report_after m events) here ∙ ap (report_after n) (sym all) ∙ ap (λ m. report_of m.element) same.state ∙ ap (report_after n) whole ∙ sym (says ∙ ap (λ (m : NodeState). report_after m others) there));
    }
runs_alike (Ok Refused) (Ok Refused) limit id ce turns document these those taken done l k first second old new renewed p q u v same a b (said, (bytes, events, seen, judged, kept, is, counts), wrote) (told, (read, others, looked, weighed, stays, says, tells), writes) =
    record {
      status = refl;
      acts = ap acts_held kept ∙ sym (ap acts_held stays);
      text = same_text old new renewed _ _ wrote writes (is ∙ ap (λ b. refused_text (library_of b)) (read_twice limit document bytes read l k seen looked) ∙ sym says);
    }
runs_alike (Ok TooLong) (Ok TooLong) limit id ce turns document these those taken done l k first second old new renewed p q u v same a b (said, (bytes, events, seen, judged, kept, is, counts), wrote) (told, (read, others, looked, weighed, stays, says, tells), writes) =
    record {
      status = refl;
      acts = ap acts_held kept ∙ sym (ap acts_held stays);
      text = same_text old new renewed _ _ wrote writes (is ∙ sym says);
    }
runs_alike (Ok Done) (Ok Refused) limit id ce turns document these those taken done l k first second old new renewed p q u v same a b x y = absurd (library_or_none limit document x.1.0 y.1.0 l k x.1.2 y.1.2 x.1.3 y.1.3)
runs_alike (Ok Done) (Ok TooLong) limit id ce turns document these those taken done l k first second old new renewed p q u v same a b x y = absurd (whole_long limit document x.1.0 y.1.0 l k x.1.2 y.1.2)
runs_alike (Ok Refused) (Ok Done) limit id ce turns document these those taken done l k first second old new renewed p q u v same a b x y = absurd (library_or_none limit document y.1.0 x.1.0 k l y.1.2 x.1.2 y.1.3 x.1.3)
runs_alike (Ok Refused) (Ok TooLong) limit id ce turns document these those taken done l k first second old new renewed p q u v same a b x y = absurd (whole_long limit document x.1.0 y.1.0 l k x.1.2 y.1.2)
runs_alike (Ok TooLong) (Ok Done) limit id ce turns document these those taken done l k first second old new renewed p q u v same a b x y = absurd (whole_long limit document y.1.0 x.1.0 k l y.1.2 x.1.2)
runs_alike (Ok TooLong) (Ok Refused) limit id ce turns document these those taken done l k first second old new renewed p q u v same a b x y = absurd (whole_long limit document y.1.0 x.1.0 k l y.1.2 x.1.2)
runs_alike (Ok Turns) other limit id ce turns document these those taken done l k first second old new renewed p q u v same a b x y = absurd a
runs_alike (Ok ReadFault) other limit id ce turns document these those taken done l k first second old new renewed p q u v same a b x y = absurd a
runs_alike (Ok HubFault) other limit id ce turns document these those taken done l k first second old new renewed p q u v same a b x y = absurd a
runs_alike (Err stop) other limit id ce turns document these those taken done l k first second old new renewed p q u v same a b x y = absurd a
runs_alike (Ok Done) (Ok Turns) limit id ce turns document these those taken done l k first second old new renewed p q u v same a b x y = absurd b
runs_alike (Ok Done) (Ok ReadFault) limit id ce turns document these those taken done l k first second old new renewed p q u v same a b x y = absurd b
runs_alike (Ok Done) (Ok HubFault) limit id ce turns document these those taken done l k first second old new renewed p q u v same a b x y = absurd b
runs_alike (Ok Done) (Err stop) limit id ce turns document these those taken done l k first second old new renewed p q u v same a b x y = absurd b
runs_alike (Ok Refused) (Ok Turns) limit id ce turns document these those taken done l k first second old new renewed p q u v same a b x y = absurd b
runs_alike (Ok Refused) (Ok ReadFault) limit id ce turns document these those taken done l k first second old new renewed p q u v same a b x y = absurd b
runs_alike (Ok Refused) (Ok HubFault) limit id ce turns document these those taken done l k first second old new renewed p q u v same a b x y = absurd b
runs_alike (Ok Refused) (Err stop) limit id ce turns document these those taken done l k first second old new renewed p q u v same a b x y = absurd b
runs_alike (Ok TooLong) (Ok Turns) limit id ce turns document these those taken done l k first second old new renewed p q u v same a b x y = absurd b
runs_alike (Ok TooLong) (Ok ReadFault) limit id ce turns document these those taken done l k first second old new renewed p q u v same a b x y = absurd b
runs_alike (Ok TooLong) (Ok HubFault) limit id ce turns document these those taken done l k first second old new renewed p q u v same a b x y = absurd b
runs_alike (Ok TooLong) (Err stop) limit id ce turns document these those taken done l k first second old new renewed p q u v same a b x y = absurd b

pub cut_alike : (limit id ce turns : ℕ) (document : List ℕ) (before after : List HubEvent) (peer : ℕ) (front back : List ℕ) (taken : ℕ) (done : List (ℕ × Act)) (one other : Result ElementEnd Stop)
    (l k : Option (List ℕ)) (first second : Option Held) (old : List ℕ) (new renewed : Option (List ℕ)) (read reads served serves : ℕ × ℕ) → IsRunOut one → IsRunOut other
    → ElementEnds limit id ce turns read served one (Some document) l (Some (holds (before ++ Bytes peer front ∷ Bytes peer back ∷ after) taken done)) first (Some old) new
    → ElementEnds limit id ce turns reads serves other (Some document) k (Some (holds (before ++ Bytes peer (front ++ back) ∷ after) taken done)) second (Some old) renewed
    → EndAlike one other first second new renewed
cut_alike limit id ce turns document before after peer front back taken done one other l k first second old new renewed p q u v a b x y =
    runs_alike one other limit id ce turns document (before ++ Bytes peer front ∷ Bytes peer back ∷ after) (before ++ Bytes peer (front ++ back) ∷ after) taken done l k first second old new renewed p q u v
    (run_alike (node_by id ce document) before after peer front back) a b x y
