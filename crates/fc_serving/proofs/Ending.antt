-- How `element` ends, from how its parts ended.
use Rattle.std.proofs.Common.{◌≡◌, ◌≢◌, ℕ, List, refl, sym, ap, subst, ◌∙◌, inl, inr, [], codes, Option, Result, Ok, Err, IfOk}
use Rattle.std.specs.Prelude.{OnErr, OnOk}
use Rattle.std.specs.Io.KnownBytes.{Appends, Keeps}
use Rattle.std.proofs.KnownBytes.{Appends-nil}
use Rattle.fc_base.specs.Content.{AppendsFront}
use Rattle.fc_element.specs.ElementState.{ElementState}
use Rattle.fc_element.specs.Reports.{report_of}
use Rattle.fc_hub.specs.Hubs.{Held}
use Rattle.fc_hub.specs.declared.event.HubEvent.{HubEvent}
use Rattle.fc_peers.specs.Acting.{HubCount}
use Rattle.fc_peers.specs.declared.acting.NodeStop.{NodeStop}
use Rattle.fc_peers.specs.declared.acting.NodeStop.TheVariants as node_stop
use Rattle.fc_serving.specs.declared.end.ElementEnd.{ElementEnd}
use Rattle.fc_serving.specs.declared.end.ElementEnd.TheVariants.{Done, HubFault, ReadFault, Refused, TooLong, Turns}
use Rattle.fc_endings.specs.declared.input.Look.{Look}
use Rattle.fc_endings.specs.declared.input.Look.TheVariants as look
use Rattle.fc_serving.specs.declared.serve.Served.{Served}
use Rattle.fc_serving.specs.declared.serve.Served.TheVariants as served
use Rattle.fc_endings.specs.declared.stops.Stop.{Stop}
use Rattle.fc_endings.specs.declared.stops.Stop.TheVariants.{NoMemory}
use Rattle.fc_serving.specs.Serving.{ServeEnds}
use Rattle.fc_serving.specs.ElementNode.{NodeState, node, first_node, node_by, node_given}
use Rattle.fc_types.specs.declared.class.Class.{Class}
use Rattle.fc_library.specs.Documents.{GivesLibrary, library_of}
use Rattle.fc_element.proofs.Openings.{opened_same}
use Rattle.std.specs.FinMap.{empty}
use Rattle.fc_library.specs.Gives.{Gives}
use Rattle.fc_library.specs.Refusals.{refusal_text}
use Rattle.fc_library.specs.declared.fault.LibFault.{LibFault}
use Rattle.fc_library.specs.declared.fault.LibFault.TheVariants as fault
use Rattle.fc_endings.specs.Endings.{RoseIf}
use Rattle.fc_endings.specs.Looks.{LookCount, LookEnds}
use Rattle.fc_serving.specs.ElementRun.{DocumentEnds, DocumentLacked, DocumentWent, ElementEnds, ElementLacked, ElementWent, IsRun, JudgedSo, MeansLibrary, RunEnds, RunLacked, RunWent, element_text, end_by, is_unread, look_of, refused_text}
use Rattle.fc_endings.proofs.Endings.{finished_ends, told_ends, widened}

document_lacks : (limit id ce turns f f' h h' : ℕ) (bytes : List ℕ) (before left : Option (List ℕ)) (old new : Option Held) → LookEnds limit (Ok look.Whole) bytes before left → f' ≡ f
    → DocumentLacked id ce turns bytes (h, h') old new → ElementLacked limit id ce turns (f, f') (h, h') before left old new
document_lacks limit id ce turns f f' h h' bytes before left old new read source (hub, inl kept) = ((source, hub), inl (bytes, read.0, read.2, kept))
document_lacks limit id ce turns f f' h h' bytes before left old new read source (hub, inr (means, lacked)) = ((source, hub), inr (bytes, read, means, lacked))

-- the count of a source that was read whole
read_whole : (end : ElementEnd) (f f' : ℕ) → look_of end ≡ look.Whole → f' ≡ f → RoseIf (is_unread end) f f'
read_whole Done f f' whole count = count
read_whole Turns f f' whole count = count
read_whole HubFault f f' whole count = count
read_whole Refused f f' whole count = count
read_whole ReadFault f f' whole count = cc whole
read_whole TooLong f f' whole count = count

-- the document was read whole
pub document_ends : (how : Result ElementEnd Stop) (limit id ce turns f f' h h' : ℕ) (bytes : List ℕ) (before left : Option (List ℕ)) (old new : Option Held) (text now : Option (List ℕ))
    → LookEnds limit (Ok look.Whole) bytes before left → f' ≡ f → DocumentEnds id ce turns bytes (h, h') how old new text now
    → ElementEnds limit id ce turns (f, f') (h, h') how before left old new text now
document_ends how limit id ce turns f f' h h' bytes before left old new text now read source ends =
    widened ElementEnd (DocumentWent id ce turns bytes (h, h') old new) (ElementWent limit id ce turns (f, f') (h, h') before left old new)
    (DocumentLacked id ce turns bytes (h, h') old new) (ElementLacked limit id ce turns (f, f') (h, h') before left old new) how text now
    (λ end written went. (bytes, went.0, rw went.1 read, went.2, went.3, went.4, (read_whole end f f' went.1 source, went.5)))
    (λ lacked. document_lacks limit id ce turns f f' h h' bytes before left old new read source lacked) ends

-- what was written stands after the flush, and where the flush stopped
pub element_finished : (end : ElementEnd) (how : Result ElementEnd Stop) (limit id ce turns : ℕ) (source hub : ℕ × ℕ) (before left : Option (List ℕ)) (old new : Option Held) (text mid now : Option (List ℕ))
    → ElementEnds limit id ce turns source hub (Ok end) before left old new text mid → IfOk how (λ last. last ≡ end) → Keeps mid now
    → ElementEnds limit id ce turns source hub how before left old new text now
element_finished end how limit id ce turns source hub before left old new text mid now ends is kept =
    finished_ends ElementEnd (ElementWent limit id ce turns source hub before left old new) (ElementLacked limit id ce turns source hub before left old new) end how text mid now ends is kept

-- ---- over the hub, where the document means a library

run_is_whole : (end : ElementEnd) → IsRun end → look_of end ≡ look.Whole
run_is_whole Done run = refl
run_is_whole Turns run = refl
run_is_whole HubFault run = refl
run_is_whole Refused run = absurd run
run_is_whole ReadFault run = absurd run
run_is_whole TooLong run = absurd run

run_is_judged : (end : ElementEnd) (bytes : List ℕ) → IsRun end → MeansLibrary bytes → JudgedSo end bytes
run_is_judged Done bytes run means = means
run_is_judged Turns bytes run means = means
run_is_judged HubFault bytes run means = means
run_is_judged Refused bytes run means = absurd run
run_is_judged ReadFault bytes run means = absurd run
run_is_judged TooLong bytes run means = absurd run

run_text : (n : NodeState) (end : ElementEnd) (bytes : List ℕ) (events : List HubEvent) → IsRun end → element_text n end [] events ≡ element_text n end bytes events
run_text n Done bytes events run = refl
run_text n Turns bytes events run = refl
run_text n HubFault bytes events run = refl
run_text n Refused bytes events run = absurd run
run_text n ReadFault bytes events run = absurd run
run_text n TooLong bytes events run = absurd run

node_ends : (how : Result ElementEnd Stop) (id ce turns : ℕ) (bytes : List ℕ) (hub : ℕ × ℕ) (old new : Option Held) (text now : Option (List ℕ))
    → MeansLibrary bytes → RunEnds (node_by id ce bytes) turns hub how old new text now → DocumentEnds id ce turns bytes hub how old new text now
node_ends how id ce turns bytes hub old new text now means ends =
    let n = node_by id ce bytes in
    widened ElementEnd (RunWent n turns hub old new) (DocumentWent id ce turns bytes hub old new) (RunLacked n turns hub old new) (DocumentLacked id ce turns bytes hub old new) how text now
    (λ end written went. (went.0, run_is_whole end went.1, run_is_judged end bytes went.1 means, went.2, went.3 ∙ run_text n end bytes went.0 went.1, went.4))
    (λ lacked. (lacked.0, inr (means, lacked.1))) ends

pub library_ends : (how : Result ElementEnd Stop) (id ce turns : ℕ) (bytes : List ℕ) (library : List Class) (instances : List (ℕ × ℕ)) (hub : ℕ × ℕ) (old new : Option Held) (text now : Option (List ℕ))
    → GivesLibrary (Ok (library, instances)) (library_of bytes) → RunEnds (first_node id ce library instances) turns hub how old new text now → DocumentEnds id ce turns bytes hub how old new text now
library_ends how id ce turns bytes library instances hub old new text now (pairs, is, moved, order) ends =
    let same : node_by id ce bytes ≡ first_node id ce library instances = ap (node_given id ce) is ∙ ap (λ e. node e empty) (opened_same id ce library pairs instances moved) in
    node_ends how id ce turns bytes hub old new text now ((library, pairs), is) (subst (λ (n : NodeState). RunEnds n turns hub how old new text now) (sym same) ends)

-- ---- over the hub, once the node was made

served_went : (how : Served) (n : NodeState) (turns h h' : ℕ) (last : NodeState) (old new : Option Held) → ServeEnds (Ok how) turns n last old new → h' ≡ h
    → RunWent n turns (h, h') old new (end_by how) (report_of last.element)
served_went served.Over n turns h h' last old new (events, few, went, all, is) hub = (events, tt, (few, went, all), ap (λ (m : NodeState). report_of m.element) is, hub)
served_went served.Turns n turns h h' last old new (events, count, went, is) hub = (events, tt, (count, went), ap (λ (m : NodeState). report_of m.element) is, hub)

-- the report on it was written, or a front of that
pub served_ends : (how : Result ElementEnd Stop) (served : Served) (n : NodeState) (turns h h' : ℕ) (first last : NodeState) (old new : Option Held) (text now : Option (List ℕ)) (end : ElementEnd) (element : ElementState)
    → ServeEnds (Ok served) turns first last old new → h' ≡ h → first ≡ n → end ≡ end_by served → element ≡ last.element
    → IfOk how (λ e. e ≡ end) → OnOk how (Appends text now (report_of element)) → OnErr how (AppendsFront text now (report_of element)) → RunEnds n turns (h, h') how old new text now
served_ends how served n turns h h' first last old new text now end element ends count begun is same =
    told_ends ElementEnd (RunWent n turns (h, h') old new) (RunLacked n turns (h, h') old new) how end text now (report_of element)
    (subst (λ x. RunWent n turns (h, h') old new end (report_of x)) (sym same) (subst (λ e. RunWent n turns (h, h') old new e (report_of last.element)) (sym is)
    (subst (λ (m : NodeState). RunWent m turns (h, h') old new (end_by served) (report_of last.element)) begun (served_went served first turns h h' last old new ends count))))

-- the hub failed
pub unserved_ends : (stop : NodeStop) (n : NodeState) (turns h h' : ℕ) (first last : NodeState) (old new : Option Held) (known : Option (List ℕ)) → ServeEnds (Err stop) turns first last old new
    → HubCount {T = Served} (Err stop) h h' → stop ≡ node_stop.HubFault → first ≡ n → RunEnds n turns (h, h') (Ok HubFault) old new known known
unserved_ends stop n turns h h' first last old new known (events, few, broke) count failed begun =
    subst (λ (m : NodeState). RunEnds m turns (h, h') (Ok HubFault) old new known known) begun
    ([], (events, tt, (few, rw failed at broke), refl, subst (λ s. HubCount {T = Served} (Err s) h h') failed count), Appends-nil known)

-- memory lacked
pub unserved_lacks : (stop : NodeStop) (n : NodeState) (turns h h' : ℕ) (first last : NodeState) (old new : Option Held) (known : Option (List ℕ)) → ServeEnds (Err stop) turns first last old new
    → HubCount {T = Served} (Err stop) h h' → stop ≡ node_stop.NoMemory → first ≡ n → RunEnds n turns (h, h') (Err NoMemory) old new known known
unserved_lacks stop n turns h h' first last old new known (events, few, broke) count lacked begun =
    subst (λ (m : NodeState). RunEnds m turns (h, h') (Err NoMemory) old new known known) begun
    (inr ((subst (λ s. HubCount {T = Served} (Err s) h h') lacked count, inr (events, few, rw lacked at broke)), Appends-nil known))

pub begun_lacks : (n : NodeState) (turns h : ℕ) (held : Option Held) (known : Option (List ℕ)) → RunEnds n turns (h, h) (Err NoMemory) held held known known
begun_lacks n turns h held known = inr ((refl, inl refl), Appends-nil known)

-- the document means none, for a fault that is told
pub fault_meant : (f : LibFault) (bytes : List ℕ) → f ≢ fault.Memory → Gives (Err f) (library_of bytes) → library_of bytes ≡ Err f
fault_meant fault.NotToml bytes told given = given
fault_meant (fault.Unknown key) bytes told given = given
fault_meant (fault.Missing key) bytes told given = given
fault_meant (fault.WrongKind key) bytes told given = given
fault_meant (fault.Check f) bytes told given = given
fault_meant (fault.Rule r) bytes told given = given
fault_meant (fault.StepText place) bytes told given = given
fault_meant fault.Memory bytes told given = absurd (told refl)

-- why it means none was written, or a front of that
pub refused_ends : (how : Result ElementEnd Stop) (f : LibFault) (id ce turns h : ℕ) (bytes : List ℕ) (held : Option Held) (text now : Option (List ℕ)) → library_of bytes ≡ Err f
    → IfOk how (λ end. end ≡ Refused) → OnOk how (Appends text now (refusal_text (codes "library") f)) → OnErr how (AppendsFront text now (refusal_text (codes "library") f))
    → DocumentEnds id ce turns bytes (h, h) how held held text now
refused_ends how f id ce turns h bytes held text now is =
    told_ends ElementEnd (DocumentWent id ce turns bytes (h, h) held held) (DocumentLacked id ce turns bytes (h, h) held held) how Refused text now (refusal_text (codes "library") f)
    ([], refl, (f, is), refl, ap refused_text (sym is), refl)

-- the input can't be read
pub unread_ends : (how : Look) (limit id ce turns f f' h : ℕ) (bytes : List ℕ) (before left : Option (List ℕ)) (held : Option Held) (known : Option (List ℕ)) → LookEnds limit (Ok how) bytes before left
    → LookCount (Ok how) f f' → how ≡ look.ReadFault → ElementEnds limit id ce turns (f, f') (h, h) (Ok ReadFault) before left held held known known
unread_ends how limit id ce turns f f' h bytes before left held known read count unread =
    ([], (bytes, [], rw unread at read, tt, refl, refl, (subst (λ (l : Look). LookCount (Ok l) f f') unread count, refl)), Appends-nil known)

-- and is too long
pub long_ends : (how : Look) (limit id ce turns f f' h : ℕ) (bytes : List ℕ) (before left : Option (List ℕ)) (held : Option Held) (known : Option (List ℕ)) → LookEnds limit (Ok how) bytes before left
    → LookCount (Ok how) f f' → how ≡ look.TooLong → ElementEnds limit id ce turns (f, f') (h, h) (Ok TooLong) before left held held known known
long_ends how limit id ce turns f f' h bytes before left held known read count long =
    ([], (bytes, [], rw long at read, tt, refl, refl, (subst (λ (l : Look). LookCount (Ok l) f f') long count, refl)), Appends-nil known)
