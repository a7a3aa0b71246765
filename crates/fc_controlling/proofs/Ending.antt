-- How `control` ends, from how its parts ended.
use Rattle.std.proofs.Common.{◌≡◌, ◌≢◌, ◌<◌, ◌≤◌, ◌+◌, ◌*◌, ◌%◌, ◌^◌, ℕ, Bool, true, false, List, [], ◌∷◌, ◌++◌, length, refl, sym, ap, subst, ◌∙◌, inl, inr, codes, arith, Option, Result, Ok, Err, IfOk, OnOk, OnErr}
use Rattle.std.proofs.lemmas.Bool.{cases_lt}
use Rattle.std.specs.Io.KnownBytes.{Appends, Keeps}
use Rattle.std.proofs.KnownBytes.{Appends-nil}
use Rattle.fc_base.specs.Causes.{Rose}
use Rattle.fc_base.specs.Content.{AppendsFront}
use Rattle.fc_base.specs.Ids.{IsRound}
use Rattle.fc_hub.specs.Hubs.{Held}
use Rattle.fc_hub.specs.Rounds.{Given}
use Rattle.fc_hub.specs.declared.event.HubEvent.{HubEvent}
use Rattle.fc_library.specs.Gives.{Gives}
use Rattle.fc_library.specs.Refusals.{refusal_text}
use Rattle.fc_library.specs.declared.fault.LibFault.{LibFault}
use Rattle.fc_library.specs.declared.fault.LibFault.TheVariants as fault
use Rattle.fc_documents.specs.Plans.{Planned}
use Rattle.fc_asks.specs.declared.life.Life.{Life}
use Rattle.fc_peers.specs.Acting.{HubCount}
use Rattle.fc_peers.specs.declared.acting.NodeStop.{NodeStop}
use Rattle.fc_peers.specs.declared.acting.NodeStop.TheVariants as node_stop
use Rattle.fc_control.specs.ControlNode.{ControlState, NodeState, first_node, has_ended, node_after}
use Rattle.fc_control.specs.Reports.{is_done, report_of}
use Rattle.fc_control.specs.Controls.{node_of}
use Rattle.fc_control.specs.declared.node.ControlNode.{ControlNode}
use Rattle.fc_control.specs.Serving.{Broke, Goes, ServeEnds, Went}
use Rattle.fc_control.specs.declared.running.Served.{Served}
use Rattle.fc_control.specs.declared.running.Served.TheVariants as served
use Rattle.fc_endings.specs.Endings.{RoseIf}
use Rattle.fc_endings.specs.Looks.{LookCount, LookEnds}
use Rattle.fc_endings.specs.declared.input.Look.{Look}
use Rattle.fc_endings.specs.declared.input.Look.TheVariants as look
use Rattle.fc_endings.specs.declared.stops.Stop.{Stop}
use Rattle.fc_endings.specs.declared.stops.Stop.TheVariants.{NoMemory}
use Rattle.fc_endings.proofs.Endings.{finished_ends, told_ends, widened}
use Rattle.fc_controlling.specs.ControlRun.{ActedSo, ControlEnds, ControlLacked, ControlWent, Gave, GaveSo, IsRun, MeansPlan, MeantEnds, MeantLacked, MeantSo, MeantWent, RoundLacked, RunEnds, RunLacked, RunWent, control_text, end_by, if_done, is_ungiven, is_unread, look_of, no_round_text, refused_text, run_text}
use Rattle.fc_controlling.specs.Meanings.{epoch_of, first_life, node_given, plan_for}
use Rattle.fc_controlling.specs.declared.asked.Asked.{Asked}
use Rattle.fc_controlling.specs.declared.asked.ControlEnd.{ControlEnd}
use Rattle.fc_controlling.specs.declared.asked.ControlEnd.TheVariants.{Deposed, Done, HubFault, NoRound, ReadFault, Refused, RoundsFault, TooLong, Turns, Unfinished}

-- ---- the input

-- the count of a source that was read whole
read_whole : (end : ControlEnd) (f f' : ℕ) → look_of end ≡ look.Whole → f' ≡ f → RoseIf (is_unread end) f f'
read_whole Done f f' whole count = count
read_whole Unfinished f f' whole count = count
read_whole Deposed f f' whole count = count
read_whole Turns f f' whole count = count
read_whole HubFault f f' whole count = count
read_whole RoundsFault f f' whole count = count
read_whole NoRound f f' whole count = count
read_whole Refused f f' whole count = count
read_whole ReadFault f f' whole count = cc whole
read_whole TooLong f f' whole count = count

went_whole : (limit : ℕ) (asked : Asked) (f f' : ℕ) (hub rounds : ℕ × ℕ) (bytes : List ℕ) (before left : Option (List ℕ)) (given gave : Given) (old new : Option Held) (end : ControlEnd) (written : List ℕ)
    → LookEnds limit (Ok look.Whole) bytes before left → f' ≡ f → MeantWent asked (plan_for asked.addresses bytes) hub rounds given gave old new end written
    → ControlWent limit asked (f, f') hub rounds before left given gave old new end written
went_whole limit asked f f' hub rounds bytes before left given gave old new end written read source (round, events, whole, went, net) =
    (bytes, round, events, rw whole read, went, (read_whole end f f' whole source, net))

lacked_whole : (limit : ℕ) (asked : Asked) (f f' : ℕ) (hub rounds : ℕ × ℕ) (bytes : List ℕ) (before left : Option (List ℕ)) (given gave : Given) (old new : Option Held)
    → LookEnds limit (Ok look.Whole) bytes before left → f' ≡ f → MeantLacked asked (plan_for asked.addresses bytes) hub rounds given gave old new
    → ControlLacked limit asked (f, f') hub rounds before left given gave old new
lacked_whole limit asked f f' hub rounds bytes before left given gave old new read source (net, inl (kept, same)) = ((source, net), inl (bytes, read.0, read.2, kept, same))
lacked_whole limit asked f f' hub rounds bytes before left given gave old new read source (net, inr lacked) = ((source, net), inr (bytes, read, lacked))

-- the document was read whole
pub meant_ends : (how : Result ControlEnd Stop) (limit : ℕ) (asked : Asked) (f f' : ℕ) (hub rounds : ℕ × ℕ) (bytes : List ℕ) (before left : Option (List ℕ)) (given gave : Given) (old new : Option Held) (text now : Option (List ℕ))
    → LookEnds limit (Ok look.Whole) bytes before left → f' ≡ f → MeantEnds asked (plan_for asked.addresses bytes) hub rounds how given gave old new text now
    → ControlEnds limit asked (f, f') hub rounds how before left given gave old new text now
meant_ends how limit asked f f' hub rounds bytes before left given gave old new text now read source ends =
    let meant = plan_for asked.addresses bytes in
    widened ControlEnd (MeantWent asked meant hub rounds given gave old new) (ControlWent limit asked (f, f') hub rounds before left given gave old new)
    (MeantLacked asked meant hub rounds given gave old new) (ControlLacked limit asked (f, f') hub rounds before left given gave old new) how text now
    (λ end written went. went_whole limit asked f f' hub rounds bytes before left given gave old new end written read source went)
    (λ lacked. lacked_whole limit asked f f' hub rounds bytes before left given gave old new read source lacked) ends

-- the input can't be read, or is too long
pub unread_ends : (how : Look) (limit : ℕ) (asked : Asked) (f f' h r : ℕ) (bytes : List ℕ) (before left : Option (List ℕ)) (given : Given) (held : Option Held) (known : Option (List ℕ))
    → LookEnds limit (Ok how) bytes before left → LookCount (Ok how) f f' → how ≡ look.ReadFault
    → ControlEnds limit asked (f, f') (h, h) (r, r) (Ok ReadFault) before left given given held held known known
unread_ends how limit asked f f' h r bytes before left given held known read count unread =
    ([], (bytes, 0, [], rw unread at read, (tt, refl, refl, refl), (subst (λ (l : Look). LookCount (Ok l) f f') unread count, (refl, refl))), Appends-nil known)

pub long_ends : (how : Look) (limit : ℕ) (asked : Asked) (f f' h r : ℕ) (bytes : List ℕ) (before left : Option (List ℕ)) (given : Given) (held : Option Held) (known : Option (List ℕ))
    → LookEnds limit (Ok how) bytes before left → LookCount (Ok how) f f' → how ≡ look.TooLong
    → ControlEnds limit asked (f, f') (h, h) (r, r) (Ok TooLong) before left given given held held known known
long_ends how limit asked f f' h r bytes before left given held known read count long =
    ([], (bytes, 0, [], rw long at read, (tt, refl, refl, refl), (subst (λ (l : Look). LookCount (Ok l) f f') long count, (refl, refl))), Appends-nil known)

-- what was written stands after the flush, and where the flush stopped
pub control_finished : (end : ControlEnd) (how : Result ControlEnd Stop) (limit : ℕ) (asked : Asked) (source hub rounds : ℕ × ℕ) (before left : Option (List ℕ)) (given gave : Given) (old new : Option Held) (text mid now : Option (List ℕ))
    → ControlEnds limit asked source hub rounds (Ok end) before left given gave old new text mid → IfOk how (λ last. last ≡ end) → Keeps mid now
    → ControlEnds limit asked source hub rounds how before left given gave old new text now
control_finished end how limit asked source hub rounds before left given gave old new text mid now ends is kept =
    finished_ends ControlEnd (ControlWent limit asked source hub rounds before left given gave old new) (ControlLacked limit asked source hub rounds before left given gave old new) end how text mid now ends is kept

-- ---- the document and the round

-- the document means none, for a fault that is told
pub fault_meant : (f : LibFault) (meant : Result Planned LibFault) → f ≢ fault.Memory → Gives (Err f) meant → meant ≡ Err f
fault_meant fault.NotToml meant told given = given
fault_meant (fault.Unknown key) meant told given = given
fault_meant (fault.Missing key) meant told given = given
fault_meant (fault.WrongKind key) meant told given = given
fault_meant (fault.Check f) meant told given = given
fault_meant (fault.Rule r) meant told given = given
fault_meant (fault.StepText place) meant told given = given
fault_meant fault.Memory meant told given = absurd (told refl)

-- why it means none was written, or a front of that
pub refused_ends : (how : Result ControlEnd Stop) (f : LibFault) (asked : Asked) (meant : Result Planned LibFault) (h r : ℕ) (given : Given) (held : Option Held) (text now : Option (List ℕ)) → meant ≡ Err f
    → IfOk how (λ end. end ≡ Refused) → OnOk how (Appends text now (refusal_text (codes "plan") f)) → OnErr how (AppendsFront text now (refusal_text (codes "plan") f))
    → MeantEnds asked meant (h, h) (r, r) how given given held held text now
refused_ends how f asked meant h r given held text now is =
    told_ends ControlEnd (MeantWent asked meant (h, h) (r, r) given given held held) (MeantLacked asked meant (h, h) (r, r) given given held held) how Refused text now (refusal_text (codes "plan") f)
    (0, [], refl, ((f, is), refl, refl, ap refused_text (sym is)), (refl, refl))

-- what the document means is the plan
pub plan_ends : (how : Result ControlEnd Stop) (asked : Asked) (meant : Result Planned LibFault) (plan : Planned) (hub rounds : ℕ × ℕ) (given gave : Given) (old new : Option Held) (text now : Option (List ℕ)) → meant ≡ Ok plan
    → MeantEnds asked (Ok plan) hub rounds how given gave old new text now → MeantEnds asked meant hub rounds how given gave old new text now
plan_ends how asked meant plan hub rounds given gave old new text now is ends = subst (λ m. MeantEnds asked m hub rounds how given gave old new text now) (sym is) ends

-- the rounds failed
pub ungiven_ends : (asked : Asked) (plan : Planned) (h r r' : ℕ) (given : Given) (held : Option Held) (known : Option (List ℕ)) → Rose r r'
    → MeantEnds asked (Ok plan) (h, h) (r, r') (Ok RoundsFault) given given held held known known
ungiven_ends asked plan h r r' given held known rose = ([], (0, [], refl, ((plan, refl), refl, refl, refl), (refl, rose)), Appends-nil known)

-- memory lacked before a round was taken
pub ungiven_lacks : (asked : Asked) (plan : Planned) (h r r' : ℕ) (given : Given) (held : Option Held) (known : Option (List ℕ)) → r' ≡ r
    → MeantEnds asked (Ok plan) (h, h) (r, r') (Err NoMemory) given given held held known known
ungiven_lacks asked plan h r r' given held known count = inr (((refl, count), inl (refl, refl)), Appends-nil known)

no_round : (round : ℕ) → 0 < round → (IsRound round → ⊥) → 2 ^ 24 ≤ round
no_round round some none = elim (cases_lt round (2 ^ 24)) [
  | inl few ↦ absurd (none (some, few))
  | inr long ↦ long
]

-- that a number is no round was written, or a front of that
pub no_round_ends : (how : Result ControlEnd Stop) (round : ℕ) (asked : Asked) (plan : Planned) (h r r' : ℕ) (given gave : Given) (held : Option Held) (text now : Option (List ℕ)) → Gave round given gave → r' ≡ r → (IsRound round → ⊥)
    → IfOk how (λ end. end ≡ NoRound) → OnOk how (Appends text now (no_round_text round)) → OnErr how (AppendsFront text now (no_round_text round))
    → MeantEnds asked (Ok plan) (h, h) (r, r') how given gave held held text now
no_round_ends how round asked plan h r r' given gave held text now (is, (some, after)) count none =
    told_ends ControlEnd (MeantWent asked (Ok plan) (h, h) (r, r') given gave held held) (MeantLacked asked (Ok plan) (h, h) (r, r') given gave held held) how NoRound text now (no_round_text round)
    (round, [], refl, ((plan, refl), ((is, (some, after)), no_round round some none), refl, refl), (refl, count))

-- ---- over the hub

run_look : (end : ControlEnd) → IsRun end → look_of end ≡ look.Whole
run_look Done run = refl
run_look Unfinished run = refl
run_look Deposed run = refl
run_look Turns run = refl
run_look HubFault run = refl
run_look RoundsFault run = absurd run
run_look NoRound run = absurd run
run_look Refused run = absurd run
run_look ReadFault run = absurd run
run_look TooLong run = absurd run

run_meant : (end : ControlEnd) (plan : Planned) → IsRun end → MeantSo end (Ok plan)
run_meant Done plan run = (plan, refl)
run_meant Unfinished plan run = (plan, refl)
run_meant Deposed plan run = (plan, refl)
run_meant Turns plan run = (plan, refl)
run_meant HubFault plan run = (plan, refl)
run_meant RoundsFault plan run = absurd run
run_meant NoRound plan run = absurd run
run_meant Refused plan run = absurd run
run_meant ReadFault plan run = absurd run
run_meant TooLong plan run = absurd run

run_gave : (end : ControlEnd) (round : ℕ) (given gave : Given) → IsRun end → Gave round given gave → IsRound round → GaveSo end round given gave
run_gave Done round given gave run took is = (took, is)
run_gave Unfinished round given gave run took is = (took, is)
run_gave Deposed round given gave run took is = (took, is)
run_gave Turns round given gave run took is = (took, is)
run_gave HubFault round given gave run took is = (took, is)
run_gave RoundsFault round given gave run took is = absurd run
run_gave NoRound round given gave run took is = absurd run
run_gave Refused round given gave run took is = absurd run
run_gave ReadFault round given gave run took is = absurd run
run_gave TooLong round given gave run took is = absurd run

run_told : (n : NodeState) (end : ControlEnd) (round : ℕ) (meant : Result Planned LibFault) (events : List HubEvent) → IsRun end → run_text n end events ≡ control_text n end round meant events
run_told n Done round meant events run = refl
run_told n Unfinished round meant events run = refl
run_told n Deposed round meant events run = refl
run_told n Turns round meant events run = refl
run_told n HubFault round meant events run = refl
run_told n RoundsFault round meant events run = absurd run
run_told n NoRound round meant events run = absurd run
run_told n Refused round meant events run = absurd run
run_told n ReadFault round meant events run = absurd run
run_told n TooLong round meant events run = absurd run

-- the count of rounds that gave one
run_count : (end : ControlEnd) (r r' : ℕ) → IsRun end → r' ≡ r → RoseIf (is_ungiven end) r r'
run_count Done r r' run count = count
run_count Unfinished r r' run count = count
run_count Deposed r r' run count = count
run_count Turns r r' run count = count
run_count HubFault r r' run count = count
run_count RoundsFault r r' run count = absurd run
run_count NoRound r r' run count = absurd run
run_count Refused r r' run count = absurd run
run_count ReadFault r r' run count = absurd run
run_count TooLong r r' run count = absurd run

run_went : (asked : Asked) (plan : Planned) (round : ℕ) (hub : ℕ × ℕ) (r r' : ℕ) (given gave : Given) (old new : Option Held) (end : ControlEnd) (written : List ℕ) → Gave round given gave → r' ≡ r → IsRound round
    → RunWent (node_given asked.ce round (Ok plan)) asked.turns hub old new end written → MeantWent asked (Ok plan) hub (r, r') given gave old new end written
run_went asked plan round hub r r' given gave old new end written took count is (events, run, acted, told, served) = (
  round,
  events,
  run_look end run,
  (run_meant end plan run, run_gave end round given gave run took is, acted, told ∙ run_told (node_given asked.ce round (Ok plan)) end round (Ok plan) events run),
  (served, run_count end r r' run count),
)

-- the node of this round has ended so
pub run_ends : (how : Result ControlEnd Stop) (asked : Asked) (plan : Planned) (round epoch : ℕ) (hub : ℕ × ℕ) (r r' : ℕ) (given gave : Given) (old new : Option Held) (text now : Option (List ℕ)) → Gave round given gave → r' ≡ r → IsRound round
    → epoch ≡ epoch_of round asked.ce → RunEnds (first_node asked.ce (first_life asked.ce epoch) plan.elements plan.transactions) asked.turns hub how old new text now
    → MeantEnds asked (Ok plan) hub (r, r') how given gave old new text now
run_ends how asked plan round epoch hub r r' given gave old new text now took count is same ends =
    let n = node_given asked.ce round (Ok plan) in
    widened ControlEnd (RunWent n asked.turns hub old new) (MeantWent asked (Ok plan) hub (r, r') given gave old new) (RunLacked n asked.turns hub old new) (MeantLacked asked (Ok plan) hub (r, r') given gave old new) how text now
    (λ end written went. run_went asked plan round hub r r' given gave old new end written took count is went)
    (λ lacked. ((lacked.0, count), inr ((plan, refl), (round, took, lacked.1))))
    (subst (λ e. RunEnds (first_node asked.ce (first_life asked.ce e) plan.elements plan.transactions) asked.turns hub how old new text now) same ends)

-- a life that begins has nothing but its ID and its epoch
life_is : (life : Life) (ce epoch : ℕ) → life.ce ≡ ce → life.epoch ≡ epoch → life.plans ≡ [] → life.plains ≡ [] → life ≡ first_life ce epoch
life_is life ce epoch a b c d =
    ap (λ x. record life { ce = x }) a ∙ ap (λ x. record life { ce = ce; epoch = x }) b ∙ ap (λ x. record life { ce = ce; epoch = epoch; plans = x }) c
    ∙ ap (λ x. record life { ce = ce; epoch = epoch; plans = []; plains = x }) d

node_is : (n : NodeState) (life : Life) (ce epoch : ℕ) (plan : Planned) → n ≡ first_node ce life plan.elements plan.transactions → life.ce ≡ ce → life.epoch ≡ epoch → life.plans ≡ [] → life.plains ≡ []
    → n ≡ first_node ce (first_life ce epoch) plan.elements plan.transactions
node_is n life ce epoch plan is a b c d = is ∙ ap (λ l. first_node ce l plan.elements plan.transactions) (life_is life ce epoch a b c d)

-- the node that was made, if one was
pub node_made : {E : Type 0} (made : Result ControlNode E) (ce epoch : ℕ) (plan : Planned) → IfOk made (λ n. node_of n ≡ first_node ce n.control.master.life plan.elements plan.transactions)
    → IfOk made (λ n. n.control.master.life.ce ≡ ce) → IfOk made (λ n. n.control.master.life.epoch ≡ epoch) → IfOk made (λ n. n.control.master.life.plans ≡ []) → IfOk made (λ n. n.control.master.life.plains ≡ [])
    → IfOk made (λ n. node_of n ≡ first_node ce (first_life ce epoch) plan.elements plan.transactions)
node_made (Ok n) ce epoch plan is a b c d = node_is (node_of n) n.control.master.life ce epoch plan is a b c d
node_made (Err e) ce epoch plan is a b c d = tt

-- it has not ended when it begins
pub begins_going : (n : NodeState) (ce epoch : ℕ) (plan : Planned) → n ≡ first_node ce (first_life ce epoch) plan.elements plan.transactions → has_ended n.control ≡ false
begins_going n ce epoch plan is = ap (λ (m : NodeState). has_ended m.control) is

over_went : (b : Bool) (n : NodeState) (turns h h' : ℕ) (last : NodeState) (old new : Option Held) → is_done last.control ≡ b → ServeEnds (Ok served.Over) turns n last old new → h' ≡ h
    → RunWent n turns (h, h') old new (if_done b) (report_of last.control)
over_went true n turns h h' last old new at (events, few, goes, went, all, is) hub =
    (events, tt, (few, goes, went, all, ap (λ (m : NodeState). is_done m.control) (sym is) ∙ at), ap (λ (m : NodeState). report_of m.control) is, hub)
over_went false n turns h h' last old new at (events, few, goes, went, all, is) hub =
    (events, tt, (few, goes, went, all, ap (λ (m : NodeState). is_done m.control) (sym is) ∙ at), ap (λ (m : NodeState). report_of m.control) is, hub)

served_went : (how : Served) (n : NodeState) (turns h h' : ℕ) (last : NodeState) (old new : Option Held) → ServeEnds (Ok how) turns n last old new → h' ≡ h
    → RunWent n turns (h, h') old new (end_by how last.control) (report_of last.control)
served_went served.Over n turns h h' last old new ends hub = over_went (is_done last.control) n turns h h' last old new refl ends hub
served_went served.Deposed n turns h h' last old new (before, e, few, goes, went, is, ended) hub =
    (before ++ e ∷ [], tt, (before, e, refl, few, goes, went, ap (λ (m : NodeState). has_ended m.control) (sym is) ∙ ended), ap (λ (m : NodeState). report_of m.control) is, hub)
served_went served.Turns n turns h h' last old new (events, count, goes, went, is) hub = (events, tt, (count, goes, went), ap (λ (m : NodeState). report_of m.control) is, hub)

-- the report on it was written, or a front of that
pub served_ends : (how : Result ControlEnd Stop) (served : Served) (n : NodeState) (turns h h' : ℕ) (first last : NodeState) (old new : Option Held) (text now : Option (List ℕ)) (end : ControlEnd) (control : ControlState)
    → ServeEnds (Ok served) turns first last old new → h' ≡ h → first ≡ n → end ≡ end_by served last.control → control ≡ last.control
    → IfOk how (λ e. e ≡ end) → OnOk how (Appends text now (report_of control)) → OnErr how (AppendsFront text now (report_of control)) → RunEnds n turns (h, h') how old new text now
served_ends how served n turns h h' first last old new text now end control ends count begun is same =
    told_ends ControlEnd (RunWent n turns (h, h') old new) (RunLacked n turns (h, h') old new) how end text now (report_of control)
    (subst (λ c. RunWent n turns (h, h') old new end (report_of c)) (sym same) (subst (λ e. RunWent n turns (h, h') old new e (report_of last.control)) (sym is)
    (subst (λ (m : NodeState). RunWent m turns (h, h') old new (end_by served last.control) (report_of last.control)) begun (served_went served first turns h h' last old new ends count))))

-- the hub failed
pub unserved_ends : (stop : NodeStop) (n : NodeState) (turns h h' : ℕ) (first last : NodeState) (old new : Option Held) (known : Option (List ℕ)) → ServeEnds (Err stop) turns first last old new
    → HubCount {T = Served} (Err stop) h h' → stop ≡ node_stop.HubFault → first ≡ n → RunEnds n turns (h, h') (Ok HubFault) old new known known
unserved_ends stop n turns h h' first last old new known (events, few, goes, broke) count failed begun =
    subst (λ (m : NodeState). RunEnds m turns (h, h') (Ok HubFault) old new known known) begun
    ([], (events, tt, (few, goes, rw failed at broke), refl, subst (λ s. HubCount {T = Served} (Err s) h h') failed count), Appends-nil known)

-- memory lacked
pub unserved_lacks : (stop : NodeStop) (n : NodeState) (turns h h' : ℕ) (first last : NodeState) (old new : Option Held) (known : Option (List ℕ)) → ServeEnds (Err stop) turns first last old new
    → HubCount {T = Served} (Err stop) h h' → stop ≡ node_stop.NoMemory → first ≡ n → RunEnds n turns (h, h') (Err NoMemory) old new known known
unserved_lacks stop n turns h h' first last old new known (events, few, goes, broke) count lacked begun =
    subst (λ (m : NodeState). RunEnds m turns (h, h') (Err NoMemory) old new known known) begun
    (inr ((subst (λ s. HubCount {T = Served} (Err s) h h') lacked count, inr (events, few, goes, rw lacked at broke)), Appends-nil known))

pub begun_lacks : (n : NodeState) (turns h : ℕ) (held : Option Held) (known : Option (List ℕ)) → RunEnds n turns (h, h) (Err NoMemory) held held known known
begun_lacks n turns h held known = inr ((refl, inl refl), Appends-nil known)
