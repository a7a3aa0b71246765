-- A control element with the plan of a document speaks clearly, whatever its hub tells it.
use Rattle.std.proofs.Common.{◌≡◌, ◌<◌, ◌^◌, arith, ◌==◌, ℕ, zero, suc, Bool, true, false, if◌then◌else◌, List, [], ◌∷◌, ◌++◌, drop, length, map, Option, Some, None, Result, Ok, Err, refl, sym, ap, ◌∙◌, subst}
use Rattle.std.specs.List.{AllByRecursion}
use Rattle.fc_base.specs.Ids.{Txn}
use Rattle.fc_path.specs.declared.oper.Select.{Select}
use Rattle.fc_hub.specs.declared.event.Act.TheVariants as act
use Rattle.fc_hub.specs.declared.event.HubEvent.{HubEvent}
use Rattle.fc_hub.specs.declared.event.HubEvent.TheVariants as event
use Rattle.fc_msg.specs.Messages.{IsProper, canonical, message_fits}
use Rattle.fc_wellformed.proofs.Sizes.{setup_response_fits}
use Rattle.fc_msg.specs.Reading.{message_in}
use Rattle.fc_msg.specs.declared.message.Message.{Message}
use Rattle.fc_lines.specs.TextPlaces.{TextPlace}
use Rattle.fc_text.specs.TextReading.{body_in}
use Rattle.fc_text.proofs.SoundMessages.{read_body_is_spelled}
use Rattle.fc_protocol.specs.MasterMachine.{Refusal, finish, forget_refusal, forgets, give_up_refusal, gives_up}
use Rattle.fc_plans.specs.Changes.{change_fault}
use Rattle.fc_plans.specs.Plans as plans
use Rattle.fc_plans.specs.Plans.{plan_fault}
use Rattle.fc_plans.specs.declared.fault.ChangeFault.{ChangeFault}
use Rattle.fc_plans.specs.declared.fault.PlanFault.{PlanFault}
use Rattle.fc_library.specs.declared.fault.LibFault.{LibFault}
use Rattle.fc_documents.specs.Parts.{begun as parts_of, change_by, change_if, change_of, each_of, transaction_of, HasOwn}
use Rattle.fc_documents.specs.Plans.{Planned, plan_of}
use Rattle.fc_documents.specs.Rules.{bodies_at}
use Rattle.fc_documents.specs.declared.tables.ChangeTable.{ChangeTable}
use Rattle.fc_documents.specs.declared.tables.TransactionTable.{TransactionTable}
use Rattle.fc_documents.specs.declared.transaction.PlanTxn.{PlanTxn}
use Rattle.fc_documents.proofs.Judging.{by_plan}
use Rattle.fc_documents.proofs.Chains.{each_step, nothing_read}
use Rattle.fc_documents.proofs.Ordering.{changes_in_order}
use Rattle.fc_asks.specs.declared.life.Life.{Life}
use Rattle.fc_jobs.specs.declared.sending.CeOut.{CeOut}
use Rattle.fc_master.specs.declared.input.CeIn.{CeIn}
use Rattle.fc_master.specs.declared.input.CeIn.TheVariants.{Arrived, Moment}
use Rattle.fc_peers.specs.Acting.{sending}
use Rattle.fc_control.specs.ControlNode.{ControlState, Heard, NodeState, Turn, and_then, arrives, begins_all, begins_by, begins_next, begins_one, by_message, come, comes, element_of, first_control, first_node, forgets_by, forgets_last, gives_up_all, gives_up_by, gives_up_come, gives_up_one, goes_on, has_ended, hears, is_refused, is_refused_by, may_forget, move, node_after, node_step, number_of, on_bytes_of, on_event, on_opened, passes, peer_of, refusal_of, refused_setup, refusing, sent, takes, tells_to_forget, turn, unless_ended}
use Rattle.fc_peers.specs.Streams.{frames, rest}
use Rattle.std.specs.FinMap.{get}
use Rattle.fc_wellformed.specs.WellFormed.{AreWellFormed, IsClear, TxnHolds, IsWellFormed, HasChanges, IsChange, KeepsChanges, SpeaksClearly, all_sent}
use Rattle.fc_wellformed.proofs.Keeping.{either}
use Rattle.fc_wellformed.proofs.Said.{begin_clear, first_clear, forget_clear, give_up_clear, step_clear}

-- ---- what a document plans are changes

all_hold : {A B : Type 0} (read : A → Result B LibFault) (P : B → Type 0) → ((x : A) (y : B) → read x ≡ Ok y → P y) → (xs : List A) (ys : List B) → each_of read xs ≡ Ok ys → AllByRecursion P ys
all_hold read P makes [] ys e = subst (AllByRecursion P) (sym (nothing_read read ys e)) tt
all_hold read P makes (x ∷ xs) zs e =
    let (y, ys, first, rest, is) = each_step read x xs zs e in
    subst (AllByRecursion P) (sym is) (makes x y first, all_hold read P makes xs ys rest)

change_meant : (ss selects : List Select) (f : Option ChangeFault) → change_fault ss ≡ f → change_if ss f ≡ Ok selects → (ss ≡ selects) × (change_fault ss ≡ None)
change_meant ss selects None is e = (cc, is)
change_meant ss selects (Some fault) is e = cc

by_text : (body : List ℕ) (r : Result (List Select) TextPlace) (selects : List Select) → body_in body ≡ r → change_by r ≡ Ok selects → IsChange selects
by_text body (Ok ss) selects is e =
    let (same, none) = change_meant ss selects (change_fault ss) refl e in
    let spelled = read_body_is_spelled ss body is in
    subst IsChange same (none, (spelled.some, spelled.proper))
by_text body (Err place) selects is e = cc

change_is : (body : List ℕ) (selects : List Select) → change_of body ≡ Ok selects → IsChange selects
change_is body selects e = by_text body (body_in body) selects refl e

abbrev PartHolds : ℕ × List (List Select) → Type 0
PartHolds p = AllByRecursion IsChange p.1

part_holds : (cs : List ChangeTable) (ps : List (ℕ × List (List Select))) → AllByRecursion (HasOwn cs) ps → AllByRecursion PartHolds ps
part_holds cs [] h = tt
part_holds cs (p ∷ ps) h = (all_hold change_of IsChange change_is (bodies_at p.0 cs) p.1 h.0, part_holds cs ps h.1)

whole_hold : (ps : List (ℕ × List (List Select))) → AllByRecursion PartHolds ps → AllByRecursion HasChanges (map plans.whole ps)
whole_hold [] h = tt
whole_hold (p ∷ ps) h = (h.0, whole_hold ps h.1)

scoped_hold : (ps : List (ℕ × List (List Select))) → AllByRecursion PartHolds ps → AllByRecursion HasChanges (map plans.scoped ps)
scoped_hold [] h = tt
scoped_hold (p ∷ ps) h = (h.0, scoped_hold ps h.1)

txn_holds : (t : TransactionTable) (x : PlanTxn) → transaction_of t ≡ Ok x → TxnHolds x
txn_holds t x e =
    let own = part_holds t.changes x.parts (changes_in_order t x e).1 in
    either (AllByRecursion HasChanges) x.scoped (map plans.scoped x.parts) (map plans.whole x.parts) (scoped_hold x.parts own) (whole_hold x.parts own)

pub planned_hold : (bytes : List ℕ) (plan : Planned) → plan_of bytes ≡ Ok plan → AllByRecursion TxnHolds plan.transactions
planned_hold bytes plan e =
    let (ms, table, read, is, unbroken, elements, each) = (by_plan bytes plan).0 e in
    all_hold transaction_of TxnHolds txn_holds table.transactions plan.transactions each

-- ---- a control element that speaks clearly, with a plan that does

then_clear : (t : Turn) (f : ControlState → Turn) → IsClear t.state → ((n : ControlState) → IsClear n → IsClear (f n).state) → IsClear (and_then t f).state
then_clear t f clear more = more t.state clear

pub takes_clear : (i : CeIn) (n : ControlState) → IsClear n → IsClear (takes i n).state
takes_clear i n clear = record { says = (step_clear n.life (number_of n) n.core i clear.says).0; plan = clear.plan }

gives_by_clear : (r : Option Refusal) (x : Txn) (n : ControlState) → IsClear n → IsClear (gives_up_by r n (finish (number_of n) (gives_up n.core x))).state
gives_by_clear (Some r) x n clear = clear
gives_by_clear None x n clear = record { says = (give_up_clear n.life (number_of n) n.core x clear.says).0; plan = clear.plan }

pub gives_one_clear : (x : Txn) (n : ControlState) → IsClear n → IsClear (gives_up_one x n).state
gives_one_clear x n clear = gives_by_clear (give_up_refusal n.core x) x n clear

gives_all_clear : (xs : List Txn) (n : ControlState) → IsClear n → IsClear (gives_up_all xs n).state
gives_all_clear [] n clear = clear
gives_all_clear (x ∷ xs) n clear = gives_all_clear xs (gives_up_one x n).state (gives_by_clear (give_up_refusal n.core x) x n clear)

not_refused : (f : Option PlanFault) (r : Option Refusal) → is_refused_by f r ≡ false → (f ≡ None) × (r ≡ None)
not_refused (Some fault) r e = cc
not_refused None (Some refusal) e = cc
not_refused None None e = (refl, refl)

pub begins_one_clear : (t : PlanTxn) (n : ControlState) → is_refused (parts_of t) n ≡ false → TxnHolds t → IsClear n → IsClear (begins_one (parts_of t) n).state
begins_one_clear t n e holds clear =
    let (whole, free) = not_refused (plan_fault (parts_of t)) (refusal_of (parts_of t) n) e in
    record { says = (begin_clear n.life (number_of n) n.core (parts_of t) holds whole free clear.says).0; plan = clear.plan }

begins_by_clear : (b : Bool) (t : PlanTxn) (n : ControlState) (later : ControlState → Turn) → is_refused (parts_of t) n ≡ b → TxnHolds t → IsClear n
    → ((m : ControlState) → IsClear m → IsClear (later m).state) → IsClear (begins_by b (parts_of t) n later).state
begins_by_clear true t n later e holds clear more = clear
begins_by_clear false t n later e holds clear more = more (begins_one (parts_of t) n).state (begins_one_clear t n e holds clear)

begins_all_clear : (ts : List PlanTxn) (n : ControlState) → AllByRecursion TxnHolds ts → IsClear n → IsClear (begins_all ts n).state
begins_all_clear [] n hold clear = clear
begins_all_clear (t ∷ ts) n hold clear = begins_by_clear (is_refused (parts_of t) n) t n (begins_all ts) refl hold.0 clear (λ m is. begins_all_clear ts m hold.1 is)

drop_hold : {A : Type 0} (P : A → Type 0) (k : ℕ) (xs : List A) → AllByRecursion P xs → AllByRecursion P (drop k xs)
drop_hold P zero xs h = h
drop_hold P (suc k) [] h = tt
drop_hold P (suc k) (x ∷ xs) h = drop_hold P k xs h.1

forgets_by_clear : (r : Option Refusal) (n : ControlState) → IsClear n → IsClear (forgets_by r n (finish (number_of n) (forgets n.core))).state
forgets_by_clear (Some r) n clear = clear
forgets_by_clear None n clear = record { says = (forget_clear n.life (number_of n) n.core clear.says).0; plan = clear.plan }

pub forgets_clear : (n : ControlState) → IsClear n → IsClear (tells_to_forget n).state
forgets_clear n clear = forgets_by_clear (forget_refusal n.core) n clear

if_clear : (b : Bool) (one other : Turn) → IsClear one.state → IsClear other.state → IsClear (if b then one else other).state
if_clear true one other h k = h
if_clear false one other h k = k

forgets_last_clear : (n : ControlState) → IsClear n → IsClear (forgets_last n).state
forgets_last_clear n clear = if_clear (may_forget n) (tells_to_forget n) (turn n []) (forgets_by_clear (forget_refusal n.core) n clear) clear

goes_on_clear : (n : ControlState) → IsClear n → IsClear (goes_on n).state
goes_on_clear n clear = forgets_last_clear (begins_next n).state (begins_all_clear (drop (length n.begun) n.plan) n (drop_hold TxnHolds (length n.begun) n.plan clear.plan) clear)

arrives_clear : (p : ℕ) (m : Message) (n : ControlState) → IsClear n → IsClear (arrives p m n).state
arrives_clear p m n clear = goes_on_clear (takes (Arrived p m) n).state (takes_clear (Arrived p m) n clear)

pub passes_clear : (now : ℕ) (n : ControlState) → IsClear n → IsClear (passes now n).state
passes_clear now n clear =
    let taken = takes (Moment now) n in
    goes_on_clear (gives_up_come now taken.state).state (gives_all_clear (come now taken.state.plan taken.state.begun) taken.state (takes_clear (Moment now) n clear))

pub comes_clear : (peer p : ℕ) (m : Message) (n : ControlState) → IsClear n → IsClear (comes peer p m n).state
comes_clear peer p m n clear = if_clear (m.source == p) (arrives p m n) (turn n (refusing n.ce peer m m.body)) (arrives_clear p m n clear) clear

unless_clear : (b : Bool) (t : Turn) (later : ControlState → Heard) → IsClear t.state → ((n : ControlState) → IsClear n → IsClear (later n).state) → IsClear (unless_ended b t later).state
unless_clear true t later clear more = clear
unless_clear false t later clear more = more t.state clear

by_clear : (o : Option Message) (peer p : ℕ) (n : ControlState) (later : ControlState → Heard) → IsClear n → ((m : ControlState) → IsClear m → IsClear (later m).state) → IsClear (by_message o peer p n later).state
by_clear None peer p n later clear more = clear
by_clear (Some m) peer p n later clear more = unless_clear (has_ended (comes peer p m n).state) (comes peer p m n) later (comes_clear peer p m n clear) more

hears_clear : (peer p : ℕ) (fs : List (List ℕ)) (left : List ℕ) (n : ControlState) → IsClear n → IsClear (hears peer p fs left n).state
hears_clear peer p [] left n clear = clear
hears_clear peer p (f ∷ fs) left n clear = by_clear (message_in f) peer p n (λ next. hears peer p fs left next) clear (λ m is. hears_clear peer p fs left m is)

bytes_clear : (o : Option ℕ) (left : Option (List ℕ)) (peer : ℕ) (piece : List ℕ) (n : NodeState) → IsClear n.control → IsClear (on_bytes_of o left peer piece n).state.control
bytes_clear None left peer piece n clear = clear
bytes_clear (Some p) None peer piece n clear = clear
bytes_clear (Some p) (Some left) peer piece n clear = hears_clear peer p (frames (left ++ piece)) (rest (left ++ piece)) n.control clear

opened_clear : (o : Option ℕ) (peer : ℕ) (n : NodeState) → IsClear n.control → IsClear (on_opened o peer n).state.control
opened_clear None peer n clear = clear
opened_clear (Some p) peer n clear = clear

event_clear : (e : HubEvent) (n : NodeState) → IsClear n.control → IsClear (on_event e n).state.control
event_clear (event.Opened peer) n clear = opened_clear (element_of n.control.elements peer) peer n clear
event_clear (event.Bytes peer piece) n clear = bytes_clear (element_of n.control.elements peer) (get n.peers peer) peer piece n clear
event_clear (event.Closed peer) n clear = clear
event_clear (event.Moment now) n clear = passes_clear now n.control clear
event_clear event.Over n clear = clear

step_by_clear : (b : Bool) (e : HubEvent) (n : NodeState) → IsClear n.control → IsClear (if b then move n [] else on_event e n).state.control
step_by_clear true e n clear = clear
step_by_clear false e n clear = event_clear e n clear

after_clear : (n : NodeState) (es : List HubEvent) → IsClear n.control → IsClear (node_after n es).control
after_clear n [] clear = clear
after_clear n (e ∷ es) clear = after_clear (node_step n e).state es (step_by_clear (has_ended n.control) e n clear)

pub stays_clear : (ce : ℕ) (life : Life) (bytes : List ℕ) (plan : Planned) (events : List HubEvent) → KeepsChanges life → plan_of bytes ≡ Ok plan
    → let n = (node_after (first_node ce life plan.elements plan.transactions) events).control in SpeaksClearly n.life n.core
stays_clear ce life bytes plan events keeps e =
    let first : IsClear (first_control ce life plan.elements plan.transactions) = record { says = first_clear life life.epoch plan.elements keeps; plan = planned_hold bytes plan e } in
    (after_clear (first_node ce life plan.elements plan.transactions) events first).says

-- ---- all of it is sent

sends_it : (m : Message) (peer : ℕ) → message_fits m ≡ true → sending peer m ≡ act.Sent peer (canonical m) ∷ []
sends_it m peer fits = ap (λ b. if b then act.Sent peer (canonical m) ∷ [] else []) fits

pub whole_sent : (elements : List ℕ) (outs : List CeOut) → AreWellFormed outs → sent elements outs ≡ all_sent elements outs
whole_sent elements [] good = refl
whole_sent elements (o ∷ outs) good =
    ap (λ acts. acts ++ sent elements outs) (sends_it o.message (peer_of o.to elements) good.0.fits) ∙ ap (λ acts. act.Sent (peer_of o.to elements) (canonical o.message) ∷ acts) (whole_sent elements outs good.1)

-- ---- the node's own refusal of an association

pub refusal_good : (ce : ℕ) (m : Message) → IsWellFormed (refused_setup ce m)
refusal_good ce m = record { flags = (omega arith, omega arith, omega arith, omega arith); body = omega arith; fits = setup_response_fits (refused_setup ce m) 1 refl }

pub well_formed_is_proper : (m : Message) → IsWellFormed m → m.source < 2 ^ 32 → m.dest < 2 ^ 32 → m.corr < 2 ^ 64 → IsProper m
well_formed_is_proper m good source dest corr = record { source = source; dest = dest; correlator = corr; flags = good.flags; body = good.body }
