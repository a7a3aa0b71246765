-- Nothing that a control element does changes which elements it has.
use Rattle.std.proofs.Common.{◌≡◌, ◌==◌, ℕ, Bool, true, false, List, [], ◌∷◌, drop, length, refl, ◌∙◌, Option, Some, None, if◌then◌else◌}
use Rattle.fc_msg.specs.declared.message.Message.{Message}
use Rattle.fc_msg.specs.Reading.{message_in}
use Rattle.fc_master.specs.declared.input.CeIn.TheVariants.{Arrived}
use Rattle.fc_plans.specs.declared.plan.Part.{Part}
use Rattle.fc_protocol.specs.MasterMachine.{Refusal, Speaks, finish, forget_refusal, forgets}
use Rattle.fc_documents.specs.Parts.{begun as parts_of}
use Rattle.fc_control.specs.ControlNode.{ControlState, Heard, Turn, and_then, arrives, begins_all, begins_by, begins_next, begins_one, by_message, comes, forgets_by, forgets_last, goes_on, has_ended, hears, is_refused, may_forget, number_of, refusing, takes, tells_to_forget, turn, unless_ended}
use Rattle.fc_documents.specs.declared.transaction.PlanTxn.{PlanTxn}

abbrev Keeps : ControlState → Turn → Type 0
Keeps n t = t.state.elements ≡ n.elements

then_keeps : (n : ControlState) (t : Turn) (f : ControlState → Turn) → Keeps n t → ((x : ControlState) → Keeps x (f x)) → Keeps n (and_then t f)
then_keeps n t f first second = second t.state ∙ first

begins_by_keeps : (b : Bool) (parts : List Part) (n : ControlState) (later : ControlState → Turn) → ((x : ControlState) → Keeps x (later x)) → Keeps n (begins_by b parts n later)
begins_by_keeps true parts n later second = refl
begins_by_keeps false parts n later second = then_keeps n (begins_one parts n) later refl second

begins_all_keeps : (l : List PlanTxn) (n : ControlState) → Keeps n (begins_all l n)
begins_all_keeps [] n = refl
begins_all_keeps (t ∷ ts) n = begins_by_keeps (is_refused (parts_of t) n) (parts_of t) n (begins_all ts) (begins_all_keeps ts)

forgets_by_keeps : (r : Option Refusal) (n : ControlState) (s : Speaks) → Keeps n (forgets_by r n s)
forgets_by_keeps (Some r) n s = refl
forgets_by_keeps None n s = refl

if_keeps : (b : Bool) (n : ControlState) (one other : Turn) → Keeps n one → Keeps n other → Keeps n (if b then one else other)
if_keeps true n one other first second = first
if_keeps false n one other first second = second

forgets_last_keeps : (n : ControlState) → Keeps n (forgets_last n)
forgets_last_keeps n =
    if_keeps (may_forget n) n (tells_to_forget n) (turn n []) (forgets_by_keeps (forget_refusal n.core) n (finish (number_of n) (forgets n.core))) refl

goes_on_keeps : (n : ControlState) → Keeps n (goes_on n)
goes_on_keeps n = then_keeps n (begins_next n) forgets_last (begins_all_keeps (drop (length n.begun) n.plan) n) forgets_last_keeps

arrives_keeps : (p : ℕ) (m : Message) (n : ControlState) → Keeps n (arrives p m n)
arrives_keeps p m n = then_keeps n (takes (Arrived p m) n) goes_on refl goes_on_keeps

comes_keeps : (peer p : ℕ) (m : Message) (n : ControlState) → Keeps n (comes peer p m n)
comes_keeps peer p m n = if_keeps (m.source == p) n (arrives p m n) (turn n (refusing n.ce peer m m.body)) (arrives_keeps p m n) refl

abbrev Stays : ControlState → Heard → Type 0
Stays n h = h.state.elements ≡ n.elements

unless_keeps : (b : Bool) (n : ControlState) (t : Turn) (later : ControlState → Heard) → Keeps n t → Stays t.state (later t.state) → Stays n (unless_ended b t later)
unless_keeps true n t later first second = first
unless_keeps false n t later first second = second ∙ first

by_keeps : (o : Option Message) (peer p : ℕ) (n : ControlState) (later : ControlState → Heard) → ((x : ControlState) → Stays x (later x)) → Stays n (by_message o peer p n later)
by_keeps None peer p n later second = refl
by_keeps (Some m) peer p n later second =
    let t = comes peer p m n in
    unless_keeps (has_ended t.state) n t later (comes_keeps peer p m n) (second t.state)

-- the frames of a peer leave the elements
pub hears_keeps : (fs : List (List ℕ)) (peer p : ℕ) (left : List ℕ) (n : ControlState) → (hears peer p fs left n).state.elements ≡ n.elements
hears_keeps [] peer p left n = refl
hears_keeps (f ∷ fs) peer p left n = by_keeps (message_in f) peer p n (λ next. hears peer p fs left next) (λ next. hears_keeps fs peer p left next)
