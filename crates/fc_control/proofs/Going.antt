-- Calls of a master one after the other.
use Rattle.std.proofs.Common.{◌≡◌, ◌<◌, ◌≤◌, ◌+◌, ◌-◌, get_or, ℕ, Bool, true, false, is_none, is_some, List, [], ◌∷◌, ◌++◌, length, drop, refl, sym, ap, ◌∙◌, append_assoc, append-nil, length-append, arith, Option, Some, None}
use Rattle.std.proofs.lemmas.List.{drop-drop, drop_all, drop_more, length-drop}
use Rattle.fc_base.specs.Ids.{Txn}
use Rattle.fc_hub.specs.Hubs.{Held}
use Rattle.fc_hub.specs.declared.event.Act.{Act}
use Rattle.fc_plans.specs.Plans.{plan_fault}
use Rattle.fc_plans.specs.declared.fault.PlanFault.{PlanFault}
use Rattle.fc_plans.specs.declared.plan.Part.{Part}
use Rattle.fc_protocol.specs.MasterMachine.{Refusal, next_txn}
use Rattle.fc_peers.specs.Acting.{Acts, ActsUntil}
use Rattle.fc_peers.specs.declared.acting.NodeStop.{NodeStop}
use Rattle.fc_peers.proofs.Acts.{until_longer, until_on, until_same}
use Rattle.fc_documents.specs.Parts.{begun as parts_of}
use Rattle.fc_control.specs.ControlNode.{ControlState, Turn, and_then, begins_all, begins_by, begins_next, begins_one, begun_with, gives_up_all, gives_up_one, is_refused_by, refusal_of, turn}
use Rattle.fc_control.specs.Beginning.{Stops}
use Rattle.fc_control.specs.Planning.{next_parts, plan_if}
use Rattle.fc_documents.specs.declared.transaction.PlanTxn.{PlanTxn}

-- acts that were done before
abbrev pub before : List Act → Turn → Turn
before acts t = turn t.state (acts ++ t.acts)

pub before_none : (t : Turn) → t ≡ before [] t
before_none t = refl

before_then : (acts : List Act) (t : Turn) (f : ControlState → Turn) → before acts (and_then t f) ≡ before (acts ++ t.acts) (f t.state)
before_then acts t f = ap (turn (f t.state).state) (sym (append_assoc acts t.acts (f t.state).acts))

before_end : (acts : List Act) (n : ControlState) → before acts (turn n []) ≡ turn n acts
before_end acts n = ap (turn n) (append-nil acts)

-- ---- giving up

-- one more was given up
pub gave_more : (start : Turn) (acts : List Act) (xs : List Txn) (i : ℕ) (x : Txn) (n : ControlState) → start ≡ before acts (gives_up_all (drop i xs) n) → i < length xs
    → x ≡ get_or xs i x → start ≡ before (acts ++ (gives_up_one x n).acts) (gives_up_all (drop (i + 1) xs) (gives_up_one x n).state)
gave_more start acts xs i x n is lt at =
    is ∙ ap (λ l. before acts (gives_up_all l n)) (drop_more xs i x lt ∙ ap (λ y. y ∷ drop (i + 1) xs) (sym at)) ∙ before_then acts (gives_up_one x n) (gives_up_all (drop (i + 1) xs))

-- none is left
pub gave_all : (start : Turn) (acts : List Act) (xs : List Txn) (i : ℕ) (n : ControlState) → start ≡ before acts (gives_up_all (drop i xs) n) → length xs ≤ i → start ≡ turn n acts
gave_all start acts xs i n is le = is ∙ ap (λ l. before acts (gives_up_all l n)) (drop_all i xs le) ∙ before_end acts n

-- of one that was to be given up a front of the acts was done
pub gave_until : (stop : NodeStop) (a b c : Option Held) (start : Turn) (acts : List Act) (xs : List Txn) (i : ℕ) (x : Txn) (n : ControlState)
    → start ≡ before acts (gives_up_all (drop i xs) n) → i < length xs → x ≡ get_or xs i x → Acts a b acts → ActsUntil stop b c (gives_up_one x n).acts → ActsUntil stop a c start.acts
gave_until stop a b c start acts xs i x n is lt at first second =
    let more = gave_more start acts xs i x n is lt at in
    until_same stop a c _ _ (until_longer stop a c _ _ (until_on stop a b c acts (gives_up_one x n).acts first second)) (ap (λ t. t.acts) more)

-- ---- beginning

drop_next : {A : Type 0} (k : ℕ) (l : List A) (x : A) (xs : List A) → drop k l ≡ x ∷ xs → drop (k + 1) l ≡ xs
drop_next k l x xs is = sym (drop-drop 1 k l) ∙ ap (drop 1) is

planned : (f : Option PlanFault) (p parts : List Part) → plan_if f p ≡ Some parts → (f ≡ None) × (p ≡ parts)
planned None p parts is = let same : p ≡ parts = cc is in (refl, same)
planned (Some f) p parts is = absurd (cc is)

unplanned : (f : Option PlanFault) (p : List Part) (r : Option Refusal) → plan_if f p ≡ None → is_refused_by f r ≡ true
unplanned None p r is = absurd (cc is)
unplanned (Some f) p r is = refl

begins_at : (t : PlanTxn) (ts : List PlanTxn) (n : ControlState) (parts : List Part) (b : Bool) → plan_if (plan_fault (parts_of t)) (parts_of t) ≡ Some parts → is_some (refusal_of parts n) ≡ b
    → begins_all (t ∷ ts) n ≡ begins_by b parts n (begins_all ts)
begins_at t ts n parts b is at =
    let (none, same) = planned (plan_fault (parts_of t)) (parts_of t) parts is in
    ap (λ f. begins_by (is_refused_by f (refusal_of (parts_of t) n)) (parts_of t) n (begins_all ts)) none
    ∙ ap (λ p. begins_by (is_some (refusal_of p n)) p n (begins_all ts)) same
    ∙ ap (λ b. begins_by b parts n (begins_all ts)) at

-- one more was begun
begun_at : (l : List PlanTxn) (start : Turn) (acts : List Act) (n : ControlState) (parts : List Part) → drop (length n.begun) n.plan ≡ l → start ≡ before acts (begins_all l n)
    → next_parts l ≡ Some parts → is_some (refusal_of parts n) ≡ false → start ≡ before (acts ++ (begins_one parts n).acts) (begins_next (begun_with parts n))
begun_at [] start acts n parts at is next free = absurd (cc next)
begun_at (t ∷ ts) start acts n parts at is next free =
    let count : length (n.begun ++ next_txn n.core ∷ []) ≡ length n.begun + 1 = length-append n.begun (next_txn n.core ∷ []) in
    let left : ts ≡ drop (length (n.begun ++ next_txn n.core ∷ [])) n.plan = sym (ap (λ k. drop k n.plan) count ∙ drop_next (length n.begun) n.plan t ts at) in
    is ∙ ap (before acts) (begins_at t ts n parts false next free) ∙ before_then acts (begins_one parts n) (begins_all ts)
    ∙ ap (λ l. before (acts ++ (begins_one parts n).acts) (begins_all l (begun_with parts n))) left

pub begun_more : (start : Turn) (acts : List Act) (n : ControlState) (parts : List Part) → start ≡ before acts (begins_next n) → next_parts (drop (length n.begun) n.plan) ≡ Some parts
    → is_some (refusal_of parts n) ≡ false → start ≡ before (acts ++ (begins_one parts n).acts) (begins_next (begun_with parts n))
begun_more start acts n parts is next free = begun_at (drop (length n.begun) n.plan) start acts n parts refl is next free

-- the next one is refused
refused_at : (l : List PlanTxn) (n : ControlState) (parts : List Part) → next_parts l ≡ Some parts → is_some (refusal_of parts n) ≡ true → begins_all l n ≡ turn n []
refused_at [] n parts next shut = refl
refused_at (t ∷ ts) n parts next shut = begins_at t ts n parts true next shut

pub begun_refused : (start : Turn) (acts : List Act) (n : ControlState) (parts : List Part) → start ≡ before acts (begins_next n) → next_parts (drop (length n.begun) n.plan) ≡ Some parts
    → is_some (refusal_of parts n) ≡ true → start ≡ turn n acts
begun_refused start acts n parts is next shut = is ∙ ap (before acts) (refused_at (drop (length n.begun) n.plan) n parts next shut) ∙ before_end acts n

-- none is next
over_at : (l : List PlanTxn) (n : ControlState) → next_parts l ≡ None → begins_all l n ≡ turn n []
over_at [] n next = refl
over_at (t ∷ ts) n next = ap (λ b. begins_by b (parts_of t) n (begins_all ts)) (unplanned (plan_fault (parts_of t)) (parts_of t) (refusal_of (parts_of t) n) next)

pub begun_over : (start : Turn) (acts : List Act) (n : ControlState) → start ≡ before acts (begins_next n) → next_parts (drop (length n.begun) n.plan) ≡ None → start ≡ turn n acts
begun_over start acts n is next = is ∙ ap (before acts) (over_at (drop (length n.begun) n.plan) n next) ∙ before_end acts n

-- of one that was to be begun a front of the acts was done
until_by : (r : Option Refusal) (stop : NodeStop) (a b c : Option Held) (start : Turn) (acts : List Act) (n : ControlState) (parts : List Part) → refusal_of parts n ≡ r
    → start ≡ before acts (begins_next n) → next_parts (drop (length n.begun) n.plan) ≡ Some parts → Acts a b acts → Stops stop b c r (begins_one parts n).acts → ActsUntil stop a c start.acts
until_by None stop a b c start acts n parts at is next first second =
    let more = begun_more start acts n parts is next (ap is_some at) in
    until_same stop a c _ _ (until_longer stop a c _ _ (until_on stop a b c acts (begins_one parts n).acts first second)) (ap (λ t. t.acts) more)
until_by (Some r) stop a b c start acts n parts at is next first second =
    let none = begun_refused start acts n parts is next (ap is_some at) in
    until_same stop a c _ _ (until_on stop a b c acts [] first second) (ap (λ t. t.acts) none ∙ sym (append-nil acts))

pub begun_until : (stop : NodeStop) (a b c : Option Held) (start : Turn) (acts : List Act) (n : ControlState) (parts : List Part) → start ≡ before acts (begins_next n)
    → next_parts (drop (length n.begun) n.plan) ≡ Some parts → Acts a b acts → Stops stop b c (refusal_of parts n) (begins_one parts n).acts → ActsUntil stop a c start.acts
begun_until stop a b c start acts n parts is next first second = until_by (refusal_of parts n) stop a b c start acts n parts refl is next first second

-- one is left to be begun
pub some_left : (l : List PlanTxn) (parts : List Part) → next_parts l ≡ Some parts → 0 < length l
some_left [] parts next = absurd (cc next)
some_left (t ∷ ts) parts next = omega arith

-- fewer are left once it was begun
pub fewer_left : (n m : ControlState) (parts : List Part) → next_parts (drop (length n.begun) n.plan) ≡ Some parts → m ≡ begun_with parts n
    → length m.plan - length m.begun < length n.plan - length n.begun
fewer_left n m parts next is =
    let some : 0 < length (drop (length n.begun) n.plan) = some_left (drop (length n.begun) n.plan) parts next in
    let plan : length m.plan ≡ length n.plan = ap (λ (x : ControlState). length x.plan) is in
    let begun : length m.begun ≡ length n.begun + 1 = ap (λ (x : ControlState). length x.begun) is ∙ length-append n.begun (next_txn n.core ∷ []) in
    omega (arith, some, plan, begun, length-drop (length n.begun) n.plan)

-- whether it was refused, by what was told
pub is_free : (r : Option Refusal) (b : Bool) → b ≡ is_none r → b ≡ true → is_some r ≡ false
is_free None b at is = refl
is_free (Some r) b at is = absurd (cc (at, is))

pub is_shut : (r : Option Refusal) (b : Bool) → b ≡ is_none r → b ≡ false → is_some r ≡ true
is_shut None b at is = absurd (cc (at, is))
is_shut (Some r) b at is = refl
