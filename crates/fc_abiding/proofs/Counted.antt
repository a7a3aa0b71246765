-- Each operation of a Config gets one code.
use Rattle.std.proofs.Common.{◌≡◌, ℕ, suc, ◌+◌, ◌==◌, Bool, true, false, cond, List, [], ◌∷◌, ◌++◌, length, map, refl, sym, ap, ◌∙◌, subst, length-append}
use Rattle.std.proofs.lemmas.Bool.{and_parts}
use Rattle.std.proofs.lemmas.List.{length-map}
use Rattle.std.specs.List.{flat_map, list_all}
use Rattle.fc_abiding.proofs.Reading.{full_leaf, nothing_leaf, outcome_leaf, path_leaves_is, sparse_leaf}
use Rattle.fc_abiding.proofs.Shaped.{Shaped}
use Rattle.fc_abiding.proofs.Shown.{full_is, nested_is, nothing_is, outcome_is, path_is, sparse_is}
use Rattle.fc_base.specs.Ids.{Txn}
use Rattle.fc_events.specs.Setting.{effect, exec_outcome}
use Rattle.fc_events.specs.declared.subscriptions.Notice.{Notice}
use Rattle.fc_events.specs.declared.subscriptions.Subscription.{Subscription}
use Rattle.fc_exec.specs.Operations.{applied, executed, oper_operations, operations, select_operations, within}
use Rattle.fc_exec.specs.declared.operations.Operation.{Operation}
use Rattle.fc_exec.specs.declared.operations.Operation.TheVariants as operation
use Rattle.fc_holding.specs.Held.{scope_of, state_at, waits}
use Rattle.fc_machine.specs.ElementState.{first_code}
use Rattle.fc_machine.specs.Transactions.{is_completed}
use Rattle.fc_modes.proofs.Outcomes.{one_code_each}
use Rattle.fc_modes.specs.Modes.{Outcome}
use Rattle.fc_modes.specs.declared.mode.Mode.{Mode}
use Rattle.fc_modes.specs.declared.mode.Mode.TheVariants.{AllOrNone}
use Rattle.fc_msg.specs.declared.message.Message.{Message}
use Rattle.fc_path.proofs.Flattening.{nested_leaves}
use Rattle.fc_path.specs.Leaves.{Given, leaf, own_steps, body_leaves, path_leaves, oper_leaves, select_leaves}
use Rattle.fc_path.specs.declared.oper.Leaf.{Leaf}
use Rattle.fc_path.specs.declared.oper.Oper.{Oper}
use Rattle.fc_path.specs.declared.oper.Oper.TheVariants as oper
use Rattle.fc_path.specs.declared.oper.OperKind.{OperKind}
use Rattle.fc_path.specs.declared.oper.Select.{Select}
use Rattle.fc_path.specs.declared.oper.Step.{Step}
use Rattle.fc_path.specs.declared.path.PathData.{PathData, roll-PathData}
use Rattle.fc_path.specs.declared.path.Body.{Body, roll-Body, map-Body}
use Rattle.fc_path.specs.declared.path.Body.TheOpen.{Body-F, PathData-F}
use Rattle.fc_path.specs.declared.path.Body.TheFolds.{ind-PathData}
use Rattle.fc_path.specs.declared.path.Body.TheVariants as v
use Rattle.fc_performing.specs.Performing.{Performed, are_props, configured, mode_of, registered, sets_props}
use Rattle.fc_phases.specs.Asking.{txn_of}
use Rattle.fc_phases.specs.Shapes.{rest_of}
use Rattle.fc_phases.specs.declared.asked.Asked.{Asked}
use Rattle.fc_phases.specs.declared.asked.Asked.TheVariants.{Claim, Floor, Plain, Start, Change, Commit, Complete as Completing, Abort as Aborting, Malformed}
use Rattle.fc_phases.specs.declared.values.Opening.{Opening}
use Rattle.fc_protocol.specs.Phases.{Turn, adding, settling}
use Rattle.fc_protocol.specs.Scopes.{Scope}
use Rattle.fc_protocol.specs.declared.states.Decision.TheVariants.{Complete}
use Rattle.fc_reply.specs.Counting.{body_gets, each_gets, oper_gets, path_gets, paths_get, select_gets}
use Rattle.fc_store.specs.Stores.{Stored}
use Rattle.fc_transactions.specs.Phases.{Did, abort_turn, aborted_by, acts, all_get, both_codes, code_of_floor, continued, executes, extends, extends_failed, is_admitted, is_held_in, marked, opens, opens_failed, refuses, rest_outcome, settles, start_turn_by, started, turns}
use Rattle.fc_transactions.specs.declared.ledger.Ledger.{Ledger}

-- ---- where each gets the same
abbrev BodyLong : Body → Type 0
BodyLong b = (code : ℕ) (k : OperKind) (c i : ℕ) (steps : List Step) → length (body_gets code b) ≡ length (body_leaves k c i b steps)

abbrev PathLong : PathData → Type 0
PathLong p = (code : ℕ) (k : OperKind) (c i : ℕ) (steps : List Step) → length (path_gets code p) ≡ length (path_leaves k c i p steps)

abbrev AllLong : List PathData → Type 0
AllLong [] = Unit {0}
AllLong (p ∷ ps) = PathLong p × AllLong ps

leaf_long : (b : Body) → ((code : ℕ) → body_gets code b ≡ code ∷ []) → ((k : OperKind) (c i : ℕ) → body_leaves k c i b ≡ (λ steps. leaf k c i steps b)) → BodyLong b
leaf_long b is one code k c i steps = ap (λ (xs : List ℕ). length xs) (is code) ∙ sym (ap (λ (g : Given). length (g steps)) (one k c i))

path_long : (p : PathData) → BodyLong p.body → PathLong p
path_long p inner code k c i steps =
    ap (λ (xs : List ℕ). length xs) (path_is code p) ∙ inner code k c i (steps ++ own_steps p.ids p.key) ∙ sym (ap (λ (g : Given). length (g steps)) (path_leaves_is k c i p))

paths_long : (ps : List PathData) → AllLong ps → (code : ℕ) (k : OperKind) (c i : ℕ) (steps : List Step) → length (paths_get code ps) ≡ length (flat_map (λ p. path_leaves k c i p steps) ps)
paths_long [] h code k c i steps = refl
paths_long (p ∷ ps) h code k c i steps =
    length-append (path_gets code p) (paths_get code ps) ∙ (λ j. h.0 code k c i steps j + paths_long ps h.1 code k c i steps j)
    ∙ sym (length-append (path_leaves k c i p steps) (flat_map (λ p. path_leaves k c i p steps) ps))

nested_long : (ps : List PathData) → AllLong ps → BodyLong (v.Nested ps)
nested_long ps h code k c i steps = ap (λ (xs : List ℕ). length xs) (nested_is code ps) ∙ paths_long ps h code k c i steps ∙ sym (ap (λ (l : List Leaf). length l) (nested_leaves k c i ps steps))

abbrev ABody : Type 0
ABody = (b : Body) × BodyLong b

abbrev APath : Type 0
APath = (p : PathData) × PathLong p

list_long : (ps : List APath) → AllLong (map (λ x. x.0) ps)
list_long [] = tt
list_long (p ∷ ps) = (p.1, list_long ps)

layer_long : (y : Body-F ABody APath) → BodyLong (roll-Body (map-Body ABody APath Body PathData (λ e. e.0) (λ e. e.0) y))
layer_long Body-F.Nothing = subst BodyLong (sym v.rolls-Nothing) (leaf_long v.Nothing nothing_is nothing_leaf)
layer_long (Body-F.Full x) = subst BodyLong (sym (v.rolls-Full x)) (leaf_long (v.Full x) (λ code. full_is code x) (λ k c i. full_leaf k c i x))
layer_long (Body-F.Sparse ilvs) = subst BodyLong (sym (v.rolls-Sparse ilvs)) (leaf_long (v.Sparse ilvs) (λ code. sparse_is code ilvs) (λ k c i. sparse_leaf k c i ilvs))
layer_long (Body-F.Outcome other) = subst BodyLong (sym (v.rolls-Outcome other)) (leaf_long (v.Outcome other) (λ code. outcome_is code other) (λ k c i. outcome_leaf k c i other))
layer_long (Body-F.Nested ps) = subst BodyLong (sym (v.rolls-Nested (map (λ (x : APath). x.0) ps))) (nested_long (map (λ (x : APath). x.0) ps) (list_long ps))

every_long : (p : PathData) → PathLong p
every_long = ind-PathData BodyLong PathLong
    (λ x y is. subst (λ l. BodyLong (roll-Body l)) is (layer_long y))
    (λ x y is. path_long (roll-PathData x) (subst BodyLong (ap (λ (z : PathData-F Body PathData). z.body) is) y.body.1))

all_long : (ps : List PathData) → AllLong ps
all_long [] = tt
all_long (p ∷ ps) = (every_long p, all_long ps)

oper_long : (code c i : ℕ) (o : Oper) → length (oper_gets code o) ≡ length (oper_operations c i o)
oper_long code c i (oper.Paths kind paths) =
    paths_long paths (all_long paths) code kind c i [] ∙ sym (length-map (oper_leaves c i (oper.Paths kind paths)) operation.Leaf)
oper_long code c i oper.Commit = refl
oper_long code c i oper.Trcomp = refl
oper_long code c i (oper.CommitResponse other) = refl

opers_long : (code c i : ℕ) (os : List Oper) → length (flat_map (oper_gets code) os) ≡ length (flat_map (oper_operations c i) os)
opers_long code c i [] = refl
opers_long code c i (o ∷ os) =
    length-append (oper_gets code o) (flat_map (oper_gets code) os) ∙ (λ j. oper_long code c i o j + opers_long code c i os j) ∙ sym (length-append (oper_operations c i o) (flat_map (oper_operations c i) os))

pub each_long : (code : ℕ) (selects : List Select) → length (each_gets code selects) ≡ length (operations selects)
each_long code [] = refl
each_long code (s ∷ ss) =
    length-append (select_gets code s) (each_gets code ss) ∙ (λ j. opers_long code s.class s.instance s.opers j + each_long code ss j) ∙ sym (length-append (select_operations s) (operations ss))

-- ---- where all are SET-PROPs, each is a leaf
props_oper : (c i : ℕ) (o : Oper) → sets_props o ≡ true → length (oper_leaves c i o) ≡ length (oper_operations c i o)
props_oper c i (oper.Paths kind paths) e = sym (length-map (oper_leaves c i (oper.Paths kind paths)) operation.Leaf)
props_oper c i oper.Commit e = absurd (let k : false ≡ true = e in cc)
props_oper c i oper.Trcomp e = absurd (let k : false ≡ true = e in cc)
props_oper c i (oper.CommitResponse code) e = refl

props_opers : (c i : ℕ) (os : List Oper) → list_all sets_props os ≡ true → length (flat_map (oper_leaves c i) os) ≡ length (flat_map (oper_operations c i) os)
props_opers c i [] e = refl
props_opers c i (o ∷ os) e =
    let k = and_parts (sets_props o) (list_all sets_props os) e in
    length-append (oper_leaves c i o) (flat_map (oper_leaves c i) os) ∙ (λ j. props_oper c i o k.0 j + props_opers c i os k.1 j) ∙ sym (length-append (oper_operations c i o) (flat_map (oper_operations c i) os))

props_long : (selects : List Select) → are_props selects ≡ true → length (flat_map select_leaves selects) ≡ length (operations selects)
props_long [] e = refl
props_long (s ∷ ss) e =
    let k = and_parts (list_all sets_props s.opers) (are_props ss) e in
    length-append (select_leaves s) (flat_map select_leaves ss) ∙ (λ j. props_opers s.class s.instance s.opers k.0 j + props_long ss k.1 j) ∙ sym (length-append (select_operations s) (operations ss))

module _ (p epoch : ℕ) (l : Ledger) (m : Message) (selects : List Select) where
  performed_by : (mode : Mode) (b : Bool) → are_props selects ≡ b
      → length (cond {A = Performed} b (registered l.store (exec_outcome mode l.store l.subscriptions selects)) (configured l.subscriptions (executed mode l.store selects))).codes ≡ length (operations selects)
  performed_by mode true e = one_code_each effect mode (l.store, l.subscriptions) (flat_map select_leaves selects) ∙ props_long selects e
  performed_by mode false e = one_code_each applied mode l.store (operations selects)

  plain_by : (b : Bool) → length (cond {A = Did} b (all_get l selects 18) (executes p l m selects)).codes ≡ length (operations selects)
  plain_by true = each_long 18 selects
  plain_by false = performed_by (mode_of m.flags.em) (are_props selects) refl

  rest_long : (scope : Scope) (s : Stored) (rest : List Select) → length (rest_outcome scope s rest).codes ≡ length (operations rest)
  rest_long scope s rest = one_code_each (within scope) AllOrNone s (operations rest)

  started_by : (o : Opening) (rest : List Select) (done : Outcome Stored Operation) (code : ℕ) (b : Bool) → length done.codes ≡ length (operations rest) → length (cond {A = Did} b (opens p l o rest done) (opens_failed p l o done.codes code)).codes ≡ suc (length (operations rest))
  started_by o rest done code true e = ap suc e
  started_by o rest done code false e = ap suc e

  starts_by : (o : Opening) (rest : List Select) (code : ℕ) (b : Bool) → length (cond {A = Did} b (started p l o rest) (refuses l rest code)).codes ≡ suc (length (operations rest))
  starts_by o rest code true =
      let done = rest_outcome o.instances (marked o.instances l.store) rest in
      started_by o rest done (first_code done.codes) (first_code done.codes == 0) (rest_long o.instances (marked o.instances l.store) rest)
  starts_by o rest code false = ap suc (each_long 255 rest)

  changed_by : (x : Txn) (rest : List Select) (done : Outcome Stored Operation) (code : ℕ) (b : Bool) → length done.codes ≡ length (operations rest) → length (cond {A = Did} b (extends p l x rest done) (extends_failed p l x done.codes code)).codes ≡ suc (length (operations rest))
  changed_by x rest done code true e = ap suc e
  changed_by x rest done code false e = ap suc e

  changes_by : (x : Txn) (rest : List Select) (code : ℕ) (b : Bool) → length (cond {A = Did} b (continued p l x rest) (refuses l rest code)).codes ≡ suc (length (operations rest))
  changes_by x rest code true =
      let done = rest_outcome (scope_of x l.records.entries) l.store rest in
      changed_by x rest done (first_code done.codes) (first_code done.codes == 0) (rest_long (scope_of x l.records.entries) l.store rest)
  changes_by x rest code false = ap suc (each_long 255 rest)

  completes_by : (x : Txn) (t : Turn) (b : Bool) (told : List Subscription × List Notice) → length (cond {A = Did} b (settles p l x t told) (turns p l x [] [] t l.holdings l.store (both_codes t.code))).codes ≡ 2
  completes_by x t true told = refl
  completes_by x t false told = refl

  aborts_by : (x : Txn) (t : Turn) (b : Bool) → length (aborted_by p l x b t).codes ≡ 1
  aborts_by x t true = refl
  aborts_by x t false = refl

  abbrev long : List Operation → ℕ
  long ops = length ops

  pub acts_long : (a : Asked) → Shaped selects a → length (acts p epoch l m selects a).codes ≡ length (operations selects)
  acts_long (Claim w) shape = plain_by (waits l.records.entries selects)
  acts_long (Floor f) shape = each_long (code_of_floor epoch l.records (txn_of f)) selects
  acts_long Plain shape = plain_by (waits l.records.entries selects)
  acts_long (Start o) shape =
      let code = (start_turn_by (is_admitted p epoch l.store.instances o) l.records o 0).code in starts_by o (rest_of selects) code (code == 0) ∙ sym (ap long shape.1)
  acts_long (Change x) shape =
      let code = (adding 0 (state_at (txn_of x) l.records.entries)).code in changes_by (txn_of x) (rest_of selects) code (code == 0) ∙ sym (ap long shape.1)
  acts_long (Commit x) shape = sym (ap long shape.1)
  acts_long (Completing x) shape =
      let t = settling Complete (state_at (txn_of x) l.records.entries) in completes_by (txn_of x) t (is_completed t.new) _ ∙ sym (ap long shape.1)
  acts_long (Aborting x) shape = aborts_by (txn_of x) (abort_turn l.records (txn_of x)) (is_held_in (state_at (txn_of x) l.records.entries)) ∙ sym (ap long shape.1)
  acts_long Malformed shape = each_long _ selects
