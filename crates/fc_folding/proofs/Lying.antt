-- Where the operations of selects lie: where none of the selects is in the way of what is held, no operation is.
use Rattle.std.proofs.Common.{◌≡◌, ℕ, Bool, true, false, ◌&&◌, ◌||◌, List, [], ◌∷◌, ◌++◌, map, Option, Some, None, refl, sym, ap, ◌∙◌, subst, rules}
use Rattle.std.specs.List.{AllByRecursion, flat_map, list_any}
use Rattle.fc_events.specs.declared.subscriptions.Notice.{Notice}
use Rattle.fc_events.specs.declared.subscriptions.Subscription.{Subscription}
use Rattle.fc_exec.specs.Operations.{oper_operations, operations, place_of, select_operations}
use Rattle.fc_exec.specs.declared.operations.Operation.{Operation}
use Rattle.fc_exec.specs.declared.operations.Operation.TheVariants as operation
use Rattle.fc_holding.specs.Held.{has_leaves, is_in_the_way, waits}
use Rattle.fc_machine.specs.Ground.{Ground}
use Rattle.fc_machine.specs.Transactions.{places, with_place}
use Rattle.fc_path.proofs.Flattening.{nested_leaves}
use Rattle.fc_path.specs.Leaves.{Given, leaf, own_steps, body_leaves, path_leaves, oper_leaves}
use Rattle.fc_path.specs.declared.oper.Leaf.{Leaf}
use Rattle.fc_path.specs.declared.oper.Oper.{Oper}
use Rattle.fc_path.specs.declared.oper.Oper.TheVariants as oper
use Rattle.fc_path.specs.declared.oper.OperKind.{OperKind}
use Rattle.fc_path.specs.declared.oper.Select.{Select}
use Rattle.fc_path.specs.declared.oper.Step.{Step}
use Rattle.fc_path.specs.declared.path.PathData.{PathData, roll-PathData}
use Rattle.fc_path.specs.declared.path.Body.{Body, roll-Body, map-Body, the_lemmas}
use Rattle.fc_path.specs.declared.path.Body.TheOpen.{Body-F, PathData-F}
use Rattle.fc_path.specs.declared.path.Body.TheFolds.{ind-PathData}
use Rattle.fc_path.specs.declared.path.Body.TheVariants as v
use Rattle.fc_protocol.specs.Records.{any_taken, is_taken}
use Rattle.fc_protocol.specs.Scopes.{Scope}
use Rattle.fc_protocol.specs.declared.answers.TxnEntry.{TxnEntry}
use Rattle.fc_standing.specs.Basis.{store_basis}
use Rattle.fc_store.specs.Stores.{Stored}
use Rattle.fc_wire.specs.declared.ilvs.Ilv.{Ilv}

-- ---- each leaf lies at the instance of its select
abbrev pub IsAt : ℕ → ℕ → Leaf → Type 0
IsAt c i l = (l.spot.class ≡ c) × (l.spot.instance ≡ i)

abbrev pub AreAt : ℕ → ℕ → List Leaf → Type 0
AreAt c i ls = AllByRecursion (IsAt c i) ls

abbrev BodyLies : Body → Type 0
BodyLies b = (k : OperKind) (c i : ℕ) (steps : List Step) → AreAt c i (body_leaves k c i b steps)

abbrev PathLies : PathData → Type 0
PathLies p = (k : OperKind) (c i : ℕ) (steps : List Step) → AreAt c i (path_leaves k c i p steps)

abbrev AllLie : List PathData → Type 0
AllLie [] = Unit {0}
AllLie (p ∷ ps) = PathLies p × AllLie ps

path_leaves_is : (k : OperKind) (c i : ℕ) (p : PathData) → path_leaves k c i p ≡ (λ steps. body_leaves k c i p.body (steps ++ own_steps p.ids p.key))
path_leaves_is k c i p = search (rules, the_lemmas)

nothing_leaf : (k : OperKind) (c i : ℕ) → body_leaves k c i v.Nothing ≡ (λ steps. leaf k c i steps v.Nothing)
nothing_leaf k c i = search (rules, the_lemmas)

full_leaf : (k : OperKind) (c i : ℕ) (x : List ℕ) → body_leaves k c i (v.Full x) ≡ (λ steps. leaf k c i steps (v.Full x))
full_leaf k c i x = search (rules, the_lemmas)

sparse_leaf : (k : OperKind) (c i : ℕ) (ilvs : List Ilv) → body_leaves k c i (v.Sparse ilvs) ≡ (λ steps. leaf k c i steps (v.Sparse ilvs))
sparse_leaf k c i ilvs = search (rules, the_lemmas)

outcome_leaf : (k : OperKind) (c i code : ℕ) → body_leaves k c i (v.Outcome code) ≡ (λ steps. leaf k c i steps (v.Outcome code))
outcome_leaf k c i code = search (rules, the_lemmas)

leaf_lies : (b : Body) → ((k : OperKind) (c i : ℕ) → body_leaves k c i b ≡ (λ steps. leaf k c i steps b)) → BodyLies b
leaf_lies b is k c i steps = subst (λ (g : Given). AreAt c i (g steps)) (sym (is k c i)) ((refl, refl), tt)

path_lies : (p : PathData) → BodyLies p.body → PathLies p
path_lies p inner k c i steps = subst (λ (g : Given). AreAt c i (g steps)) (sym (path_leaves_is k c i p)) (inner k c i (steps ++ own_steps p.ids p.key))

at_append : (c i : ℕ) (xs ys : List Leaf) → AreAt c i xs → AreAt c i ys → AreAt c i (xs ++ ys)
at_append c i [] ys a b = b
at_append c i (x ∷ xs) ys a b = (a.0, at_append c i xs ys a.1 b)

pub all_leaves : (ps : List PathData) → AllLie ps → (k : OperKind) (c i : ℕ) (steps : List Step) → AreAt c i (flat_map (λ p. path_leaves k c i p steps) ps)
all_leaves [] h k c i steps = tt
all_leaves (p ∷ ps) h k c i steps = at_append c i (path_leaves k c i p steps) (flat_map (λ p. path_leaves k c i p steps) ps) (h.0 k c i steps) (all_leaves ps h.1 k c i steps)

nested_lies : (ps : List PathData) → AllLie ps → BodyLies (v.Nested ps)
nested_lies ps h k c i steps = subst (AreAt c i) (sym (nested_leaves k c i ps steps)) (all_leaves ps h k c i steps)

abbrev ABody : Type 0
ABody = (b : Body) × BodyLies b

abbrev APath : Type 0
APath = (p : PathData) × PathLies p

list_lies : (ps : List APath) → AllLie (map (λ x. x.0) ps)
list_lies [] = tt
list_lies (p ∷ ps) = (p.1, list_lies ps)

layer_lies : (y : Body-F ABody APath) → BodyLies (roll-Body (map-Body ABody APath Body PathData (λ e. e.0) (λ e. e.0) y))
layer_lies Body-F.Nothing = subst BodyLies (sym v.rolls-Nothing) (leaf_lies v.Nothing nothing_leaf)
layer_lies (Body-F.Full x) = subst BodyLies (sym (v.rolls-Full x)) (leaf_lies (v.Full x) (λ k c i. full_leaf k c i x))
layer_lies (Body-F.Sparse ilvs) = subst BodyLies (sym (v.rolls-Sparse ilvs)) (leaf_lies (v.Sparse ilvs) (λ k c i. sparse_leaf k c i ilvs))
layer_lies (Body-F.Outcome code) = subst BodyLies (sym (v.rolls-Outcome code)) (leaf_lies (v.Outcome code) (λ k c i. outcome_leaf k c i code))
layer_lies (Body-F.Nested ps) = subst BodyLies (sym (v.rolls-Nested (map (λ (x : APath). x.0) ps))) (nested_lies (map (λ (x : APath). x.0) ps) (list_lies ps))

every_lies : (p : PathData) → PathLies p
every_lies = ind-PathData BodyLies PathLies
    (λ x y is. subst (λ l. BodyLies (roll-Body l)) is (layer_lies y))
    (λ x y is. path_lies (roll-PathData x) (subst BodyLies (ap (λ (z : PathData-F Body PathData). z.body) is) y.body.1))

pub all_lie : (ps : List PathData) → AllLie ps
all_lie [] = tt
all_lie (p ∷ ps) = (every_lies p, all_lie ps)

-- ---- where none is in the way
abbrev pub basis : List (ℕ × ℕ) → Ground Stored Operation (List Subscription)
basis instances = store_basis (λ (n : Notice). 0) 0 instances

neither : (a b : Bool) → a ≡ false → b ≡ false → (a || b) ≡ false
neither true b e f = absurd cc
neither false b e f = f

first_out : (a b t : Bool) → ((a || b) && t) ≡ false → (a && t) ≡ false
first_out true b t e = e
first_out false b t e = refl

second_out : (a b t : Bool) → ((a || b) && t) ≡ false → (b && t) ≡ false
second_out true true t e = e
second_out true false t e = refl
second_out false b t e = e

module _ (instances : List (ℕ × ℕ)) (ns : List TxnEntry) where
  abbrev Free : List Operation → Type 0
  Free ops = any_taken ns (places (basis instances) ops) ≡ false

  leaves_free : (c i : ℕ) (ls : List Leaf) → is_taken ns (c, i) ≡ false → AreAt c i ls → Free (map operation.Leaf ls)
  leaves_free c i [] e a = refl
  leaves_free c i (l ∷ ls) e a =
      let here : is_taken ns (l.spot.class, l.spot.instance) ≡ is_taken ns (c, i) = λ j. is_taken ns (a.0.0 j, a.0.1 j) in
      neither (is_taken ns (l.spot.class, l.spot.instance)) (any_taken ns (places (basis instances) (map operation.Leaf ls))) (here ∙ e) (leaves_free c i ls e a.1)

  more_by : (o : Option (ℕ × ℕ)) (ps qs : Scope) → any_taken ns (with_place (basis instances) o ps) ≡ false → (any_taken ns ps ≡ false → any_taken ns qs ≡ false) → any_taken ns (with_place (basis instances) o qs) ≡ false
  more_by None ps qs e r = r e
  more_by (Some p) ps qs e r = by (is_taken ns p) (any_taken ns ps) (any_taken ns qs) e r
    where
      by : (a b c : Bool) → (a || b) ≡ false → (b ≡ false → c ≡ false) → (a || c) ≡ false
      by true b c e r = absurd cc
      by false b c e r = r e

  free_more : (xs ys : List Operation) → Free xs → Free ys → Free (xs ++ ys)
  free_more [] ys e f = f
  free_more (x ∷ xs) ys e f = more_by (place_of x) (places (basis instances) xs) (places (basis instances) (xs ++ ys)) e (λ g. free_more xs ys g f)

  oper_free : (c i : ℕ) (o : Oper) → (has_leaves o && is_taken ns (c, i)) ≡ false → Free (oper_operations c i o)
  oper_free c i (oper.Paths kind paths) e = leaves_free c i (oper_leaves c i (oper.Paths kind paths)) e (all_leaves paths (all_lie paths) kind c i [])
  oper_free c i oper.Commit e = refl
  oper_free c i oper.Trcomp e = refl
  oper_free c i (oper.CommitResponse code) e = refl

  opers_free : (c i : ℕ) (os : List Oper) → (list_any has_leaves os && is_taken ns (c, i)) ≡ false → Free (flat_map (oper_operations c i) os)
  opers_free c i [] e = refl
  opers_free c i (o ∷ os) e =
      free_more (oper_operations c i o) (flat_map (oper_operations c i) os) (oper_free c i o (first_out (has_leaves o) (list_any has_leaves os) (is_taken ns (c, i)) e))
      (opers_free c i os (second_out (has_leaves o) (list_any has_leaves os) (is_taken ns (c, i)) e))

  either : (a b : Bool) → (a || b) ≡ false → (a ≡ false) × (b ≡ false)
  either true b e = absurd cc
  either false b e = (refl, e)

  pub selects_free : (selects : List Select) → waits ns selects ≡ false → Free (operations selects)
  selects_free [] e = refl
  selects_free (s ∷ ss) e =
      let w = either (is_in_the_way ns s) (waits ns ss) e in
      free_more (select_operations s) (operations ss) (opers_free s.class s.instance s.opers w.0) (selects_free ss w.1)
