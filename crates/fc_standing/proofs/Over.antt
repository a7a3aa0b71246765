-- Changes of the trees of a scope, and of all trees, and operations beside them.
use Rattle.std.proofs.Common.{◌≡◌, ℕ, zero, suc, ◌+◌, ◌==◌, ◌||◌, not, Bool, true, false, List, [], ◌∷◌, length, map, slice_get, refl, sym, ap, ◌∙◌, arith, Option, Some, None, option_map, Result, Ok, Err}
use Rattle.std.proofs.lemmas.Bool.Decides.{nat_tests}
use Rattle.std.specs.List.{list_any}
use Rattle.fc_base.specs.Answers.{◌>>=◌}
use Rattle.fc_configuration.specs.Marking.{bare}
use Rattle.fc_exec.specs.Operations.{applied, coded, leaf_made, place_of}
use Rattle.fc_exec.specs.declared.operations.Operation.{Operation}
use Rattle.fc_exec.specs.declared.operations.Operation.TheVariants as operation
use Rattle.fc_exec.proofs.Places.{at_next, changed_if, over_scope, within}
use Rattle.fc_path.specs.declared.oper.Spot.{Spot}
use Rattle.fc_protocol.specs.Scopes.{Scope, lists, meets}
use Rattle.fc_types.specs.Components.{ComponentDecl}
use Rattle.fc_types.specs.Libraries.{same_instance}
use Rattle.fc_value.specs.declared.value.Value.{Value}
use Rattle.fc_store.specs.Scopes.{at, each_at}
use Rattle.fc_store.specs.Spots.{resolved}
use Rattle.fc_store.specs.Stores.{Change, Stored, Tree, changed_at, declared_in, is_in, map_from, over_mark, places_in, settled, settled_tree, value_in, value_of, with_component, with_value}
use Rattle.fc_store.specs.declared.spots.Purpose.TheVariants as purpose
use Rattle.fc_store.proofs.Doing.{leads}
use Rattle.fc_store.proofs.Lists.{get_map, map_at, none_some, some_is}
use Rattle.fc_standing.specs.Holding.{is_outside, marking}
use Rattle.fc_standing.proofs.Leaves.{and_parts, does, leaf_change, leaf_does}
use Rattle.fc_standing.proofs.Along.{Goes}

-- ---- the trees at the instances of a scope
pub within_get : {A : Type 0} (f : A → A) (scope pairs : List (ℕ × ℕ)) (xs : List A) (i : ℕ) (p : ℕ × ℕ) (b : Bool) → slice_get pairs i ≡ Some p → is_in scope p ≡ b
    → slice_get (within f scope pairs xs) i ≡ option_map (changed_if f b) (slice_get xs i)
within_get f scope [] xs i p b e g = absurd (none_some p e)
within_get f scope (q ∷ pairs) [] i p b e g = refl
within_get f scope (q ∷ pairs) (x ∷ xs) zero p b e g = ap (λ c. Some (changed_if f c x)) (ap (is_in scope) (some_is q p e) ∙ g)
within_get f scope (q ∷ pairs) (x ∷ xs) (suc i) p b e g = within_get f scope pairs xs i p b e g

option_id : {A : Type 0} (o : Option A) (f : A → A) → option_map (changed_if f false) o ≡ o
option_id None f = refl
option_id (Some x) f = refl

pub get_outside : {A : Type 0} (f : A → A) (scope pairs : List (ℕ × ℕ)) (xs : List A) (i : ℕ) (p : ℕ × ℕ) → slice_get pairs i ≡ Some p → is_in scope p ≡ false → slice_get (within f scope pairs xs) i ≡ slice_get xs i
get_outside f scope pairs xs i p e g = within_get f scope pairs xs i p false e g ∙ option_id (slice_get xs i) f

at_outside : {A : Type 0} (f g : A → A) (scope pairs : List (ℕ × ℕ)) (xs : List A) (i : ℕ) (p : ℕ × ℕ) → slice_get pairs i ≡ Some p → is_in scope p ≡ false
    → at g i (within f scope pairs xs) ≡ within f scope pairs (at g i xs)
at_outside f g scope [] xs i p e o = refl
at_outside f g scope (q ∷ pairs) [] i p e o = refl
at_outside f g scope (q ∷ pairs) (x ∷ xs) zero p e o =
    let b : is_in scope q ≡ false = ap (is_in scope) (some_is q p e) ∙ o in
    ap (λ c. g (changed_if f c x) ∷ within f scope pairs xs) b ∙ sym (ap (λ c. changed_if f c (g x) ∷ within f scope pairs xs) b)
at_outside f g scope (q ∷ pairs) (x ∷ xs) (suc i) p e o =
    at_next g i (changed_if f (is_in scope q) x) (within f scope pairs xs) ∙ ap (λ ys. changed_if f (is_in scope q) x ∷ ys) (at_outside f g scope pairs xs i p e o)
    ∙ sym (ap (within f scope (q ∷ pairs)) (at_next g i x xs))

abbrev pub AreDisjoint : Scope → Scope → Type 0
AreDisjoint scope other = (p : ℕ × ℕ) → is_in scope p ≡ true → is_in other p ≡ true → ⊥

swap_if : {A : Type 0} (f g : A → A) (b c : Bool) (x : A) → (b ≡ true → c ≡ true → ⊥) → changed_if f b (changed_if g c x) ≡ changed_if g c (changed_if f b x)
swap_if f g true true x n = absurd (n refl refl)
swap_if f g true false x n = refl
swap_if f g false c x n = refl

within_swap : {A : Type 0} (f g : A → A) (scope other pairs : List (ℕ × ℕ)) (xs : List A) → AreDisjoint scope other → within f scope pairs (within g other pairs xs) ≡ within g other pairs (within f scope pairs xs)
within_swap f g scope other [] xs n = refl
within_swap f g scope other (p ∷ pairs) [] n = refl
within_swap f g scope other (p ∷ pairs) (x ∷ xs) n =
    ap (λ y. y ∷ within f scope pairs (within g other pairs xs)) (swap_if f g (is_in scope p) (is_in other p) x (n p))
    ∙ ap (λ ys. changed_if g (is_in other p) (changed_if f (is_in scope p) x) ∷ ys) (within_swap f g scope other pairs xs n)

pub within_length : {A : Type 0} (f : A → A) (scope pairs : List (ℕ × ℕ)) (xs : List A) → length (within f scope pairs xs) ≡ length xs
within_length f scope [] xs = refl
within_length f scope (p ∷ pairs) [] = refl
within_length f scope (p ∷ pairs) (x ∷ xs) = ap suc (within_length f scope pairs xs)

-- ---- scopes that do not meet
same_pair : (p q : ℕ × ℕ) → same_instance p q ≡ true → p ≡ q
same_pair p q e =
    let t = and_parts (p.0 == q.0) (p.1 == q.1) e in
    let a : p.0 ≡ q.0 = grind (arith, nat_tests, t.0) in
    let b : p.1 ≡ q.1 = grind (arith, nat_tests, t.1) in
    λ i. (a i, b i)

or_by : (a b : Bool) → (a || b) ≡ true → (a ≡ false → b ≡ true)
or_by true b e f = absurd cc
or_by false b e f = e

or_left : (a b : Bool) → a ≡ true → (a || b) ≡ true
or_left true b e = refl
or_left false b e = absurd cc

or_right : (a b : Bool) → b ≡ true → (a || b) ≡ true
or_right true b e = refl
or_right false b e = e

shared : (p : ℕ × ℕ) (is js : Scope) → list_any (same_instance p) is ≡ true → list_any (same_instance p) js ≡ true → list_any (lists js) is ≡ true
shared p [] js e f = absurd cc
shared p (i ∷ is) js e f = by (same_instance p i) refl (λ g. shared p is js g f)
  where
    by : (b : Bool) → same_instance p i ≡ b → (list_any (same_instance p) is ≡ true → list_any (lists js) is ≡ true) → (lists js i || list_any (lists js) is) ≡ true
    by true g more = or_left (lists js i) (list_any (lists js) is) (ap (λ q. list_any (same_instance q) js) (sym (same_pair p i g)) ∙ f)
    by false g more = or_right (lists js i) (list_any (lists js) is) (more (or_by (same_instance p i) (list_any (same_instance p) is) e g))

pub disjoint : (is js : Scope) → meets is js ≡ false → AreDisjoint is js
disjoint [] js e p f g = absurd cc
disjoint (i ∷ is) [] e p f g = absurd cc
disjoint (i ∷ is) (j ∷ js) e p f g = by (list_any (lists (j ∷ js)) (i ∷ is)) (shared p (i ∷ is) (j ∷ js) f g) e
  where
    by : (b : Bool) → b ≡ true → b ≡ false → ⊥
    by true x y = cc
    by false x y = cc

-- ---- a store over a scope
places_of : (ns : List ℕ) → map (λ (m : ℕ × ℕ). m.0) (map (λ i. (i, 0)) ns) ≡ ns
places_of [] = refl
places_of (n ∷ ns) = ap (λ ms. n ∷ ms) (places_of ns)

pub each_within : (f : Tree → Tree) (scope : Scope) (pairs : List (ℕ × ℕ)) (ts : List Tree) → each_at f (marking scope pairs) ts ≡ within f scope pairs ts
each_within f scope pairs ts = over_scope f scope pairs (marking scope pairs) ts (places_of (places_in scope 0 pairs))

abbrev pub over : (Tree → Tree) → Scope → Stored → Stored
over f scope s = over_mark f (marking scope s.instances) s

pub with_trees : (s : Stored) (ts us : List Tree) → ts ≡ us → (let a : Stored = record { library = s.library; instances = s.instances; trees = ts } in let b : Stored = record { library = s.library; instances = s.instances; trees = us } in a ≡ b)
with_trees s ts us p = λ i. record { library = s.library; instances = s.instances; trees = p i }

pub over_swap : (f g : Tree → Tree) (scope other : Scope) (s : Stored) → AreDisjoint scope other → over f scope (over g other s) ≡ over g other (over f scope s)
over_swap f g scope other s n =
    let ps = s.instances in
    with_trees s (each_at f (marking scope ps) (each_at g (marking other ps) s.trees)) (each_at g (marking other ps) (each_at f (marking scope ps) s.trees))
    (each_within f scope ps (each_at g (marking other ps) s.trees) ∙ ap (within f scope ps) (each_within g other ps s.trees) ∙ within_swap f g scope other ps s.trees n
    ∙ sym (each_within g other ps (each_at f (marking scope ps) s.trees) ∙ ap (within g other ps) (each_within f scope ps s.trees)))

-- ---- a change of the trees, and a change of a component that it does not touch
module _ (f : List (ℕ × ℕ) → List Tree → List Tree) where
  abbrev pub onto : Stored → Stored
  onto s = record { library = s.library; instances = s.instances; trees = f s.instances s.trees }

  pub record Passes (pairs : List (ℕ × ℕ)) (i : ℕ) : Type 0 where
    pub value : (c : ℕ) (ts : List Tree) → value_of c (slice_get (f pairs ts) i) ≡ value_of c (slice_get ts i)
    pub put : (c : ℕ) (v : Option Value) (ts : List Tree) → at (with_component c v) i (f pairs ts) ≡ f pairs (at (with_component c v) i ts)

  abbrev also : Result Stored ℕ → Result Stored ℕ
  also r = r >>= λ t. Ok (onto t)

  puts : (s : Stored) (place : ℕ × ℕ) (r : Result (Option Value) ℕ) → Passes s.instances place.0 → (r >>= λ v. Ok (with_value (onto s) place v)) ≡ also (r >>= λ v. Ok (with_value s place v))
  puts s place (Err code) p = refl
  puts s place (Ok v) p = ap Ok (with_trees s (at (with_component place.1 v) place.0 (f s.instances s.trees)) (f s.instances (at (with_component place.1 v) place.0 s.trees)) (p.put place.1 v s.trees))

  there : (g : Change) (s : Stored) (place : ℕ × ℕ) (o : Option ComponentDecl) → Passes s.instances place.0 → changed_at g (onto s) place o ≡ also (changed_at g s place o)
  there g s place None p = refl
  there g s place (Some d) p = ap (λ v. g d v >>= λ w. Ok (with_value (onto s) place w)) (p.value place.1 s.trees) ∙ puts s place (g d (value_in s place)) p

  at_spot : (g : Change) (spot : Spot) (s : Stored) (r : Result (ℕ × ℕ) ℕ) → resolved purpose.Write s.library s.instances spot.class spot.instance spot.steps ≡ r
      → ((place : ℕ × ℕ) → resolved purpose.Write s.library s.instances spot.class spot.instance spot.steps ≡ Ok place → Passes s.instances place.0)
      → (r >>= λ place. changed_at g (onto s) place (slice_get (declared_in s.library spot.class) place.1)) ≡ also (r >>= λ place. changed_at g s place (slice_get (declared_in s.library spot.class) place.1))
  at_spot g spot s (Err code) e p = refl
  at_spot g spot s (Ok place) e p = there g s place (slice_get (declared_in s.library spot.class) place.1) (p place e)

  does_onto : (o : Option Change) (spot : Spot) (s : Stored) → ((place : ℕ × ℕ) → resolved purpose.Write s.library s.instances spot.class spot.instance spot.steps ≡ Ok place → Passes s.instances place.0)
      → does o spot (onto s) ≡ also (does o spot s)
  does_onto None spot s p = refl
  does_onto (Some g) spot s p = at_spot g spot s (resolved purpose.Write s.library s.instances spot.class spot.instance spot.steps) refl p

  coded_onto : (s : Stored) (r : Result Stored ℕ) → coded (onto s) (also r) ≡ (onto (coded s r).0, (coded s r).1)
  coded_onto s (Ok t) = refl
  coded_onto s (Err code) = refl

  -- where no place of an operation is touched, it goes along
  pub operation_goes : (op : Operation) → ((s : Stored) (i : ℕ) (pair : ℕ × ℕ) → slice_get s.instances i ≡ Some pair → place_of op ≡ Some pair → Passes s.instances i) → Goes applied onto op
  operation_goes (operation.Leaf l) p s =
      let o = leaf_change l.kind l.spot l.body in
      let q : (place : ℕ × ℕ) → resolved purpose.Write s.library s.instances l.spot.class l.spot.instance l.spot.steps ≡ Ok place → Passes s.instances place.0 =
      λ place e. let m = leads purpose.Write s.library s.instances l.spot.class l.spot.instance l.spot.steps place e in
      let pair : Some m.0 ≡ Some (l.spot.class, l.spot.instance) = λ i. Some (m.2.0 i, m.2.1 i) in
      p s place.0 m.0 m.1 (sym pair) in
      ap (coded (onto s)) (leaf_does l.kind l.spot l.body (onto s) ∙ does_onto o l.spot s q ∙ ap also (sym (leaf_does l.kind l.spot l.body s))) ∙ coded_onto s (leaf_made l.kind l.spot l.body s)
  operation_goes operation.Commit p s = refl
  operation_goes operation.Trcomp p s = refl

-- ---- operations outside a scope
outside_false : (scope : Scope) (o : Option (ℕ × ℕ)) (pair : ℕ × ℕ) → o ≡ Some pair → is_outside scope o ≡ true → is_in scope pair ≡ false
outside_false scope None pair e f = absurd (none_some pair e)
outside_false scope (Some p) pair e f = ap (is_in scope) (sym (some_is p pair e)) ∙ by (is_in scope p) f
  where
    by : (b : Bool) → not b ≡ true → b ≡ false
    by true g = absurd cc
    by false g = refl

pub goes_over : (f : Tree → Tree) (scope : Scope) (op : Operation) → is_outside scope (place_of op) ≡ true → Goes applied (over f scope) op
goes_over f scope op e = operation_goes (λ pairs ts. each_at f (marking scope pairs) ts) op (λ s i pair g h.
    let o = outside_false scope (place_of op) pair h e in
    record {
      value = λ c ts. ap (value_of c) (ap (λ us. slice_get us i) (each_within f scope s.instances ts) ∙ get_outside f scope s.instances ts i pair g o);
      put = λ c v ts. ap (at (with_component c v) i) (each_within f scope s.instances ts) ∙ at_outside f (with_component c v) scope s.instances ts i pair g o
          ∙ sym (each_within f scope s.instances (at (with_component c v) i ts));
    })

-- ---- without marks
pub bare_from : (n : ℕ) (ts : List Tree) → map_from (settled_tree []) n ts ≡ map bare ts
bare_from n [] = refl
bare_from n (t ∷ ts) = ap (λ us. bare t ∷ us) (bare_from (n + 1) ts)

bare_value : (c : ℕ) (o : Option Tree) → value_of c (option_map bare o) ≡ value_of c o
bare_value c None = refl
bare_value c (Some t) = refl

pub goes_bare : (op : Operation) → Goes applied (settled []) op
goes_bare op = operation_goes (λ pairs ts. map_from (settled_tree []) 0 ts) op (λ s i pair g h. record {
  value = λ c ts. ap (λ us. value_of c (slice_get us i)) (bare_from 0 ts) ∙ ap (value_of c) (get_map bare ts i) ∙ bare_value c (slice_get ts i);
  put = λ c v ts. ap (at (with_component c v) i) (bare_from 0 ts) ∙ sym (map_at bare (with_component c v) (with_component c v) ts i (λ t. refl)) ∙ sym (bare_from 0 (at (with_component c v) i ts));
})
