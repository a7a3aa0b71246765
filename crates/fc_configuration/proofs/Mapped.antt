-- The cells of a store tell what it holds.
use Rattle.std.proofs.Common.{◌≡◌, ℕ, zero, suc, ◌==◌, nat_eq, Bool, true, false, not, ◌&&◌, ◌||◌, cond, List, [], ◌∷◌, map, position, find, slice_get, refl, sym, ap, ap₂, subst, ◌∙◌, Option, Some, None, option_map, option_and_then, Ok, Err, if◌then◌else◌, eqb-true}
use Rattle.std.specs.List.{list_any}
use Rattle.fc_base.specs.Answers.{◌>>=◌}
use Rattle.fc_path.specs.declared.oper.Step.{Step}
use Rattle.fc_path.specs.declared.oper.Step.TheVariants as step
use Rattle.fc_tree.specs.Finding.{or_code}
use Rattle.fc_types.specs.Classes.{class_keeps, component_ids, components_differ, each_type, ids_differ}
use Rattle.fc_types.specs.Components.{ComponentDecl}
use Rattle.fc_types.specs.Ids.{is_distinct}
use Rattle.fc_types.specs.Libraries.{AreInstances, IsLibrary, same_instance}
use Rattle.fc_types.specs.Sound.{IsSound}
use Rattle.fc_types.specs.Types.{has_distinct_ids, throughout}
use Rattle.fc_types.specs.declared.class.Class.{Class}
use Rattle.fc_types.specs.declared.class.EventDecl.{EventDecl}
use Rattle.fc_types.specs.declared.class_rules.ClassRule.TheVariants.{DistinctIds}
use Rattle.fc_types.specs.declared.ty.Ty.{Ty}
use Rattle.fc_types.proofs.Bools.{both}
use Rattle.fc_types.proofs.Rising.{rising_distinct}
use Rattle.fc_value.specs.declared.value.Value.{Value}
use Rattle.fc_instance.specs.Cells.{look_cell}
use Rattle.fc_cells.specs.Cells.{by_ids, cell_of, some_cell}
use Rattle.fc_cells.proofs.Finds.{all_in, found_at, in_found, no_some, position_step, same_test, turned_test}
use Rattle.fc_cells.proofs.Telling.{cells_tell}
use Rattle.fc_store.specs.Spots.{component_place, event_error, in_class, is_event_base, paired, place_in_class, placed, resolved, unknown_class, unknown_instance}
use Rattle.fc_store.specs.Stores.{Pairwise, Stored, Tree, components_of, declared_in, present, value_of}
use Rattle.fc_store.specs.declared.spots.Purpose.TheVariants as purpose
use Rattle.fc_store.proofs.Lists.{none_some, some_is}
use Rattle.fc_configuration.specs.Fitting.{AreFitting, DoFit, FitsComponent, IsFitting}
use Rattle.fc_configuration.specs.Sites.{Site, cell_at, spot_by}
use Rattle.fc_configuration.proofs.Changing.{DoesFit, fits_so}
use Rattle.fc_configuration.proofs.Here.{seen_there}
use Rattle.fc_configuration.proofs.Places.{sound_in}

-- ---- the first that passes, among members that differ
not_true : (b : Bool) → not b ≡ true → b ≡ false
not_true true e = absurd (cc)
not_true false e = refl

not_either : (a b : Bool) → (a || b) ≡ false → (a ≡ false) × (b ≡ false)
not_either true b e = absurd (cc)
not_either false b e = (refl, e)

any_get : {X : Type 0} (p : X → Bool) (xs : List X) (i : ℕ) (y : X) → list_any p xs ≡ false → slice_get xs i ≡ Some y → p y ≡ false
any_get p [] i y a e = absurd (none_some y e)
any_get p (x ∷ xs) zero y a e = ap p (sym (some_is x y e)) ∙ (not_either (p x) (list_any p xs) a).0
any_get p (x ∷ xs) (suc i) y a e = any_get p xs i y (not_either (p x) (list_any p xs) a).1 e

position_of : {X : Type 0} (same : X → X → Bool) (p : X → Bool) (xs : List X) (i : ℕ) (y : X) → is_distinct same xs ≡ true → ((x y : X) → same x y ≡ false → p y ≡ true → p x ≡ false) → slice_get xs i ≡ Some y → p y ≡ true
    → position p xs ≡ Some i
position_of same p [] i y d differ e t = absurd (none_some y e)
position_of same p (x ∷ xs) zero y d differ e t =
    position_step p x xs ∙ ap (λ (b : Bool). cond b (Some zero) (option_map suc (position p xs))) (ap p (some_is x y e) ∙ t)
position_of same p (x ∷ xs) (suc i) y d differ e t =
    let c : (not (list_any (same x) xs) ≡ true) × (is_distinct same xs ≡ true) = both _ _ d in
    position_step p x xs
    ∙ ap (λ (b : Bool). cond b (Some zero) (option_map suc (position p xs))) (differ x y (any_get (same x) xs i y (not_true (list_any (same x) xs) c.0) e) t)
    ∙ ap (option_map suc) (position_of same p xs i y c.1 differ e t)

any_mapped : {X : Type 0} (f : X → ℕ) (p : ℕ → Bool) (xs : List X) → list_any p (map f xs) ≡ list_any (λ x. p (f x)) xs
any_mapped f p [] = refl
any_mapped f p (x ∷ xs) = ap (λ b. p (f x) || b) (any_mapped f p xs)

distinct_mapped : {X : Type 0} (f : X → ℕ) (xs : List X) → is_distinct nat_eq (map f xs) ≡ is_distinct (λ x y. nat_eq (f x) (f y)) xs
distinct_mapped f [] = refl
distinct_mapped f (x ∷ xs) = ap₂ (λ a b. not a && b) (any_mapped f (nat_eq (f x)) xs) (distinct_mapped f xs)

same_pair : (q : ℕ × ℕ) (k n : ℕ) → q.0 ≡ k → q.1 ≡ n → ((q.0 == k) && (q.1 == n)) ≡ true
same_pair q k n e f = ap₂ (λ a b. a && b) (same_test q.0 k e) (same_test q.1 n f)

-- ---- every component has a spot
pair_other : (k n : ℕ) (x y : ℕ × ℕ) → same_instance x y ≡ false → ((y.0 == k) && (y.1 == n)) ≡ true → ((x.0 == k) && (x.1 == n)) ≡ false
pair_other k n x y s e =
    let t : ((y.0 == k) ≡ true) × ((y.1 == n) ≡ true) = both _ _ e in
    sym (ap₂ (λ a b. (x.0 == a) && (x.1 == b)) (eqb-true y.0 k t.0) (eqb-true y.1 n t.1)) ∙ s

id_other : (id : ℕ) (x y : ComponentDecl) → nat_eq x.id y.id ≡ false → (y.id == id) ≡ true → (x.id == id) ≡ false
id_other id x y s e = sym (ap (λ n. x.id == n) (eqb-true y.id id e)) ∙ s

no_base : (b c : Bool) → (b || not c) ≡ true → (not b && c) ≡ false
no_base true c e = refl
no_base false true e = absurd (cc)
no_base false false e = refl

in_any : (n : ℕ) (ds : List ComponentDecl) (c : ℕ) (d : ComponentDecl) → slice_get ds c ≡ Some d → (n == d.id) ≡ true → list_any (λ id. n == id) (map (λ (x : ComponentDecl). x.id) ds) ≡ true
in_any n [] c d e t = absurd (none_some d e)
in_any n (x ∷ ds) zero d e t = ap (λ (b : Bool). b || list_any (λ id. n == id) (map (λ (y : ComponentDecl). y.id) ds)) (ap (λ (y : ComponentDecl). n == y.id) (some_is x d e) ∙ t)
in_any n (x ∷ ds) (suc c) d e t = ap (λ b. (n == x.id) || b) (in_any n ds c d e t) ∙ or_true (n == x.id)
  where
    or_true : (b : Bool) → (b || true) ≡ true
    or_true true = refl
    or_true false = refl

base_by : (class : Class) (c : ℕ) (d : ComponentDecl) (b : Bool) → (d.id == class.event_base) ≡ b → ((class.event_base == 0) || not (list_any (λ id. class.event_base == id) (component_ids class))) ≡ true
    → slice_get class.components c ≡ Some d → is_event_base class.event_base d.id ≡ false
base_by class c d false t r e = ap (λ b. not (class.event_base == 0) && b) t ∙ and_false (not (class.event_base == 0))
  where
    and_false : (b : Bool) → (b && false) ≡ false
    and_false true = refl
    and_false false = refl
base_by class c d true t r e =
    let m = in_any class.event_base class.components c d e (turned_test class.event_base d.id ∙ t) in
    ap (λ b. not (class.event_base == 0) && b) t ∙ no_base (class.event_base == 0) true (sym (ap (λ b. (class.event_base == 0) || not b) m) ∙ r)

first_of : (a b c : Bool) → ((a && b) && c) ≡ true → a ≡ true
first_of true b c e = refl
first_of false b c e = absurd (cc)

differ_in : (library : List Class) (k : ℕ) (class : Class) → IsLibrary library → find (λ (c : Class). c.id == k) library ≡ Some class → components_differ class ≡ true
differ_in library k class l f =
    let m = in_found (λ (c : Class). c.id == k) library class f in
    let a : ids_differ class ≡ true = all_in (class_keeps DistinctIds) library class (l.kept DistinctIds) m.0 in
    first_of (components_differ class) (is_distinct nat_eq (map (λ (e : EventDecl). e.id) class.events)) (each_type (throughout has_distinct_ids) class) a

reach_in : (class : Class) (c : ℕ) (d : ComponentDecl) (path : List Step) → components_differ class ≡ true → slice_get class.components c ≡ Some d
    → place_in_class purpose.Look class (step.Id d.id ∷ path) ≡ Ok c
reach_in class c d path r e =
    let t : (is_distinct nat_eq (component_ids class) ≡ true) × (((class.event_base == 0) || not (list_any (λ id. class.event_base == id) (component_ids class))) ≡ true) = both _ _ r in
    let b : is_event_base class.event_base d.id ≡ false = base_by class c d (d.id == class.event_base) refl t.1 e in
    let p : position (λ (x : ComponentDecl). x.id == d.id) class.components ≡ Some c =
    position_of (λ (x y : ComponentDecl). nat_eq x.id y.id) (λ (x : ComponentDecl). x.id == d.id) class.components c d
    (sym (distinct_mapped (λ (x : ComponentDecl). x.id) class.components) ∙ t.0) (id_other d.id) e (same_test d.id d.id refl) in
    let f : find (λ (x : ComponentDecl). x.id == d.id) class.components ≡ Some d =
    sym (found_at (λ (x : ComponentDecl). x.id == d.id) class.components) ∙ ap (option_and_then (slice_get class.components)) p ∙ e in
    ap (λ (x : Bool). (if x then Err event_error else Ok d.id) >>= component_place purpose.Look class.id class.components) b
    ∙ ap₂ (placed purpose.Look class.id) f p

reach_by : (library : List Class) (pairs : List (ℕ × ℕ)) (i : ℕ) (q : ℕ × ℕ) (c : ℕ) (d : ComponentDecl) (path : List Step) (o : Option Class) → IsLibrary library → AreInstances pairs → slice_get pairs i ≡ Some q
    → find (λ (k : Class). k.id == q.0) library ≡ o → slice_get (components_of o) c ≡ Some d → (or_code unknown_class o >>= in_class purpose.Look pairs q.1 (step.Id d.id ∷ path)) ≡ Ok (i, c)
reach_by library pairs i q c d path None l a e f g = absurd (none_some d g)
reach_by library pairs i q c d path (Some class) l a e f g =
    let m = in_found (λ (k : Class). k.id == q.0) library class f in
    let k : class.id ≡ q.0 = eqb-true class.id q.0 m.1 in
    let p : position (λ (r : ℕ × ℕ). (r.0 == class.id) && (r.1 == q.1)) pairs ≡ Some i =
    position_of same_instance (λ (r : ℕ × ℕ). (r.0 == class.id) && (r.1 == q.1)) pairs i q (rising_distinct pairs a.rising) (pair_other class.id q.1) e (same_pair q class.id q.1 (sym k) refl) in
    ap (λ o. or_code unknown_instance o >>= λ j. paired j (place_in_class purpose.Look class (step.Id d.id ∷ path))) p
    ∙ ap (paired i) (reach_in class c d path (differ_in library q.0 class l f) g)

reach : (library : List Class) (pairs : List (ℕ × ℕ)) (i : ℕ) (q : ℕ × ℕ) (c : ℕ) (d : ComponentDecl) (path : List Step) → IsLibrary library → AreInstances pairs → slice_get pairs i ≡ Some q
    → slice_get (declared_in library q.0) c ≡ Some d → resolved purpose.Look library pairs q.0 q.1 (step.Id d.id ∷ path) ≡ Ok (i, c)
reach library pairs i q c d path l a e g = reach_by library pairs i q c d path (find (λ (k : Class). k.id == q.0) library) l a e refl g

-- ---- one component
cells_same : (ty : Ty) (o p : Option Value) → IsSound ty → DoesFit ty o → DoesFit ty p → ((ids : List ℕ) → some_cell (look_cell (by_ids ids) ty o) ≡ some_cell (look_cell (by_ids ids) ty p)) → o ≡ p
cells_same ty None None s h k alike = refl
cells_same ty None (Some w) s h k alike = no_some (cell_of ty w) (alike [])
cells_same ty (Some v) None s h k alike = no_some (cell_of ty v) (sym (alike []))
cells_same ty (Some v) (Some w) s h k alike = ap Some (cells_tell 8 ty s v w h k alike)

abbrev with_trees : Stored → List Tree → Stored
with_trees s us = record { library = s.library; instances = s.instances; trees = us }

cell_there : (s : Stored) (i : ℕ) (q : ℕ × ℕ) (c : ℕ) (d : ComponentDecl) (t : Tree) (o : Option Value) (ids : List ℕ) → IsLibrary s.library → AreInstances s.instances → slice_get s.instances i ≡ Some q
    → slice_get (declared_in s.library q.0) c ≡ Some d → slice_get s.trees i ≡ Some t → slice_get t.now c ≡ Some o
    → cell_at s (record { class = q.0; instance = q.1; component = d.id }) ids ≡ some_cell (look_cell (by_ids ids) d.ty o)
cell_there s i q c d t o ids l a e f g h =
    let site : Site = record { class = q.0; instance = q.1; component = d.id } in
    ap some_cell (seen_there purpose.Look s (spot_by site ids) (i, c) d (reach s.library s.instances i q c d (by_ids ids) l a e f) f
    ∙ ap (λ v. look_cell (by_ids ids) d.ty v) (ap (value_of c) g ∙ ap present h))

-- ---- lists
two_lists : {A B : Type 0} (R : A → B → Type 0) (xs : List A) (ys zs : List B) → Pairwise R xs ys → Pairwise R xs zs
    → ((i : ℕ) (x : A) (y z : B) → slice_get xs i ≡ Some x → slice_get ys i ≡ Some y → slice_get zs i ≡ Some z → R x y → R x z → y ≡ z) → ys ≡ zs
two_lists R [] [] [] p q same = refl
two_lists R [] [] (z ∷ zs) p q same = absurd q
two_lists R [] (y ∷ ys) zs p q same = absurd p
two_lists R (x ∷ xs) [] zs p q same = absurd p
two_lists R (x ∷ xs) (y ∷ ys) [] p q same = absurd q
two_lists R (x ∷ xs) (y ∷ ys) (z ∷ zs) p q same =
    ap₂ (λ w ws. w ∷ ws) (same 0 x y z refl refl refl p.0 q.0) (two_lists R xs ys zs p.1 q.1 (λ i a b c e f g r s. same (suc i) a b c e f g r s))

two_mapped : {A B C : Type 0} (k : B → C) (R : A → B → Type 0) (xs : List A) (ys zs : List B) → Pairwise R xs ys → Pairwise R xs zs
    → ((i : ℕ) (x : A) (y z : B) → slice_get xs i ≡ Some x → slice_get ys i ≡ Some y → slice_get zs i ≡ Some z → R x y → R x z → k y ≡ k z) → map k ys ≡ map k zs
two_mapped k R [] [] [] p q same = refl
two_mapped k R [] [] (z ∷ zs) p q same = absurd q
two_mapped k R [] (y ∷ ys) zs p q same = absurd p
two_mapped k R (x ∷ xs) [] zs p q same = absurd p
two_mapped k R (x ∷ xs) (y ∷ ys) [] p q same = absurd q
two_mapped k R (x ∷ xs) (y ∷ ys) (z ∷ zs) p q same =
    ap₂ (λ w ws. w ∷ ws) (same 0 x y z refl refl refl p.0 q.0) (two_mapped k R xs ys zs p.1 q.1 (λ i a b c e f g r s. same (suc i) a b c e f g r s))

-- ---- the store
abbrev AlikeCells : Stored → Stored → Type 0
AlikeCells s t = (site : Site) (ids : List ℕ) → cell_at s site ids ≡ cell_at t site ids

same_now : (s : Stored) (us : List Tree) (i : ℕ) (q : ℕ × ℕ) (t u : Tree) → IsLibrary s.library → AreInstances s.instances → AlikeCells s (with_trees s us) → slice_get s.instances i ≡ Some q
    → slice_get s.trees i ≡ Some t → slice_get us i ≡ Some u → DoFit (declared_in s.library q.0) t.now → DoFit (declared_in s.library q.0) u.now → t.now ≡ u.now
same_now s us i q t u l a alike e f g h k =
    two_lists FitsComponent (declared_in s.library q.0) t.now u.now h k
    (λ c d o p m n r v w. cells_same d.ty o p (sound_in s.library q.0 c d l m) (fits_so d o v) (fits_so d p w)
    (λ ids. sym (cell_there s i q c d t o ids l a e m f n) ∙ alike (record { class = q.0; instance = q.1; component = d.id }) ids ∙ cell_there (with_trees s us) i q c d u p ids l a e m g r))

hold_same : (s : Stored) (us : List Tree) → IsLibrary s.library → AreInstances s.instances → AreFitting s → AreFitting (with_trees s us) → AlikeCells s (with_trees s us) → map (λ (t : Tree). t.now) s.trees ≡ map (λ (t : Tree). t.now) us
hold_same s us l a h k alike =
    two_mapped (λ (t : Tree). t.now) (IsFitting s.library) s.instances s.trees us h k (λ i q t u e f g r v. same_now s us i q t u l a alike e f g r.0 v.0)

pub cells_tell_all : (s t : Stored) → s.library ≡ t.library → s.instances ≡ t.instances → IsLibrary s.library → AreInstances s.instances → AreFitting s → AreFitting t
    → ((site : Site) (ids : List ℕ) → cell_at s site ids ≡ cell_at t site ids) → map (λ (u : Tree). u.now) s.trees ≡ map (λ (u : Tree). u.now) t.trees
cells_tell_all s t e f l a h k alike =
    let p : with_trees s t.trees ≡ t = λ n. record { library = e n; instances = f n; trees = t.trees } in
    hold_same s t.trees l a h (subst AreFitting (sym p) k) (λ site ids. subst (λ u. cell_at s site ids ≡ cell_at u site ids) (sym p) (alike site ids))
