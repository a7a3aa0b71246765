-- The values of a store fit, whatever is done to it.
use Rattle.std.proofs.Common.{◌≡◌, ℕ, ℤ, suc, ◌-◌, Bool, true, false, List, [], ◌∷◌, length, map, slice_get, refl, sym, ap, subst, ◌∙◌, Option, Some, None, Result, Ok, Err, if◌then◌else◌}
use Rattle.std.specs.List.{AllByRecursion}
use Rattle.fc_base.specs.Answers.{◌>>=◌}
use Rattle.fc_path.specs.declared.oper.Spot.{Spot}
use Rattle.fc_path.specs.declared.oper.Step.{Step}
use Rattle.fc_tree.specs.Finding.{not_found}
use Rattle.fc_tree.specs.Merging.{merge_in}
use Rattle.fc_tree.specs.Putting.{put_in}
use Rattle.fc_tree.specs.Removing.{remove_in}
use Rattle.fc_types.specs.Components.{ComponentDecl}
use Rattle.fc_types.specs.Libraries.{IsLibrary}
use Rattle.fc_types.specs.Sound.{IsSound}
use Rattle.fc_types.specs.declared.class.Class.{Class}
use Rattle.fc_value.specs.Fits.{Fits}
use Rattle.fc_value.specs.Outcomes.{invalid_parameters}
use Rattle.fc_value.specs.Reading.{full_in}
use Rattle.fc_value.specs.SparseForm.{HoldBytes}
use Rattle.fc_value.specs.declared.value.Value.{Value}
use Rattle.fc_value.specs.declared.value.Value.TheVariants as value
use Rattle.fc_value.proofs.Opens.{opening_fits}
use Rattle.fc_wire.specs.Bytes.{AreBytes}
use Rattle.fc_wire.specs.declared.ilvs.Ilv.{Ilv}
use Rattle.fc_instance.specs.Cells.{merge_cell, put_cell, remove_cell}
use Rattle.fc_cells.specs.Places.{AreWords, HaveWords}
use Rattle.fc_cells.proofs.Fitting.{merge_fits, put_fits, read_fits, remove_fits}
use Rattle.fc_store.specs.Spots.{resolved}
use Rattle.fc_store.specs.Stores.{Change, Pairwise, Stored, Tree, changed, declared_in, depth_in, further, gone_back, held_at, merge_spot, number_or, opened, opening_number, opening_tree, opens, opens_absent, over_mark, present, put_spot, remove_spot, settled, settled_tree, value_in, value_of, with_component, with_mark, with_value, without_mark}
use Rattle.fc_store.specs.declared.spots.Purpose.{Purpose}
use Rattle.fc_store.specs.declared.spots.Purpose.TheVariants as purpose
use Rattle.fc_store.proofs.Apart.{made}
use Rattle.fc_store.proofs.Doing.{err_ok, leads, ok_is}
use Rattle.fc_store.proofs.Lists.{all_index, all_more, all_take, at_is, pair_each, pair_from, pair_get, pair_set, some_is}
use Rattle.fc_configuration.specs.Fitting.{AreFitting, DoFit, FitsComponent, HasOpenings, IsFitting}
use Rattle.fc_configuration.proofs.Places.{sound_in}

-- ---- opening values
number_fits : (d : ComponentDecl) (o : Option ℤ) → IsSound d.ty → ((n : ℤ) → o ≡ Some n → Fits d.ty (value.Number n)) → Fits d.ty (number_or o d.ty)
number_fits d None s own = opening_fits d.ty s
number_fits d (Some n) s own = own n refl

open_fits : (class : ℕ) (d : ComponentDecl) (b : Bool) → IsSound d.ty → ((n : ℤ) → opening_number class d.id ≡ Some n → Fits d.ty (value.Number n))
    → FitsComponent d (if b then None else Some (number_or (opening_number class d.id) d.ty))
open_fits class d true s own = tt
open_fits class d false s own = number_fits d (opening_number class d.id) s own

all_open : (class : ℕ) (ds : List ComponentDecl) → ((i : ℕ) (d : ComponentDecl) → slice_get ds i ≡ Some d → FitsComponent d (opens class d)) → DoFit ds (map (opens class) ds)
all_open class [] each = tt
all_open class (d ∷ ds) each = (each 0 d refl, all_open class ds (λ i x e. each (suc i) x e))

tree_opens : (library : List Class) (pair : ℕ × ℕ) → IsLibrary library → HasOpenings library → IsFitting library pair (opening_tree library pair)
tree_opens library pair l own =
    (all_open pair.0 (declared_in library pair.0) (λ i d e. open_fits pair.0 d (opens_absent pair.0 d) (sound_in library pair.0 i d l e) (λ n. own pair.0 i d n e)), tt)

pub opened_fit : (library : List Class) (instances : List (ℕ × ℕ)) → IsLibrary library → HasOpenings library → AreFitting (opened library instances)
opened_fit library [] l own = tt
opened_fit library (pair ∷ instances) l own = (tree_opens library pair l own, opened_fit library instances l own)

-- ---- changes of one component
-- a change whose values fit where those before it do
abbrev Keeps : Change → Type 0
Keeps f = (d : ComponentDecl) (o v : Option Value) → IsSound d.ty → FitsComponent d o → f d o ≡ Ok v → FitsComponent d v

some_fits : (d : ComponentDecl) (r : Result Value ℕ) (v : Option Value) → ((w : Value) → r ≡ Ok w → Fits d.ty w) → (r >>= λ w. Ok (Some w)) ≡ Ok v → FitsComponent d v
some_fits d (Err code) v fits e = absurd (err_ok code v e)
some_fits d (Ok w) v fits e = subst (FitsComponent d) (ok_is (Some w) v e) (fits w refl)

put_keeps : (path : List Step) (bytes : List ℕ) → AreWords path → AreBytes bytes → Keeps (λ d o. put_cell path bytes d.ty o)
put_keeps [] bytes a fine d o v s h e = some_fits d (full_in d.ty bytes) v (λ w f. read_fits 8 d.ty bytes w (record { sound = s; deep = s.shallow }) fine f) e
put_keeps (t ∷ path) bytes a fine d None v s h e = absurd (err_ok not_found v e)
put_keeps (t ∷ path) bytes a fine d (Some u) v s h e =
    some_fits d (put_in (t ∷ path) bytes d.ty u) v (λ w f. put_fits (t ∷ path) 8 bytes d.ty u w (record { sound = s; deep = s.shallow }) h a fine f) e

merge_keeps : (path : List Step) (ilvs : List Ilv) → HaveWords ilvs → HoldBytes ilvs → Keeps (λ d o. merge_cell path ilvs d.ty o)
merge_keeps path ilvs a fine d None v s h e = absurd (err_ok not_found v e)
merge_keeps path ilvs a fine d (Some u) v s h e =
    some_fits d (merge_in path ilvs d.ty u) v (λ w f. merge_fits path 8 ilvs d.ty u w (record { sound = s; deep = s.shallow }) h a fine f) e

absent_fits : (d : ComponentDecl) (b : Bool) (v : Option Value) → (if b then Ok None else Err invalid_parameters) ≡ Ok v → FitsComponent d v
absent_fits d true v e = subst (FitsComponent d) (ok_is None v e) tt
absent_fits d false v e = absurd (err_ok invalid_parameters v e)

remove_keeps : (path : List Step) → Keeps (λ d o. remove_cell d.optional path d.ty o)
remove_keeps path d None v s h e = absurd (err_ok not_found v e)
remove_keeps [] d (Some u) v s h e = absent_fits d d.optional v e
remove_keeps (t ∷ path) d (Some u) v s h e =
    some_fits d (remove_in (t ∷ path) d.ty u) v (λ w f. remove_fits (t ∷ path) 8 d.ty u w (record { sound = s; deep = s.shallow }) h f) e

-- ---- and of the store
-- the component of a spot, with what its instance holds
pub record Standing (a : Spot) (s : Stored) (place : ℕ × ℕ) (d : ComponentDecl) : Type 0 where
  pub pair : ℕ × ℕ
  pub instance : slice_get s.instances place.0 ≡ Some pair
  pub declared : slice_get (declared_in s.library pair.0) place.1 ≡ Some d
  pub tree : Tree
  pub stands : slice_get s.trees place.0 ≡ Some tree
  pub fits : IsFitting s.library pair tree
  pub value : Option Value
  pub has : slice_get tree.now place.1 ≡ Some value
  pub fit : FitsComponent d value

pub standing : (p : Purpose) (a : Spot) (s : Stored) (place : ℕ × ℕ) (d : ComponentDecl) → AreFitting s → resolved p s.library s.instances a.class a.instance a.steps ≡ Ok place
    → slice_get (declared_in s.library a.class) place.1 ≡ Some d → Standing a s place d
standing p a s place d h e f =
    let l = leads p s.library s.instances a.class a.instance a.steps place e in
    let t = pair_get (IsFitting s.library) s.instances s.trees place.0 l.0 h l.1 in
    let c : slice_get (declared_in s.library l.0.0) place.1 ≡ Some d = ap (λ class. slice_get (declared_in s.library class) place.1) l.2.0 ∙ f in
    let m = pair_get FitsComponent (declared_in s.library l.0.0) t.0.now place.1 d t.2.0 c in
    record { pair = l.0; instance = l.1; declared = c; tree = t.0; stands = t.1; fits = t.2; value = m.0; has = m.1; fit = m.2 }

pub value_is : (a : Spot) (s : Stored) (place : ℕ × ℕ) (d : ComponentDecl) (t : Standing a s place d) → value_in s place ≡ t.value
value_is a s place d t = ap (value_of place.1) t.stands ∙ ap present t.has

with_fits : (a : Spot) (s : Stored) (place : ℕ × ℕ) (d : ComponentDecl) (v : Option Value) → AreFitting s → Standing a s place d → FitsComponent d v → AreFitting (with_value s place v)
with_fits a s place d v h t fit =
    subst (Pairwise (IsFitting s.library) s.instances) (sym (at_is (with_component place.1 v) s.trees place.0 t.tree t.stands))
    (pair_set (IsFitting s.library) s.instances s.trees place.0 (with_component place.1 v t.tree) h
    (λ x g. subst (λ (y : ℕ × ℕ). IsFitting s.library y (with_component place.1 v t.tree)) (some_is t.pair x (sym t.instance ∙ g)) (
      pair_set FitsComponent (declared_in s.library t.pair.0) t.tree.now place.1 v t.fits.0
          (λ x g. subst (λ (y : ComponentDecl). FitsComponent y v) (some_is d x (sym t.declared ∙ g)) fit),
      t.fits.1,
    )))

kept : (f : Change) (a : Spot) (s t : Stored) → Keeps f → IsLibrary s.library → AreFitting s → changed f a s ≡ Ok t → AreFitting t
kept f a s t keeps l h e =
    let m = made f a s t e in
    let p = standing purpose.Write a s m.place m.d h m.leads m.declared in
    let v : FitsComponent m.d (value_in s m.place) = subst (FitsComponent m.d) (sym (value_is a s m.place m.d p)) p.fit in
    subst AreFitting (sym m.is) (with_fits a s m.place m.d m.v h p (keeps m.d (value_in s m.place) m.v (sound_in s.library a.class m.place.1 m.d l m.declared) v m.gives))

words_behind : (path : List Step) → AreWords path → AreWords (further path)
words_behind [] a = tt
words_behind (s ∷ path) a = a.1

pub put_kept : (spot : Spot) (bytes : List ℕ) (s t : Stored) → IsLibrary s.library → AreFitting s → AreWords spot.steps → AreBytes bytes → put_spot spot bytes s ≡ Ok t → AreFitting t
put_kept spot bytes s t l h a fine e =
    kept (λ d o. put_cell (further spot.steps) bytes d.ty o) spot s t (put_keeps (further spot.steps) bytes (words_behind spot.steps a) fine) l h e

pub merge_kept : (spot : Spot) (ilvs : List Ilv) (s t : Stored) → IsLibrary s.library → AreFitting s → HaveWords ilvs → HoldBytes ilvs → merge_spot spot ilvs s ≡ Ok t → AreFitting t
merge_kept spot ilvs s t l h a fine e = kept (λ d o. merge_cell (further spot.steps) ilvs d.ty o) spot s t (merge_keeps (further spot.steps) ilvs a fine) l h e

pub remove_kept : (spot : Spot) (s t : Stored) → IsLibrary s.library → AreFitting s → remove_spot spot s ≡ Ok t → AreFitting t
remove_kept spot s t l h e = kept (λ d o. remove_cell d.optional (further spot.steps) d.ty o) spot s t (remove_keeps (further spot.steps)) l h e

-- ---- marks
pub marked_fit : (mark : List (ℕ × ℕ)) (s : Stored) → AreFitting s → AreFitting (over_mark with_mark mark s)
marked_fit mark s h =
    pair_each (IsFitting s.library) with_mark mark s.instances s.trees (λ x y r. (r.0, all_more (DoFit (declared_in s.library x.0)) y.held y.now r.1 r.0)) h

pub unmarked_fit : (mark : List (ℕ × ℕ)) (s : Stored) → AreFitting s → AreFitting (over_mark without_mark mark s)
unmarked_fit mark s h =
    pair_each (IsFitting s.library) without_mark mark s.instances s.trees (λ x y r. (r.0, all_take (DoFit (declared_in s.library x.0)) (length y.held - 1) y.held r.1)) h

pub back_fit : (mark : List (ℕ × ℕ)) (s : Stored) → AreFitting s → AreFitting (over_mark gone_back mark s)
back_fit mark s h =
    pair_each (IsFitting s.library) gone_back mark s.instances s.trees
    (λ x y r. (all_index (DoFit (declared_in s.library x.0)) y.held (length y.held - 1) y.now r.1 r.0, all_take (DoFit (declared_in s.library x.0)) (length y.held - 1) y.held r.1)) h

held_fits : (ds : List ComponentDecl) (o : Option ℕ) (t : Tree) → DoFit ds t.now → AllByRecursion (DoFit ds) t.held → DoFit ds (held_at o t)
held_fits ds None t h a = h
held_fits ds (Some n) t h a = all_index (DoFit ds) t.held n t.now a h

pub settled_fit : (marks : List (List (ℕ × ℕ))) (s : Stored) → AreFitting s → AreFitting (settled marks s)
settled_fit marks s h =
    pair_from (IsFitting s.library) (settled_tree marks) 0 s.instances s.trees (λ i x y r. (held_fits (declared_in s.library x.0) (depth_in marks i) y r.0 r.1, tt)) h
