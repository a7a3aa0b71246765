-- What a change within an entry leaves of its keys.
use Rattle.std.proofs.Common.{◌≡◌, ℕ, zero, suc, ◌==◌, Bool, true, false, not, ◌&&◌, cond, List, [], ◌∷◌, ◌++◌, map, find, position, slice_get, slice_set, bytes_eq, refl, sym, ap, ap₂, ◌∙◌, Option, Some, if◌then◌else◌, eqb-true}
use Rattle.std.specs.List.{flat_map, list_all, list_any}
use Rattle.fc_types.specs.Ids.{is_distinct}
use Rattle.fc_types.specs.Types.{field_id, field_ty, is_atom, is_atom_field, is_key, is_some_list, names_atom}
use Rattle.fc_types.specs.declared.ty.Field.{Field}
use Rattle.fc_types.specs.declared.ty.KeyDecl.{KeyDecl}
use Rattle.fc_types.specs.declared.ty.Ty.{Ty}
use Rattle.fc_types.proofs.Bools.{both, neither, three, was_false}
use Rattle.fc_value.specs.Keys.{differ_in, field_with, key_layer, key_of, key_value, keys_differ, some_bytes}
use Rattle.fc_value.specs.Nodes.{with_child, with_child_layer}
use Rattle.fc_value.specs.Writing.{Writer, full_bytes, inside_bytes}
use Rattle.fc_value.specs.declared.value.Value.{Value, out-Value}
use Rattle.fc_value.specs.declared.value.Value.TheOpen.{Value-F}
use Rattle.fc_value.specs.declared.value.Value.TheViews.{out-roll-Value}
use Rattle.fc_cells.proofs.Finds.{Entries, Entry, Found, found, other_test, some_same, true_false, turned_test}
use Rattle.fc_cells.proofs.Steps.{called}

-- an atom beside a field that is none
pub field_kept : (fields : List Field) (vs : List Value) (p : ℕ) (g : Field) (d : Value) (id : ℕ) → slice_get fields p ≡ Some g → is_atom (field_ty g) ≡ false → names_atom fields id ≡ true
    → field_with fields (slice_set vs p d) id ≡ field_with fields vs id
field_kept [] vs p g d id e a n = refl
field_kept (f ∷ fs) [] p g d id e a n = refl
field_kept (f ∷ fs) (v ∷ vs) zero g d id e a n = by (called id f) n
  where
    by : (b : Bool) → is_atom_field (cond b (Some f) (find (called id) fs)) ≡ true → (if b then Some (field_ty f, d) else field_with fs vs id) ≡ (if b then Some (field_ty f, v) else field_with fs vs id)
    by true n = true_false (is_atom (field_ty g)) (ap (λ (x : Field). is_atom (field_ty x)) (sym (some_same f g e)) ∙ n) a
    by false n = refl
field_kept (f ∷ fs) (v ∷ vs) (suc p) g d id e a n = by (λ m. field_kept fs vs p g d id e a m) (called id f) n
  where
    by : (names_atom fs id ≡ true → field_with fs (slice_set vs p d) id ≡ field_with fs vs id) → (b : Bool) → is_atom_field (cond b (Some f) (find (called id) fs)) ≡ true
        → (if b then Some (field_ty f, v) else field_with fs (slice_set vs p d) id) ≡ (if b then Some (field_ty f, v) else field_with fs vs id)
    by more true n = refl
    by more false n = more n

-- another field
pub field_beside : (fields : List Field) (vs : List Value) (p : ℕ) (g : Field) (d : Value) (id : ℕ) → slice_get fields p ≡ Some g → called id g ≡ false → field_with fields (slice_set vs p d) id ≡ field_with fields vs id
field_beside [] vs p g d id e n = refl
field_beside (f ∷ fs) [] p g d id e n = refl
field_beside (f ∷ fs) (v ∷ vs) zero g d id e n =
    let t : called id f ≡ false = ap (called id) (some_same f g e) ∙ n in
    ap (λ (b : Bool). if b then Some (field_ty f, d) else field_with fs vs id) t ∙ sym (ap (λ (b : Bool). if b then Some (field_ty f, v) else field_with fs vs id) t)
field_beside (f ∷ fs) (v ∷ vs) (suc p) g d id e n = ap (λ (o : Option (Ty × Value)). if called id f then Some (field_ty f, v) else o) (field_beside fs vs p g d id e n)

-- a key whose fields are all as they were
module _ (fields : List Field) (p : ℕ) (d : Value) (good : ℕ → Bool) (same : (id : ℕ) → good id ≡ true → (vs : List Value) → field_with fields (slice_set vs p d) id ≡ field_with fields vs id) where
  each_kept : (write : Ty → Writer) (vs : List Value) (ids : List ℕ) → list_all good ids ≡ true
      → flat_map (λ id. some_bytes write (field_with fields (slice_set vs p d) id)) ids ≡ flat_map (λ id. some_bytes write (field_with fields vs id)) ids
  each_kept write vs [] n = refl
  each_kept write vs (id ∷ ids) n =
      let parts : (good id ≡ true) × (list_all good ids ≡ true) = both _ _ n in
      ap₂ (λ (a b : List ℕ). a ++ b) (ap (some_bytes write) (same id parts.0 vs)) (each_kept write vs ids parts.1)

  bytes_kept : (ids : List ℕ) (vs : List Value) → list_all good ids ≡ true → key_of fields ids (slice_set vs p d) ≡ key_of fields ids vs
  bytes_kept [] vs n = refl
  bytes_kept (id ∷ []) vs n = let parts : (good id ≡ true) × (list_all good [] ≡ true) = both _ _ n in ap (some_bytes full_bytes) (same id parts.0 vs)
  bytes_kept (id ∷ other ∷ ids) vs n = each_kept inside_bytes vs (id ∷ other ∷ ids) n

  layer_kept : (ids : List ℕ) → list_all good ids ≡ true → (l : Value-F Value) → key_layer fields ids (with_child_layer p d l) ≡ key_layer fields ids l
  layer_kept ids n (Value-F.Truth t) = refl
  layer_kept ids n (Value-F.Number z) = refl
  layer_kept ids n (Value-F.Text t) = refl
  layer_kept ids n (Value-F.Raw bs) = refl
  layer_kept ids n (Value-F.Group vs) = bytes_kept ids vs n
  layer_kept ids n (Value-F.Table es) = refl

  good_kept : (key : KeyDecl) → list_all good key.fields ≡ true → (v : Value) → key_value fields key (with_child p d v) ≡ key_value fields key v
  unfolding key_value
  good_kept key n v = ap (key_layer fields key.fields) (out-roll-Value (with_child_layer p d (out-Value v))) ∙ layer_kept key.fields n (out-Value v)

pub key_kept : (fields : List Field) (p : ℕ) (g : Field) (d : Value) → slice_get fields p ≡ Some g → is_atom (field_ty g) ≡ false → (key : KeyDecl) → is_key fields key ≡ true → (v : Value)
    → key_value fields key (with_child p d v) ≡ key_value fields key v
key_kept fields p g d at branch key k v =
    let parts : (is_some_list key.fields ≡ true) × (_ ≡ true) × (list_all (names_atom fields) key.fields ≡ true) = three _ _ _ k in
    good_kept fields p d (names_atom fields) (λ id n vs. field_kept fields vs p g d id at branch n) key parts.2 v

none_of : (id : ℕ) (ids : List ℕ) → list_any (λ j. j == id) ids ≡ false → list_all (λ j. not (j == id)) ids ≡ true
none_of id [] n = refl
none_of id (j ∷ ids) n =
    let parts : ((j == id) ≡ false) × (list_any (λ j. j == id) ids ≡ false) = neither _ _ n in
    ap (λ (b : Bool). not b && list_all (λ j. not (j == id)) ids) parts.0 ∙ none_of id ids parts.1

pub key_beside : (fields : List Field) (id p : ℕ) (d : Value) → position (called id) fields ≡ Some p → (key : KeyDecl) → list_any (λ j. j == id) key.fields ≡ false → (v : Value)
    → key_value fields key (with_child p d v) ≡ key_value fields key v
key_beside fields id p d at key n v =
    let f : Found (called id) fields p = found (called id) fields p at in
    good_kept fields p d (λ j. not (j == id))
    (λ j g vs. field_beside fields vs p f.item d j f.got (other_test (field_id f.item) id j (eqb-true (field_id f.item) id f.passes) (turned_test id j ∙ was_false _ g))) key (none_of id key.fields n) v

-- no fields make no key
pub nothing_keyed : (key : KeyDecl) (v : Value) → key_value [] key v ≡ []
unfolding key_value
nothing_keyed key v = by (out-Value v)
  where
    all : (ids : List ℕ) (vs : List Value) → flat_map (λ id. some_bytes inside_bytes (field_with [] vs id)) ids ≡ []
    all [] vs = refl
    all (id ∷ ids) vs = all ids vs

    bytes : (ids : List ℕ) (vs : List Value) → key_of [] ids vs ≡ []
    bytes [] vs = refl
    bytes (id ∷ []) vs = refl
    bytes (id ∷ other ∷ ids) vs = all (id ∷ other ∷ ids) vs

    by : (l : Value-F Value) → key_layer [] key.fields l ≡ []
    by (Value-F.Truth t) = refl
    by (Value-F.Number z) = refl
    by (Value-F.Text t) = refl
    by (Value-F.Raw bs) = refl
    by (Value-F.Group vs) = bytes key.fields vs
    by (Value-F.Table es) = refl

-- no keys are made of no fields
pub keyless : {X : Type 0} (key : KeyDecl) → is_key [] key ≡ true → X
keyless key k =
    let parts : (is_some_list key.fields ≡ true) × (_ ≡ true) × (list_all (names_atom []) key.fields ≡ true) = three _ _ _ k in
    by key.fields parts.0 parts.2
  where
    by : {X : Type 0} (ids : List ℕ) → is_some_list ids ≡ true → list_all (names_atom []) ids ≡ true → X
    by [] s n = absurd (cc)
    by (id ∷ ids) s n = absurd (cc)

map_set : (f : Entry → List ℕ) (es : Entries) (i : ℕ) (x y : Entry) → slice_get es i ≡ Some x → f y ≡ f x → map f (slice_set es i y) ≡ map f es
map_set f [] i x y g e = refl
map_set f (z ∷ zs) zero x y g e = ap (λ (k : List ℕ). k ∷ map f zs) (e ∙ ap f (sym (some_same z x g)))
map_set f (z ∷ zs) (suc i) x y g e = ap (λ (ks : List (List ℕ)). f z ∷ ks) (map_set f zs i x y g e)

-- entries still differ where one is exchanged for another with the same keys
pub differ_kept : (fields : List Field) (keys : List KeyDecl) (es : Entries) (i : ℕ) (x : Entry) (u : Value) → slice_get es i ≡ Some x → list_all (is_key fields) keys ≡ true
    → ((key : KeyDecl) → is_key fields key ≡ true → key_value fields key u ≡ key_value fields key x.1) → keys_differ fields keys es ≡ true → keys_differ fields keys (slice_set es i (x.0, u)) ≡ true
differ_kept fields [] es i x u g k same d = refl
differ_kept fields (key ∷ keys) es i x u g k same d =
    let made : (is_key fields key ≡ true) × (list_all (is_key fields) keys ≡ true) = both _ _ k in
    let apart : (differ_in fields es key ≡ true) × (keys_differ fields keys es ≡ true) = both _ _ d in
    let first : differ_in fields (slice_set es i (x.0, u)) key ≡ true =
    ap (is_distinct bytes_eq) (map_set (λ (e : Entry). key_value fields key e.1) es i x (x.0, u) g (same key made.0)) ∙ apart.0 in
    ap (λ (b : Bool). b && keys_differ fields keys (slice_set es i (x.0, u))) first ∙ differ_kept fields keys es i x u g made.1 same apart.1
