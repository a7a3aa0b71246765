-- Changes of a value that fits its type.
use Rattle.std.proofs.Common.{◌≡◌, ℕ, zero, suc, ◌<◌, ◌≤◌, ◌^◌, nat_lt, nat_le, Bool, true, false, List, [], ◌∷◌, ◌++◌, length, position, find, slice_get, slice_set, refl, sym, ap, subst, ◌∙◌, arith, Option, Some, None, option_map, option_and_then, Result, Ok, Err, if◌then◌else◌}
use Rattle.std.specs.List.{AllByRecursion, list_all, remove}
use Rattle.std.specs.Ordering.{nat_cmp}
use Rattle.std.specs.FinMap.Entries.{put}
use Rattle.fc_base.specs.Answers.{◌>>=◌}
use Rattle.fc_path.specs.declared.oper.Step.{Step}
use Rattle.fc_path.specs.declared.oper.Step.TheVariants as step
use Rattle.fc_tree.specs.Finding.{entries_of, invalid_path, not_found, paired, part_at, place_in}
use Rattle.fc_tree.specs.Finding as finding
use Rattle.fc_tree.specs.Merging.{limited, merge_at_place, merge_in, merged, merged_fields, merged_layer, merged_rows, with_field}
use Rattle.fc_tree.specs.Putting.{already_there, checked, checked_layer, created, created_layer, entered, keyed, no_room, put_at_place, put_in, put_part}
use Rattle.fc_tree.specs.Removing.{remove_at_place, remove_in, taken, taken_layer}
use Rattle.fc_types.specs.Sound.{IsSound, IsSoundInside, SoundLayer}
use Rattle.fc_types.specs.Types.{field_ty, fields_of, nests, nests_layer}
use Rattle.fc_types.specs.declared.ty.Field.{Field}
use Rattle.fc_types.specs.declared.ty.KeyDecl.{KeyDecl}
use Rattle.fc_types.specs.declared.ty.Ty.{Ty}
use Rattle.fc_types.specs.declared.ty.Ty.TheOpen.{Ty-F}
use Rattle.fc_types.specs.declared.ty.Ty.TheViews.{out-Ty}
use Rattle.fc_types.proofs.Bools.{both}
use Rattle.fc_types.proofs.Sounds.{level_is_sound}
use Rattle.fc_wire.specs.Bytes.{AreBytes}
use Rattle.fc_wire.specs.declared.ilvs.Ilv.{Ilv}
use Rattle.fc_value.specs.Fits.{EachFits, EntryFits, FitsIn, FitsLayer}
use Rattle.fc_value.specs.FullForm.{AreRising}
use Rattle.fc_value.specs.Keys.{keys_differ}
use Rattle.fc_value.specs.Nodes.{changed, child, child_layer, put_at, with_child, with_child_layer, with_entry}
use Rattle.fc_value.specs.Outcomes.{invalid_parameters, invalid_tlv}
use Rattle.fc_value.specs.Reading.{full_in}
use Rattle.fc_value.specs.Sparse.{part_layer, sparse_in}
use Rattle.fc_value.specs.SparseForm.{HoldBytes}
use Rattle.fc_value.specs.declared.value.Value.{Value, roll-Value}
use Rattle.fc_value.specs.declared.value.Value.TheVariants as value
use Rattle.fc_value.specs.declared.value.Value.TheViews.{rolls-Group, rolls-Table}
use Rattle.fc_value.proofs.Fitting.{full_fits}
use Rattle.fc_value.proofs.Nesting.{no_depth, one_level}
use Rattle.fc_value.proofs.Sound.{full_took}
use Rattle.fc_cells.specs.Cells.{by_ids}
use Rattle.fc_cells.specs.Places.{AreWords, HaveWords, at_place, place}
use Rattle.fc_cells.proofs.Arrays.{all_got, all_put, all_removed, all_set, differ_removed, length_put, length_removed, length_set, rising_put, rising_removed, rising_set}
use Rattle.fc_cells.proofs.Beside.{entries_again, entries_set, paired_is, table_again}
use Rattle.fc_cells.proofs.Finds.{Entries, Entry, Found, found, found_at, no_some, some_same}
use Rattle.fc_cells.proofs.Merging.{Told, told}
use Rattle.fc_cells.proofs.Placing.{entry_fits, field_fits, group_again, removed_at_ids}
use Rattle.fc_cells.proofs.Removing.{Below, below, differs_below, some_sound}
use Rattle.fc_cells.proofs.Steps.{called, no_ok, ok_same}

-- ---- depth
fields_shallow : (m n : ℕ) → ((ty : Ty) (v : Value) → FitsIn m ty v → nests n ty ≡ true → FitsIn n ty v) → (fields : List Field) (vs : List Value)
    → EachFits (FitsIn m) fields vs → list_all (λ f. nests n (field_ty f)) fields ≡ true → EachFits (FitsIn n) fields vs
fields_shallow m n more [] [] h d = tt
fields_shallow m n more [] (v ∷ vs) h d = absurd h
fields_shallow m n more (f ∷ fs) [] h d = absurd h
fields_shallow m n more (f ∷ fs) (v ∷ vs) h d =
    let parts : (nests n (field_ty f) ≡ true) × (list_all (λ f. nests n (field_ty f)) fs ≡ true) = both _ _ d in
    (more (field_ty f) v h.0 parts.0, fields_shallow m n more fs vs h.1 parts.1)

entries_shallow : (m n : ℕ) → ((ty : Ty) (v : Value) → FitsIn m ty v → nests n ty ≡ true → FitsIn n ty v) → (entry : Ty) (es : Entries) → AllByRecursion (EntryFits (FitsIn m) entry) es → nests n entry ≡ true
    → AllByRecursion (EntryFits (FitsIn n) entry) es
entries_shallow m n more entry [] h d = tt
entries_shallow m n more entry (e ∷ es) h d = ((h.0.0, more entry e.1 h.0.1 d), entries_shallow m n more entry es h.1 d)

layer_shallow : (m n : ℕ) → ((ty : Ty) (v : Value) → FitsIn m ty v → nests n ty ≡ true → FitsIn n ty v) → (l : Ty-F Ty Field) (v : Value) → FitsLayer (FitsIn m) l v → nests_layer (nests n) l ≡ true → FitsLayer (FitsIn n) l v
layer_shallow m n more Ty-F.Bool v h d = h
layer_shallow m n more (Ty-F.Number b g min max) v h d = h
layer_shallow m n more (Ty-F.String k) v h d = h
layer_shallow m n more (Ty-F.Octets k) v h d = h
layer_shallow m n more (Ty-F.Bytes k) v h d = h
layer_shallow m n more (Ty-F.Struct fields) v h d = (h.0, h.1, fields_shallow m n more fields h.0 h.2 d)
layer_shallow m n more (Ty-F.Array entry limit keys) v h d = (h.0, h.1, h.2, entries_shallow m n more entry h.0 h.3 d)

-- a value that fits a type fits it however deep the type nests
shallow : (m n : ℕ) (ty : Ty) (v : Value) → FitsIn m ty v → nests n ty ≡ true → FitsIn n ty v
shallow m zero ty v h d = absurd (no_depth ty d)
shallow zero (suc n) ty v h d = absurd h
shallow (suc m) (suc n) ty v h d = layer_shallow m n (shallow m n) (out-Ty ty) v h (one_level n ty d)

-- a type of a part, and how deep it nests
pub record Good (n : ℕ) (ty : Ty) : Type 0 where
  pub sound : IsSound ty
  pub deep : nests n ty ≡ true

pub read_fits : (n : ℕ) (ty : Ty) (bytes : List ℕ) (u : Value) → Good n ty → AreBytes bytes → full_in ty bytes ≡ Ok u → FitsIn n ty u
read_fits n ty bytes u g fine e = shallow 8 n ty u (full_fits ty u bytes fine (full_took ty u bytes g.sound fine e)) g.deep

field_deep : (n : ℕ) (fields : List Field) (i : ℕ) (f : Field) → list_all (λ f. nests n (field_ty f)) fields ≡ true → slice_get fields i ≡ Some f → nests n (field_ty f) ≡ true
field_deep n [] i f d g = no_some f g
field_deep n (x ∷ xs) zero f d g =
    let parts : (nests n (field_ty x) ≡ true) × (list_all (λ f. nests n (field_ty f)) xs ≡ true) = both _ _ d in subst (λ (y : Field). nests n (field_ty y) ≡ true) (some_same x f g) parts.0
field_deep n (x ∷ xs) (suc i) f d g =
    let parts : (nests n (field_ty x) ≡ true) × (list_all (λ f. nests n (field_ty f)) xs ≡ true) = both _ _ d in field_deep n xs i f parts.1 g

good_field : (n : ℕ) (fields : List Field) (i : ℕ) (f : Field) → AllByRecursion (λ f. IsSoundInside (field_ty f)) fields → list_all (λ f. nests n (field_ty f)) fields ≡ true → slice_get fields i ≡ Some f → Good n (field_ty f)
good_field n fields i f s d g = record { sound = some_sound fields i (field_ty f) s (ap (option_map field_ty) g); deep = field_deep n fields i f d g }

-- ---- another part of a value
-- what stands at a place of a value that fits
record Standing (n : ℕ) (i : ℕ) (ty : Ty) (v : Value) (t : Ty) (c : Value) : Type 0 where
  good : Good n t
  fits : FitsIn n t c
  exchanged : (d w : Value) → FitsIn n t d → checked ty (with_child i d v) ≡ Ok w → FitsIn (suc n) ty w

each_set : (n : ℕ) (fields : List Field) (vs : List Value) (i : ℕ) (f : Field) (d : Value) → EachFits (FitsIn n) fields vs → slice_get fields i ≡ Some f → FitsIn n (field_ty f) d → EachFits (FitsIn n) fields (slice_set vs i d)
each_set n [] vs i f d h g k = no_some f g
each_set n (x ∷ xs) [] i f d h g k = absurd h
each_set n (x ∷ xs) (v ∷ vs) zero f d h g k = (subst (λ (y : Field). FitsIn n (field_ty y) d) (sym (some_same x f g)) k, h.1)
each_set n (x ∷ xs) (v ∷ vs) (suc i) f d h g k = (h.0, each_set n xs vs i f d h.1 g k)

group_set : (vs : List Value) (i : ℕ) (d : Value) → with_child i d (value.Group vs) ≡ value.Group (slice_set vs i d)
group_set vs i d = ap (λ l. roll-Value (with_child_layer i d l)) (group_again vs) ∙ rolls-Group (slice_set vs i d)

some_field : (o : Option Field) (t : Ty) → option_map field_ty o ≡ Some t → (f : Field) × (o ≡ Some f) × (field_ty f ≡ t)
some_field None t e = no_some t e
some_field (Some f) t e = (f, refl, some_same (field_ty f) t e)

-- a struct with another value of a field
group_fits : (n : ℕ) (fields : List Field) (v : Value) (i : ℕ) (f : Field) (d : Value) → FitsLayer (FitsIn n) (Ty-F.Struct fields) v → slice_get fields i ≡ Some f → FitsIn n (field_ty f) d
    → FitsLayer (FitsIn n) (Ty-F.Struct fields) (with_child i d v)
group_fits n fields v i f d h g k = (slice_set h.0 i d, ap (with_child i d) h.1 ∙ group_set h.0 i d, each_set n fields h.0 i f d h.2 g k)

struct_standing : (n : ℕ) (ty : Ty) (fields : List Field) → out-Ty ty ≡ Ty-F.Struct fields → SoundLayer (Ty-F.Struct fields) → nests_layer (nests n) (Ty-F.Struct fields) ≡ true → (v : Value) → FitsLayer (FitsIn n) (Ty-F.Struct fields) v
    → (i : ℕ) (t : Ty) (c : Value) → paired (option_map field_ty (slice_get fields i)) (child i v) ≡ Some (t, c) → Standing n i ty v t c
unfolding checked
struct_standing n ty fields q s deep v h i t c p =
    let parts : (option_map field_ty (slice_get fields i) ≡ Some t) × (child i v ≡ Some c) = paired_is (option_map field_ty (slice_get fields i)) (child i v) t c p in
    let f : (f : Field) × (slice_get fields i ≡ Some f) × (field_ty f ≡ t) = some_field (slice_get fields i) t parts.0 in
    let k : (k : Value) × (slice_get h.0 i ≡ Some k) × FitsIn n (field_ty f.0) k = field_fits n fields h.0 i f.0 h.2 f.1 in
    let same : k.0 ≡ c = some_same k.0 c (sym (ap (child i) h.1 ∙ ap (child_layer i) (group_again h.0) ∙ k.1) ∙ parts.1) in
    record {
      good = subst (Good n) f.2 (good_field n fields i f.0 s.each deep f.1);
      fits = subst (FitsIn n t) same (subst (λ (u : Ty). FitsIn n u k.0) f.2 k.2);
      exchanged = λ d w fits e. subst (λ l. FitsLayer (FitsIn n) l w) (sym q)
          (subst (FitsLayer (FitsIn n) (Ty-F.Struct fields)) (ok_same (with_child i d v) w (sym (ap (λ l. checked_layer l (with_child i d v)) q) ∙ e))
          (group_fits n fields v i f.0 d h f.1 (subst (λ (u : Ty). FitsIn n u d) (sym f.2) fits)));
    }

keyed_table : (fields : List Field) (keys : List KeyDecl) (es : Entries) (w : Value) → keyed fields keys es ≡ Ok w → (keys_differ fields keys es ≡ true) × (w ≡ value.Table es)
keyed_table fields keys es w e = by (keys_differ fields keys es) refl e
  where
    by : (b : Bool) → keys_differ fields keys es ≡ b → (if b then Ok (value.Table es) else Err already_there) ≡ Ok w → (keys_differ fields keys es ≡ true) × (w ≡ value.Table es)
    by true t e = (t, sym (ok_same (value.Table es) w e))
    by false t e = no_ok already_there w e

some_entry : (o : Option Entry) (c : Value) → option_map (λ (e : Entry). e.1) o ≡ Some c → (x : Entry) × (o ≡ Some x) × (x.1 ≡ c)
some_entry None c e = no_some c e
some_entry (Some x) c e = (x, refl, some_same x.1 c e)

table_child : (v : Value) (es : Entries) → v ≡ value.Table es → (i : ℕ) → child i v ≡ option_map (λ (e : Entry). e.1) (slice_get es i)
table_child v es is i = ap (child i) is ∙ ap (child_layer i) (table_again es)

array_standing : (n : ℕ) (ty entry : Ty) (limit : ℕ) (keys : List KeyDecl) → out-Ty ty ≡ Ty-F.Array entry limit keys → SoundLayer (Ty-F.Array entry limit keys) → nests n entry ≡ true → (v : Value)
    → FitsLayer (FitsIn n) (Ty-F.Array entry limit keys) v → (i : ℕ) (t : Ty) (c : Value) → paired (Some entry) (child i v) ≡ Some (t, c) → Standing n i ty v t c
unfolding checked
array_standing n ty entry limit keys q s deep v h i t c p =
    let parts : (◌≡◌ {A = Option Ty} (Some entry) (Some t)) × (child i v ≡ Some c) = paired_is (Some entry) (child i v) t c p in
    let typed : entry ≡ t = some_same entry t parts.0 in
    let x : (x : Entry) × (slice_get h.0 i ≡ Some x) × (x.1 ≡ c) = some_entry (slice_get h.0 i) c (sym (table_child v h.0 h.1 i) ∙ parts.1) in
    let own : entries_of v ≡ h.0 = ap entries_of h.1 ∙ entries_again h.0 in
    record {
      good = subst (Good n) typed (record { sound = s.inner.sound; deep = deep });
      fits = subst (λ (u : Ty). FitsIn n u c) typed (subst (FitsIn n entry) x.2 (entry_fits n entry h.0 i x.0 h.3 x.1));
      exchanged = λ d w fits e.
          let set : entries_of (with_child i d v) ≡ slice_set h.0 i (x.0.0, d) =
          entries_set v i x.0 d (ap (λ (es : Entries). slice_get es i) own ∙ x.1) ∙ ap (λ (es : Entries). slice_set es i (x.0.0, d)) own in
          let k : (keys_differ (fields_of entry) keys (entries_of (with_child i d v)) ≡ true) × (w ≡ value.Table (entries_of (with_child i d v))) =
          keyed_table (fields_of entry) keys (entries_of (with_child i d v)) w (sym (ap (λ l. checked_layer l (with_child i d v)) q) ∙ e) in
          let old : EntryFits (FitsIn n) entry x.0 = all_got (EntryFits (FitsIn n) entry) h.0 i x.0 h.3 x.1 in
          let w_fits : FitsLayer (FitsIn n) (Ty-F.Array entry limit keys) w = (
            slice_set h.0 i (x.0.0, d),
            k.1 ∙ ap value.Table set,
            record {
              rising = rising_set h.0 i x.0 d h.2.rising x.1;
              few = subst (λ (m : ℕ). m ≤ limit) (sym (length_set h.0 i (x.0.0, d))) h.2.few;
              keyed = ap (keys_differ (fields_of entry) keys) (sym set) ∙ k.0;
            },
            all_set (EntryFits (FitsIn n) entry) h.0 i (x.0.0, d) h.3 (old.0, subst (λ (u : Ty). FitsIn n u d) (sym typed) fits),
          ) in
          subst (λ l. FitsLayer (FitsIn n) l w) (sym q) w_fits;
    }

standing : (n : ℕ) (ty : Ty) (v : Value) → Good (suc n) ty → FitsIn (suc n) ty v → (i : ℕ) (t : Ty) (c : Value) → part_at i ty v ≡ Some (t, c) → Standing n i ty v t c
standing n ty v g h i t c p = by (out-Ty ty) refl (level_is_sound ty g.sound) (one_level n ty g.deep) h
  where
    none : (l : Ty-F Ty Field) → out-Ty ty ≡ l → finding.part_layer i l ≡ None → Standing n i ty v t c
    none l q r = no_some (t, c) (sym (ap (λ (a : Option Ty). paired a (child i v)) (ap (finding.part_layer i) q ∙ r)) ∙ p)

    by : (l : Ty-F Ty Field) → out-Ty ty ≡ l → SoundLayer l → nests_layer (nests n) l ≡ true → FitsLayer (FitsIn n) l v → Standing n i ty v t c
    by Ty-F.Bool q s d h = none Ty-F.Bool q refl
    by (Ty-F.Number b r min max) q s d h = none (Ty-F.Number b r min max) q refl
    by (Ty-F.String k) q s d h = none (Ty-F.String k) q refl
    by (Ty-F.Octets k) q s d h = none (Ty-F.Octets k) q refl
    by (Ty-F.Bytes k) q s d h = none (Ty-F.Bytes k) q refl
    by (Ty-F.Struct fields) q s d h = struct_standing n ty fields q s d v h i t c (sym (ap (λ l. paired (finding.part_layer i l) (child i v)) q) ∙ p)
    by (Ty-F.Array entry limit keys) q s d h = array_standing n ty entry limit keys q s d v h i t c (sym (ap (λ l. paired (finding.part_layer i l) (child i v)) q) ∙ p)

-- a change in a part
part_changed : (n : ℕ) (more : Ty → Value → Result Value ℕ) (i : ℕ) (ty : Ty) (v w : Value) → Good (suc n) ty → FitsIn (suc n) ty v
    → ((t : Ty) (c d : Value) → Good n t → FitsIn n t c → more t c ≡ Ok d → FitsIn n t d) → put_part more i ty v (part_at i ty v) ≡ Ok w → FitsIn (suc n) ty w
part_changed n more i ty v w g h keeps e = by (part_at i ty v) refl e
  where
    last : (x : Ty × Value) → part_at i ty v ≡ Some x → (r : Result Value ℕ) → more x.0 x.1 ≡ r → (r >>= λ u. checked ty (with_child i u v)) ≡ Ok w → FitsIn (suc n) ty w
    last x q (Err c) m e = no_ok c w e
    last x q (Ok u) m e =
        let s : Standing n i ty v x.0 x.1 = standing n ty v g h i x.0 x.1 q in s.exchanged u w (keeps x.0 x.1 u s.good s.fits m) e

    by : (o : Option (Ty × Value)) → part_at i ty v ≡ o → put_part more i ty v o ≡ Ok w → FitsIn (suc n) ty w
    by None q e = no_ok invalid_path w e
    by (Some x) q e = last x q (more x.0 x.1) refl e

-- ---- a new entry
module _ (n : ℕ) (id : ℕ) (bytes : List ℕ) (ty : Ty) (v w : Value) (word : id < 2 ^ 32) (fine : AreBytes bytes) where
  new_entry : (entry : Ty) (limit : ℕ) (keys : List KeyDecl) → out-Ty ty ≡ Ty-F.Array entry limit keys → Good n entry → FitsLayer (FitsIn n) (Ty-F.Array entry limit keys) v
      → (u : Value) → full_in entry bytes ≡ Ok u → (b : Bool) → nat_le limit (length (entries_of v)) ≡ b → (if b then Err no_room else Ok (put nat_cmp id u (entries_of v))) >>= keyed (fields_of entry) keys ≡ Ok w → FitsIn (suc n) ty w
  new_entry entry limit keys q g h u r true t e = no_ok no_room w e
  new_entry entry limit keys q g h u r false t e =
      let own : entries_of v ≡ h.0 = ap entries_of h.1 ∙ entries_again h.0 in
      let k : (keys_differ (fields_of entry) keys (put nat_cmp id u (entries_of v)) ≡ true) × (w ≡ value.Table (put nat_cmp id u (entries_of v))) = keyed_table (fields_of entry) keys (put nat_cmp id u (entries_of v)) w e in
      let room : nat_le limit (length h.0) ≡ false = ap (λ (es : Entries). nat_le limit (length es)) (sym own) ∙ t in
      let most : length (put nat_cmp id u h.0) ≤ suc (length h.0) = length_put id u h.0 in
      let fits : FitsLayer (FitsIn n) (Ty-F.Array entry limit keys) w = (
        put nat_cmp id u h.0,
        k.1 ∙ ap (λ (es : Entries). value.Table (put nat_cmp id u es)) own,
        record {
          rising = rising_put id u h.0 h.2.rising;
          few = fewer (length h.0) (length (put nat_cmp id u h.0)) room most;
          keyed = ap (λ (es : Entries). keys_differ (fields_of entry) keys (put nat_cmp id u es)) (sym own) ∙ k.0;
        },
        all_put (EntryFits (FitsIn n) entry) id u h.0 (λ m s. (subst (λ (j : ℕ). j < 2 ^ 32) (sym s) word, read_fits n entry bytes u g fine r)) h.3,
      ) in
      subst (λ l. FitsLayer (FitsIn n) l w) (sym q) fits
    where
      fewer : (a b : ℕ) → nat_le limit a ≡ false → b ≤ suc a → b ≤ limit
      fewer a b f l = grind arith

  read_entry : (entry : Ty) (limit : ℕ) (keys : List KeyDecl) → out-Ty ty ≡ Ty-F.Array entry limit keys → Good n entry → FitsLayer (FitsIn n) (Ty-F.Array entry limit keys) v
      → (r : Result Value ℕ) → full_in entry bytes ≡ r → (r >>= λ u. entered id limit (entries_of v) u) >>= keyed (fields_of entry) keys ≡ Ok w → FitsIn (suc n) ty w
  read_entry entry limit keys q g h (Err c) r e = no_ok c w e
  read_entry entry limit keys q g h (Ok u) r e = new_entry entry limit keys q g h u r (nat_le limit (length (entries_of v))) refl e

  created_fits : Good (suc n) ty → FitsIn (suc n) ty v → created id bytes ty v ≡ Ok w → FitsIn (suc n) ty w
  unfolding created
  created_fits g h made = by (out-Ty ty) refl (level_is_sound ty g.sound) (one_level n ty g.deep) h
    where
      none : (l : Ty-F Ty Field) → out-Ty ty ≡ l → created_layer id bytes l v ≡ Err invalid_path → FitsIn (suc n) ty w
      none l q r = no_ok invalid_path w (sym r ∙ ap (λ k. created_layer id bytes k v) (sym q) ∙ made)

      by : (l : Ty-F Ty Field) → out-Ty ty ≡ l → SoundLayer l → nests_layer (nests n) l ≡ true → FitsLayer (FitsIn n) l v → FitsIn (suc n) ty w
      by Ty-F.Bool q s d h = none Ty-F.Bool q refl
      by (Ty-F.Number b r min max) q s d h = none (Ty-F.Number b r min max) q refl
      by (Ty-F.String k) q s d h = none (Ty-F.String k) q refl
      by (Ty-F.Octets k) q s d h = none (Ty-F.Octets k) q refl
      by (Ty-F.Bytes k) q s d h = none (Ty-F.Bytes k) q refl
      by (Ty-F.Struct fields) q s d h = none (Ty-F.Struct fields) q refl
      by (Ty-F.Array entry limit keys) q s d h =
          read_entry entry limit keys q (record { sound = s.inner.sound; deep = d }) h (full_in entry bytes) refl (sym (ap (λ l. created_layer id bytes l v) q) ∙ made)

-- ---- SET
abbrev Puts : List Step → Type 0
Puts path = (n : ℕ) (bytes : List ℕ) (ty : Ty) (v w : Value) → Good n ty → FitsIn n ty v → AreWords path → AreBytes bytes → put_in path bytes ty v ≡ Ok w → FitsIn n ty w

put_step : (s : Step) (path : List Step) → Puts path → (n : ℕ) (bytes : List ℕ) (ty : Ty) (v w : Value) → Good (suc n) ty → FitsIn (suc n) ty v → AreWords (s ∷ path) → AreBytes bytes
    → (r : Result (Option ℕ) ℕ) → r >>= put_at_place (put_in path bytes) path s bytes ty v ≡ Ok w → FitsIn (suc n) ty w
put_step s path more n bytes ty v w g h a fine (Err c) e = no_ok c w e
put_step (step.Id id) [] more n bytes ty v w g h a fine (Ok None) e = created_fits n id bytes ty v w a.0 fine g h e
put_step (step.Key id key) [] more n bytes ty v w g h a fine (Ok None) e = no_ok not_found w e
put_step s (t ∷ path) more n bytes ty v w g h a fine (Ok None) e = no_ok not_found w e
put_step s path more n bytes ty v w g h a fine (Ok (Some i)) e = part_changed n (put_in path bytes) i ty v w g h (λ t c d good fits m. more n bytes t c d good fits a.1 fine m) e

pub put_fits : (path : List Step) → Puts path
put_fits [] n bytes ty v w g h a fine e = read_fits n ty bytes w g fine e
put_fits (s ∷ path) zero bytes ty v w g h a fine e = absurd h
put_fits (s ∷ path) (suc n) bytes ty v w g h a fine e = put_step s path (put_fits path) n bytes ty v w g h a fine (place_in ty v s) e

-- ---- a merge
-- fields
field_fits_now : (n : ℕ) (fields : List Field) (id : ℕ) (part : Ty) (u x : Value) → option_map field_ty (find (called id) fields) ≡ Some part → FitsIn n part u → FitsLayer (FitsIn n) (Ty-F.Struct fields) x
    → (o : Option ℕ) → position (called id) fields ≡ o → FitsLayer (FitsIn n) (Ty-F.Struct fields) (with_field o u x)
field_fits_now n fields id part u x p k h None e = h
field_fits_now n fields id part u x p k h (Some i) e =
    let f : Found (called id) fields i = found (called id) fields i e in
    let typed : field_ty f.item ≡ part = some_same (field_ty f.item) part (sym (ap (option_map field_ty) (sym (found_at (called id) fields) ∙ ap (option_and_then (slice_get fields)) e ∙ f.got)) ∙ p) in
    by f.item f.got (subst (λ (t : Ty). FitsIn n t u) (sym typed) k) (child i x)
  where
    by : (f : Field) → slice_get fields i ≡ Some f → FitsIn n (field_ty f) u → (c : Option Value) → FitsLayer (FitsIn n) (Ty-F.Struct fields) (changed (λ c. put_at c [] u) i x c)
    by f g k None = h
    by f g k (Some c) = group_fits n fields x i f u h g k

found_position : (fields : List Field) (id : ℕ) (part : Ty) → option_map field_ty (find (called id) fields) ≡ Some part → (i : ℕ) × (f : Field) × (slice_get fields i ≡ Some f) × (field_ty f ≡ part)
found_position fields id part p = by (position (called id) fields) refl
  where
    by : (o : Option ℕ) → position (called id) fields ≡ o → (i : ℕ) × (f : Field) × (slice_get fields i ≡ Some f) × (field_ty f ≡ part)
    by None e = no_some part (sym (ap (option_map field_ty) (sym (found_at (called id) fields) ∙ ap (option_and_then (slice_get fields)) e)) ∙ p)
    by (Some i) e =
        let f : Found (called id) fields i = found (called id) fields i e in
        (i, f.item, f.got, some_same (field_ty f.item) part (sym (ap (option_map field_ty) (sym (found_at (called id) fields) ∙ ap (option_and_then (slice_get fields)) e ∙ f.got)) ∙ p))

fields_fit : (n : ℕ) (ty : Ty) (fields : List Field) → out-Ty ty ≡ Ty-F.Struct fields → AllByRecursion (λ f. IsSoundInside (field_ty f)) fields → list_all (λ f. nests n (field_ty f)) fields ≡ true
    → (v : Value) → FitsLayer (FitsIn n) (Ty-F.Struct fields) v → (ilvs : List Ilv) (before cs : Entries) → Told ty before ilvs cs → HoldBytes ilvs → FitsLayer (FitsIn n) (Ty-F.Struct fields) (merged_fields fields cs v)
fields_fit n ty fields q s d v h [] before [] t fine = h
fields_fit n ty fields q s d v h [] before (c ∷ cs) t fine = absurd t
fields_fit n ty fields q s d v h (ilv ∷ ilvs) before [] t fine = absurd t
fields_fit n ty fields q s d v h (ilv ∷ ilvs) before (c ∷ cs) t fine =
    let p : option_map field_ty (find (called ilv.ident) fields) ≡ Some t.2.0 = sym (ap (λ l. part_layer l ilv.ident) q) ∙ t.2.1 in
    let f : (i : ℕ) × (f : Field) × (slice_get fields i ≡ Some f) × (field_ty f ≡ t.2.0) = found_position fields ilv.ident t.2.0 p in
    let good : Good n t.2.0 = subst (Good n) f.3 (good_field n fields f.0 f.1 s d f.2) in
    field_fits_now n fields c.0 t.2.0 c.1 (merged_fields fields cs v) (ap (λ (k : ℕ). option_map field_ty (find (called k) fields)) t.0 ∙ p) (read_fits n t.2.0 ilv.value c.1 good fine.0 t.2.2)
    (fields_fit n ty fields q s d v h ilvs (before ++ c ∷ []) cs t.3 fine.1) (position (called c.0) fields) refl

-- entries
module _ (n : ℕ) (ty entry : Ty) (limit : ℕ) (keys : List KeyDecl) (q : out-Ty ty ≡ Ty-F.Array entry limit keys) (g : Good n entry) where
  rows_fit : (es : Entries) → AllByRecursion (EntryFits (FitsIn n) entry) es → (ilvs : List Ilv) (before cs : Entries) → Told ty before ilvs cs → HaveWords ilvs → HoldBytes ilvs → AllByRecursion (EntryFits (FitsIn n) entry) (merged_rows cs es)
  rows_fit es h [] before [] t a fine = h
  rows_fit es h [] before (c ∷ cs) t a fine = absurd t
  rows_fit es h (ilv ∷ ilvs) before [] t a fine = absurd t
  rows_fit es h (ilv ∷ ilvs) before (c ∷ cs) t a fine =
      let typed : entry ≡ t.2.0 = some_same entry t.2.0 (sym (ap (λ l. part_layer l ilv.ident) q) ∙ t.2.1) in
      let read : full_in entry ilv.value ≡ Ok c.1 = ap (λ (u : Ty). full_in u ilv.value) typed ∙ t.2.2 in
      all_put (EntryFits (FitsIn n) entry) c.0 c.1 (merged_rows cs es) (λ m s. (subst (λ (j : ℕ). j < 2 ^ 32) (sym (s ∙ t.0)) a.0, read_fits n entry ilv.value c.1 g fine.0 read))
      (rows_fit es h ilvs (before ++ c ∷ []) cs t.3 a.1 fine.1)

rows_rise : (cs es : Entries) → AreRising es → AreRising (merged_rows cs es)
rows_rise [] es up = up
rows_rise (c ∷ cs) es up = rising_put c.0 c.1 (merged_rows cs es) (rows_rise cs es up)

limited_table : (limit : ℕ) (fields : List Field) (keys : List KeyDecl) (es : Entries) (w : Value) → limited limit fields keys es ≡ Ok w → (keys_differ fields keys es ≡ true) × (w ≡ value.Table es) × (length es ≤ limit)
limited_table limit fields keys es w e = by (nat_lt limit (length es)) refl e
  where
    few : (a b : ℕ) → nat_lt a b ≡ false → b ≤ a
    few a b f = grind arith

    by : (b : Bool) → nat_lt limit (length es) ≡ b → (if b then Err no_room else keyed fields keys es) ≡ Ok w → (keys_differ fields keys es ≡ true) × (w ≡ value.Table es) × (length es ≤ limit)
    by true t e = no_ok no_room w e
    by false t e = let k : (keys_differ fields keys es ≡ true) × (w ≡ value.Table es) = keyed_table fields keys es w e in (k.0, k.1, few limit (length es) t)

merged_fits : (n : ℕ) (ilvs : List Ilv) (ty : Ty) (v w : Value) (cs : Entries) → Good n ty → FitsIn n ty v → HaveWords ilvs → HoldBytes ilvs → sparse_in ty ilvs ≡ Ok cs → merged ty cs v ≡ Ok w → FitsIn n ty w
unfolding merged
merged_fits zero ilvs ty v w cs g h a fine r made = absurd h
merged_fits (suc n) ilvs ty v w cs g h a fine r made = by (out-Ty ty) refl (level_is_sound ty g.sound) (one_level n ty g.deep) h
  where
    none : (l : Ty-F Ty Field) → out-Ty ty ≡ l → merged_layer cs v l ≡ Err invalid_tlv → FitsIn (suc n) ty w
    none l q z = no_ok invalid_tlv w (sym z ∙ ap (merged_layer cs v) (sym q) ∙ made)

    by : (l : Ty-F Ty Field) → out-Ty ty ≡ l → SoundLayer l → nests_layer (nests n) l ≡ true → FitsLayer (FitsIn n) l v → FitsIn (suc n) ty w
    by Ty-F.Bool q s d h = none Ty-F.Bool q refl
    by (Ty-F.Number b z min max) q s d h = none (Ty-F.Number b z min max) q refl
    by (Ty-F.String k) q s d h = none (Ty-F.String k) q refl
    by (Ty-F.Octets k) q s d h = none (Ty-F.Octets k) q refl
    by (Ty-F.Bytes k) q s d h = none (Ty-F.Bytes k) q refl
    by (Ty-F.Struct fields) q s d h =
        let same : merged_fields fields cs v ≡ w = ok_same (merged_fields fields cs v) w (sym (ap (merged_layer cs v) q) ∙ made) in
        subst (λ l. FitsLayer (FitsIn n) l w) (sym q) (subst (FitsLayer (FitsIn n) (Ty-F.Struct fields)) same (fields_fit n ty fields q s.each d v h ilvs [] cs (told ty ilvs cs r) fine))
    by (Ty-F.Array entry limit keys) q s d h =
        let own : entries_of v ≡ h.0 = ap entries_of h.1 ∙ entries_again h.0 in
        let k : (keys_differ (fields_of entry) keys (merged_rows cs h.0) ≡ true) × (w ≡ value.Table (merged_rows cs h.0)) × (length (merged_rows cs h.0) ≤ limit) =
        limited_table limit (fields_of entry) keys (merged_rows cs h.0) w
        (sym (ap (merged_layer cs v) q ∙ ap (λ (es : Entries). limited limit (fields_of entry) keys (merged_rows cs es)) own) ∙ made) in
        let fits : FitsLayer (FitsIn n) (Ty-F.Array entry limit keys) w = (
          merged_rows cs h.0,
          k.1,
          record { rising = rows_rise cs h.0 h.2.rising; few = k.2; keyed = k.0 },
          rows_fit n ty entry limit keys q (record { sound = s.inner.sound; deep = d }) h.0 h.3 ilvs [] cs (told ty ilvs cs r) a fine,
        ) in
        subst (λ l. FitsLayer (FitsIn n) l w) (sym q) fits

abbrev Merges : List Step → Type 0
Merges path = (n : ℕ) (ilvs : List Ilv) (ty : Ty) (v w : Value) → Good n ty → FitsIn n ty v → HaveWords ilvs → HoldBytes ilvs → merge_in path ilvs ty v ≡ Ok w → FitsIn n ty w

merge_step : (s : Step) (path : List Step) → Merges path → (n : ℕ) (ilvs : List Ilv) (ty : Ty) (v w : Value) → Good (suc n) ty → FitsIn (suc n) ty v → HaveWords ilvs → HoldBytes ilvs
    → (r : Result (Option ℕ) ℕ) → r >>= merge_at_place (merge_in path ilvs) ty v ≡ Ok w → FitsIn (suc n) ty w
merge_step s path more n ilvs ty v w g h a fine (Err c) e = no_ok c w e
merge_step s path more n ilvs ty v w g h a fine (Ok None) e = no_ok not_found w e
merge_step s path more n ilvs ty v w g h a fine (Ok (Some i)) e = part_changed n (merge_in path ilvs) i ty v w g h (λ t c d good fits m. more n ilvs t c d good fits a fine m) e

merge_last : (n : ℕ) (ilvs : List Ilv) (ty : Ty) (v w : Value) → Good n ty → FitsIn n ty v → HaveWords ilvs → HoldBytes ilvs → (r : Result Entries ℕ) → sparse_in ty ilvs ≡ r → (r >>= λ cs. merged ty cs v) ≡ Ok w → FitsIn n ty w
merge_last n ilvs ty v w g h a fine (Err c) q e = no_ok c w e
merge_last n ilvs ty v w g h a fine (Ok cs) q e = merged_fits n ilvs ty v w cs g h a fine q e

pub merge_fits : (path : List Step) → Merges path
merge_fits [] n ilvs ty v w g h a fine e = merge_last n ilvs ty v w g h a fine (sparse_in ty ilvs) refl e
merge_fits (s ∷ path) zero ilvs ty v w g h a fine e = absurd h
merge_fits (s ∷ path) (suc n) ilvs ty v w g h a fine e = merge_step s path (merge_fits path) n ilvs ty v w g h a fine (place_in ty v s) e

-- ---- DEL
taken_fits : (n i : ℕ) (ty : Ty) (v w : Value) → FitsIn (suc n) ty v → taken i ty v ≡ Ok w → FitsIn (suc n) ty w
unfolding taken
taken_fits n i ty v w h made = by (out-Ty ty) refl h
  where
    none : (l : Ty-F Ty Field) → out-Ty ty ≡ l → taken_layer i l v ≡ Err invalid_parameters → FitsIn (suc n) ty w
    none l q z = no_ok invalid_parameters w (sym z ∙ ap (λ k. taken_layer i k v) (sym q) ∙ made)

    by : (l : Ty-F Ty Field) → out-Ty ty ≡ l → FitsLayer (FitsIn n) l v → FitsIn (suc n) ty w
    by Ty-F.Bool q h = none Ty-F.Bool q refl
    by (Ty-F.Number b z min max) q h = none (Ty-F.Number b z min max) q refl
    by (Ty-F.String k) q h = none (Ty-F.String k) q refl
    by (Ty-F.Octets k) q h = none (Ty-F.Octets k) q refl
    by (Ty-F.Bytes k) q h = none (Ty-F.Bytes k) q refl
    by (Ty-F.Struct fields) q h = none (Ty-F.Struct fields) q refl
    by (Ty-F.Array entry limit keys) q h =
        let own : entries_of v ≡ h.0 = ap entries_of h.1 ∙ entries_again h.0 in
        let less : length (remove h.0 i) ≤ length h.0 = length_removed h.0 i in
        let few : length h.0 ≤ limit = h.2.few in
        let fits : FitsLayer (FitsIn n) (Ty-F.Array entry limit keys) w = (
          remove h.0 i,
          sym (ok_same (value.Table (remove (entries_of v) i)) w (sym (ap (λ l. taken_layer i l v) q) ∙ made)) ∙ ap (λ (es : Entries). value.Table (remove es i)) own,
          record {
            rising = rising_removed h.0 i h.2.rising;
            few = omega (arith, less, few);
            keyed = differ_removed (fields_of entry) keys h.0 i h.2.keyed;
          },
          all_removed (EntryFits (FitsIn n) entry) h.0 i h.3,
        ) in
        subst (λ l. FitsLayer (FitsIn n) l w) (sym q) fits

table_with : (es : Entries) (i : ℕ) (d : Value) → with_child i d (value.Table es) ≡ value.Table (entries_of (with_child i d (value.Table es)))
table_with es i d =
    let l : with_child i d (value.Table es) ≡ value.Table (with_entry i d es (slice_get es i)) = ap (λ l. roll-Value (with_child_layer i d l)) (table_again es) ∙ rolls-Table (with_entry i d es (slice_get es i)) in
    l ∙ ap value.Table (sym (ap entries_of l ∙ entries_again (with_entry i d es (slice_get es i))))

-- what is left passes its check
checked_below : (n id j : ℕ) (ids : List ℕ) (ty : Ty) (v w : Value) → IsSound ty → FitsIn (suc n) ty v → (b : Below (j ∷ ids) id ty v w) → checked ty (with_child b.at b.new v) ≡ Ok w
unfolding checked
checked_below n id j ids ty v w s h b = by (out-Ty ty) refl (level_is_sound ty s) h
  where
    plain : (l : Ty-F Ty Field) → out-Ty ty ≡ l → checked_layer l (with_child b.at b.new v) ≡ Ok (with_child b.at b.new v) → checked_layer (out-Ty ty) (with_child b.at b.new v) ≡ Ok w
    plain l q r = ap (λ k. checked_layer k (with_child b.at b.new v)) q ∙ r ∙ ap (λ (x : Value). Ok x) b.is

    by : (l : Ty-F Ty Field) → out-Ty ty ≡ l → SoundLayer l → FitsLayer (FitsIn n) l v → checked_layer (out-Ty ty) (with_child b.at b.new v) ≡ Ok w
    by Ty-F.Bool q s h = plain Ty-F.Bool q refl
    by (Ty-F.Number c z min max) q s h = plain (Ty-F.Number c z min max) q refl
    by (Ty-F.String k) q s h = plain (Ty-F.String k) q refl
    by (Ty-F.Octets k) q s h = plain (Ty-F.Octets k) q refl
    by (Ty-F.Bytes k) q s h = plain (Ty-F.Bytes k) q refl
    by (Ty-F.Struct fields) q s h = plain (Ty-F.Struct fields) q refl
    by (Ty-F.Array entry limit keys) q s h =
        let differ : keys_differ (fields_of entry) keys (entries_of (with_child b.at b.new v)) ≡ true =
        ap (λ (x : Value). keys_differ (fields_of entry) keys (entries_of x)) b.is ∙ differs_below n id j ids ty v w entry limit keys q s h b in
        let again : value.Table (entries_of (with_child b.at b.new v)) ≡ with_child b.at b.new v =
        sym (subst (λ (x : Value). with_child b.at b.new x ≡ value.Table (entries_of (with_child b.at b.new x))) (sym h.1) (table_with h.0 b.at b.new)) in
        plain (Ty-F.Array entry limit keys) q
        (ap (λ (t : Bool). if t then Ok (value.Table (entries_of (with_child b.at b.new v))) else Err already_there) differ ∙ ap (λ (x : Value). Ok x) again)

abbrev Removes : List ℕ → Type 0
Removes ids = (n : ℕ) (ty : Ty) (v w : Value) → Good n ty → FitsIn n ty v → remove_in (by_ids ids) ty v ≡ Ok w → FitsIn n ty w

remove_last : (n id : ℕ) (ty : Ty) (v w : Value) → FitsIn (suc n) ty v → (r : Result (Option ℕ) ℕ) → r >>= remove_at_place (remove_in []) [] ty v ≡ Ok w → FitsIn (suc n) ty w
remove_last n id ty v w h (Err c) e = no_ok c w e
remove_last n id ty v w h (Ok None) e = no_ok not_found w e
remove_last n id ty v w h (Ok (Some i)) e = taken_fits n i ty v w h e

remove_below : (n id j : ℕ) (ids : List ℕ) → Removes (j ∷ ids) → (ty : Ty) (v w : Value) → Good (suc n) ty → FitsIn (suc n) ty v → remove_in (by_ids (id ∷ j ∷ ids)) ty v ≡ Ok w → FitsIn (suc n) ty w
remove_below n id j ids more ty v w g h e =
    let b : Below (j ∷ ids) id ty v w = below id j ids ty v w e in
    let s : Standing n b.at ty v b.part b.old = standing n ty v g h b.at b.part b.old b.here in
    s.exchanged b.new w (more n b.part b.old b.new s.good s.fits b.made) (checked_below n id j ids ty v w g.sound h b)

removes_fit : (ids : List ℕ) → Removes ids
removes_fit [] n ty v w g h e = no_ok invalid_parameters w e
removes_fit (id ∷ ids) zero ty v w g h e = absurd h
removes_fit (id ∷ []) (suc n) ty v w g h e = remove_last n id ty v w h (place_in ty v (step.Id id)) e
removes_fit (id ∷ j ∷ ids) (suc n) ty v w g h e = remove_below n id j ids (removes_fit (j ∷ ids)) ty v w g h e

pub remove_fits : (path : List Step) (n : ℕ) (ty : Ty) (v w : Value) → Good n ty → FitsIn n ty v → remove_in path ty v ≡ Ok w → FitsIn n ty w
remove_fits path n ty v w g h e = by (place path ty v) (sym (removed_at_ids n path ty v h) ∙ e)
  where
    by : (r : Result (List ℕ) ℕ) → at_place (λ ids. remove_in ids ty v) r ≡ Ok w → FitsIn n ty w
    by (Err c) e = no_ok c w e
    by (Ok ids) e = removes_fit ids n ty v w g h e
