-- What a DEL takes out.
use Rattle.std.proofs.Common.{◌≡◌, ℕ, zero, suc, ◌==◌, Bool, true, false, ◌||◌, cond, List, [], ◌∷◌, ◌++◌, bytes_eq, position, find, slice_get, slice_set, refl, sym, ap, subst, ◌∙◌, Option, Some, None, option_map, option_and_then, Result, Ok, Err, ◌⊎◌, if◌then◌else◌, inl, inr, eqb-true}
use Rattle.std.specs.List.{AllByRecursion, list_any, remove}
use Rattle.std.proofs.lemmas.Slice.Eq.{bytes_eq-Decides}
use Rattle.fc_base.specs.Answers.{◌>>=◌}
use Rattle.fc_path.specs.declared.oper.Step.{Step}
use Rattle.fc_path.specs.declared.oper.Step.TheVariants as step
use Rattle.fc_tree.specs.Finding.{by_key, entries_of, invalid_path, key_in, no_component, not_found, or_code, paired, part_at, part_layer, place_in, place_layer, stepped, walked}
use Rattle.fc_tree.specs.Removing.{remove_at_place, remove_in, remove_part, taken, taken_layer}
use Rattle.fc_types.specs.Sound.{IsSound, IsSoundInside, SoundLayer}
use Rattle.fc_types.specs.Types.{field_ty, fields_layer, fields_of, is_atom, is_atom_layer, is_key}
use Rattle.fc_types.specs.declared.ty.Field.{Field}
use Rattle.fc_types.specs.declared.ty.KeyDecl.{KeyDecl}
use Rattle.fc_types.specs.declared.ty.Ty.{Ty}
use Rattle.fc_types.specs.declared.ty.Ty.TheOpen.{Ty-F}
use Rattle.fc_types.specs.declared.ty.Ty.TheViews.{out-Ty}
use Rattle.fc_types.proofs.Bools.{both}
use Rattle.fc_types.proofs.Sounds.{level_is_sound}
use Rattle.fc_value.specs.Fits.{FitsIn, FitsLayer}
use Rattle.fc_value.specs.FullForm.{AreRising}
use Rattle.fc_value.specs.Keys.{differ_in, key_value, keys_differ}
use Rattle.fc_value.specs.Nodes.{are_apart, child, with_child}
use Rattle.fc_value.specs.Outcomes.{invalid_parameters}
use Rattle.fc_value.specs.declared.value.Value.{Value}
use Rattle.fc_value.specs.declared.value.Value.TheVariants as value
use Rattle.fc_cells.specs.Cells.{by_ids}
use Rattle.fc_cells.specs.Places.{IsFree, id_of, keys_layer, keys_of, new_place, place, place_behind, place_from}
use Rattle.fc_cells.proofs.Finds.{Entries, Entry, Found, In, all_in, find_remains, find_rising, find_without, found, found_at, has, in_found, key_free, no_some, none_left, other_test, some_same}
use Rattle.fc_cells.proofs.Steps.{Led, Part, Went, array_key, array_part, array_place, behind_is, by_its_key, by_key_bytes, by_some_key, by_subscript, called, key_entry, key_of, led, no_ok, numbered, ok_same, one_entry, reached, reached_by, struct_part, struct_place, walked_by, walked_id, went, went_on}
use Rattle.fc_cells.proofs.Beside.{Changed, KeepsKey, Level, array_beside, array_kept, array_level, entries_again, entries_set, paired_is, struct_level}
use Rattle.fc_cells.proofs.Keeping.{differ_kept, key_kept, keyless}
use Rattle.fc_cells.proofs.Placing.{part_fits, own_entries, rises}
use Rattle.fc_cells.proofs.Under.{Keeps, Through, Under, along, aside, moved, same_part}

-- the entry with a subscript is taken out of an array
pub record Taken (id : ℕ) (ty : Ty) (v w : Value) : Type 0 where
  pub entry : Ty
  pub limit : ℕ
  pub keys : List KeyDecl
  pub array : out-Ty ty ≡ Ty-F.Array entry limit keys
  pub at : ℕ
  pub placed : position (has id) (entries_of v) ≡ Some at
  pub left : entries_of w ≡ remove (entries_of v) at

abbrev pub Nothing : Ty → Value → Value → Type 0
Nothing ty v w = ⊥

abbrev pub Removed : List ℕ → Ty → Value → Value → Type 0
Removed = Under Taken Nothing

taken_entry : (id i : ℕ) (ty : Ty) (v w : Value) → place_in ty v (step.Id id) ≡ Ok (Some i) → taken i ty v ≡ Ok w → Taken id ty v w
unfolding taken
taken_entry id i ty v w p e = by (out-Ty ty) refl
  where
    none : (l : Ty-F Ty Field) → out-Ty ty ≡ l → taken_layer i l v ≡ Err invalid_parameters → Taken id ty v w
    none l q r = no_ok invalid_parameters w (sym r ∙ ap (λ k. taken_layer i k v) (sym q) ∙ e)

    by : (l : Ty-F Ty Field) → out-Ty ty ≡ l → Taken id ty v w
    by Ty-F.Bool q = none Ty-F.Bool q refl
    by (Ty-F.Number b g min max) q = none (Ty-F.Number b g min max) q refl
    by (Ty-F.String n) q = none (Ty-F.String n) q refl
    by (Ty-F.Octets n) q = none (Ty-F.Octets n) q refl
    by (Ty-F.Bytes n) q = none (Ty-F.Bytes n) q refl
    by (Ty-F.Struct fields) q = none (Ty-F.Struct fields) q refl
    by (Ty-F.Array entry limit keys) q = record {
      entry = entry;
      limit = limit;
      keys = keys;
      array = q;
      at = i;
      placed = ok_same (position (has id) (entries_of v)) (Some i) (sym (array_place ty entry limit keys q v id) ∙ p);
      left =
          ap entries_of (sym (ok_same (value.Table (remove (entries_of v) i)) w (sym (ap (λ l. taken_layer i l v) q) ∙ e)))
          ∙ entries_again (remove (entries_of v) i);
    }

taken_changed : (id : ℕ) (ty : Ty) (v w : Value) → Taken id ty v w → Changed id ty v w
taken_changed id ty v w t =
    let f : Found (has id) (entries_of v) t.at = found (has id) (entries_of v) t.at t.placed in
    record {
      beside = array_beside ty t.entry t.limit t.keys t.array (λ j. id == j) v w
          (λ j n. ap (find (has j)) t.left ∙ find_without (has j) (entries_of v) t.at f.item f.got (other_test f.item.0 id j (eqb-true f.item.0 id f.passes) n))
          (λ n key is k e m q. ap (find (key_of (fields_of t.entry) key k)) t.left
          ∙ find_remains (key_of (fields_of t.entry) key k) (entries_of v) t.at f.item e f.got (other_test f.item.0 id e.0 (eqb-true f.item.0 id f.passes) m) q);
      kept = array_kept ty t.entry t.limit t.keys t.array id v w;
    }

-- ---- what is sound of a part
pub some_sound : (fields : List Field) (i : ℕ) (t : Ty) → AllByRecursion (λ f. IsSoundInside (field_ty f)) fields → option_map field_ty (slice_get fields i) ≡ Some t → IsSound t
some_sound [] i t s e = no_some t e
some_sound (f ∷ fs) zero t s e = subst IsSound (some_same (field_ty f) t e) s.0.sound
some_sound (f ∷ fs) (suc i) t s e = some_sound fs i t s.1 e

-- a step leads on only from a struct or an array
leads_on : (ty : Ty) (v : Value) (s : Step) (o : Option ℕ) → place_in ty v s ≡ Ok o → is_atom ty ≡ false
unfolding place_in
leads_on ty v s o p = by (out-Ty ty) refl
  where
    none : (l : Ty-F Ty Field) → out-Ty ty ≡ l → place_layer l v s ≡ Err invalid_path → is_atom ty ≡ false
    none l q r = no_ok invalid_path o (sym r ∙ ap (λ k. place_layer k v s) (sym q) ∙ p)

    by : (l : Ty-F Ty Field) → out-Ty ty ≡ l → is_atom ty ≡ false
    by Ty-F.Bool q = none Ty-F.Bool q refl
    by (Ty-F.Number b g min max) q = none (Ty-F.Number b g min max) q refl
    by (Ty-F.String n) q = none (Ty-F.String n) q refl
    by (Ty-F.Octets n) q = none (Ty-F.Octets n) q refl
    by (Ty-F.Bytes n) q = none (Ty-F.Bytes n) q refl
    by (Ty-F.Struct fields) q = ap is_atom_layer q
    by (Ty-F.Array entry limit keys) q = ap is_atom_layer q

-- a DEL below a part
pub record Below (ids : List ℕ) (id : ℕ) (ty : Ty) (v w : Value) : Type 0 where
  pub at : ℕ
  pub placed : place_in ty v (step.Id id) ≡ Ok (Some at)
  pub part : Ty
  pub old : Value
  pub new : Value
  pub here : part_at at ty v ≡ Some (part, old)
  pub made : remove_in (by_ids ids) part old ≡ Ok new
  pub is : with_child at new v ≡ w

pub below : (id j : ℕ) (ids : List ℕ) (ty : Ty) (v w : Value) → remove_in (by_ids (id ∷ j ∷ ids)) ty v ≡ Ok w → Below (j ∷ ids) id ty v w
below id j ids ty v w e = by (place_in ty v (step.Id id)) refl e
  where
    last : (i : ℕ) → place_in ty v (step.Id id) ≡ Ok (Some i) → (x : Ty × Value) → part_at i ty v ≡ Some x → (r : Result Value ℕ) → remove_in (by_ids (j ∷ ids)) x.0 x.1 ≡ r
        → (r >>= λ u. Ok (with_child i u v)) ≡ Ok w → Below (j ∷ ids) id ty v w
    last i p x q (Err c) m e = no_ok c w e
    last i p x q (Ok u) m e = record { at = i; placed = p; part = x.0; old = x.1; new = u; here = q; made = m; is = ok_same (with_child i u v) w e }

    next : (i : ℕ) → place_in ty v (step.Id id) ≡ Ok (Some i) → (o : Option (Ty × Value)) → part_at i ty v ≡ o → remove_part (remove_in (by_ids (j ∷ ids))) i ty v o ≡ Ok w → Below (j ∷ ids) id ty v w
    next i p None q e = no_ok invalid_path w e
    next i p (Some x) q e = last i p x q (remove_in (by_ids (j ∷ ids)) x.0 x.1) refl e

    by : (r : Result (Option ℕ) ℕ) → place_in ty v (step.Id id) ≡ r → r >>= remove_at_place (remove_in (by_ids (j ∷ ids))) (by_ids (j ∷ ids)) ty v ≡ Ok w → Below (j ∷ ids) id ty v w
    by (Err c) p e = no_ok c w e
    by (Ok None) p e = no_ok not_found w e
    by (Ok (Some i)) p e = next i p (part_at i ty v) refl e

-- where a DEL goes on there is a struct or an array
goes_on : (ids : List ℕ) (j : ℕ) (ty : Ty) (v w : Value) → remove_in (by_ids (j ∷ ids)) ty v ≡ Ok w → is_atom ty ≡ false
goes_on ids j ty v w e = by (place_in ty v (step.Id j)) refl e
  where
    by : (r : Result (Option ℕ) ℕ) → place_in ty v (step.Id j) ≡ r → r >>= remove_at_place (remove_in (by_ids ids)) (by_ids ids) ty v ≡ Ok w → is_atom ty ≡ false
    by (Err c) p e = no_ok c w e
    by (Ok o) p e = leads_on ty v (step.Id j) o p

at_field : (i : ℕ) (o : Option ℕ) → or_code no_component (option_map Some o) ≡ Ok (Some i) → o ≡ Some i
at_field i None e = no_ok no_component (Some i) e
at_field i (Some k) e = ok_same (Some k) (Some i) e

some_type : (o : Option Field) (t : Ty) → option_map field_ty o ≡ Some t → (g : Field) × (o ≡ Some g) × (field_ty g ≡ t)
some_type None t e = no_some t e
some_type (Some g) t e = (g, refl, some_same (field_ty g) t e)

no_array : {X : Type 0} (fields : List Field) (entry : Ty) (limit : ℕ) (keys : List KeyDecl) → ◌≡◌ {A = Ty-F Ty Field} (Ty-F.Struct fields) (Ty-F.Array entry limit keys) → X
no_array fields entry limit keys e = absurd (cc)

-- an entry from whose inside something is taken keeps its keys
entry_keys : (j : ℕ) (ids : List ℕ) (entry : Ty) (v w : Value) → remove_in (by_ids (j ∷ ids)) entry v ≡ Ok w → (key : KeyDecl) → is_key (fields_of entry) key ≡ true → key_value (fields_of entry) key w ≡ key_value (fields_of entry) key v
entry_keys j ids entry v w e key k = by (out-Ty entry) refl
  where
    none : (l : Ty-F Ty Field) → out-Ty entry ≡ l → fields_layer l ≡ [] → key_value (fields_of entry) key w ≡ key_value (fields_of entry) key v
    none l q r = keyless key (ap (λ (fs : List Field). is_key fs key) (sym (ap fields_layer q ∙ r)) ∙ k)

    not_taken : {X : Type 0} (fields : List Field) → out-Ty entry ≡ Ty-F.Struct fields → (r : Result (Option ℕ) ℕ) → place_in entry v (step.Id j) ≡ r → r >>= remove_at_place (remove_in []) [] entry v ≡ Ok w → X
    not_taken fields q (Err c) p e = no_ok c w e
    not_taken fields q (Ok None) p e = no_ok not_found w e
    not_taken fields q (Ok (Some i)) p e = let t : Taken j entry v w = taken_entry j i entry v w p e in no_array fields t.entry t.limit t.keys (sym q ∙ t.array)

    in_struct : (fields : List Field) → out-Ty entry ≡ Ty-F.Struct fields → (ids : List ℕ) → remove_in (by_ids (j ∷ ids)) entry v ≡ Ok w → key_value fields key w ≡ key_value fields key v
    in_struct fields q [] e = not_taken fields q (place_in entry v (step.Id j)) refl e
    in_struct fields q (m ∷ ids) e =
        let b : Below (m ∷ ids) j entry v w = below j m ids entry v w e in
        let p : paired (option_map field_ty (slice_get fields b.at)) (child b.at v) ≡ Some (b.part, b.old) = sym (struct_part entry fields q v b.at) ∙ b.here in
        let parts : (option_map field_ty (slice_get fields b.at) ≡ Some b.part) × (child b.at v ≡ Some b.old) = paired_is (option_map field_ty (slice_get fields b.at)) (child b.at v) b.part b.old p in
        let g : (g : Field) × (slice_get fields b.at ≡ Some g) × (field_ty g ≡ b.part) = some_type (slice_get fields b.at) b.part parts.0 in
        let branch : is_atom (field_ty g.0) ≡ false = ap is_atom g.2 ∙ goes_on ids m b.part b.old b.new b.made in
        let made : is_key fields key ≡ true = ap (λ (fs : List Field). is_key fs key) (sym (ap fields_layer q)) ∙ k in
        ap (key_value fields key) (sym b.is) ∙ key_kept fields b.at g.0 b.new g.1 branch key made v

    by : (l : Ty-F Ty Field) → out-Ty entry ≡ l → key_value (fields_of entry) key w ≡ key_value (fields_of entry) key v
    by Ty-F.Bool q = none Ty-F.Bool q refl
    by (Ty-F.Number b g min max) q = none (Ty-F.Number b g min max) q refl
    by (Ty-F.String n) q = none (Ty-F.String n) q refl
    by (Ty-F.Octets n) q = none (Ty-F.Octets n) q refl
    by (Ty-F.Bytes n) q = none (Ty-F.Bytes n) q refl
    by (Ty-F.Struct fields) q = subst (λ (fs : List Field). key_value fs key w ≡ key_value fs key v) (sym (ap fields_layer q)) (in_struct fields q ids e)
    by (Ty-F.Array inner limit keys) q = none (Ty-F.Array inner limit keys) q refl

-- entries still differ in their keys where something is taken from inside one of them
pub differs_below : (n : ℕ) (id j : ℕ) (ids : List ℕ) (ty : Ty) (v w : Value) (entry : Ty) (limit : ℕ) (keys : List KeyDecl) → out-Ty ty ≡ Ty-F.Array entry limit keys → SoundLayer (Ty-F.Array entry limit keys)
    → FitsLayer (FitsIn n) (Ty-F.Array entry limit keys) v → Below (j ∷ ids) id ty v w → keys_differ (fields_of entry) keys (entries_of w) ≡ true
differs_below n id j ids ty v w entry limit keys q s h b =
    let at : position (has id) (entries_of v) ≡ Some b.at = ok_same (position (has id) (entries_of v)) (Some b.at) (sym (array_place ty entry limit keys q v id) ∙ b.placed) in
    let f : Found (has id) (entries_of v) b.at = found (has id) (entries_of v) b.at at in
    let same : (entry, f.item.1) ≡ (b.part, b.old) = some_same (entry, f.item.1) (b.part, b.old) (sym (array_part ty entry limit keys q v b.at f.item f.got) ∙ b.here) in
    let made : remove_in (by_ids (j ∷ ids)) entry f.item.1 ≡ Ok b.new = subst (λ (z : Ty × Value). remove_in (by_ids (j ∷ ids)) z.0 z.1 ≡ Ok b.new) (sym same) b.made in
    let set : entries_of w ≡ slice_set (entries_of v) b.at (f.item.0, b.new) = ap entries_of (sym b.is) ∙ entries_set v b.at f.item b.new f.got in
    let old : keys_differ (fields_of entry) keys (entries_of v) ≡ true = ap (keys_differ (fields_of entry) keys) (own_entries n ty entry limit keys q v h) ∙ h.2.keyed in
    ap (keys_differ (fields_of entry) keys) set
    ∙ differ_kept (fields_of entry) keys (entries_of v) b.at f.item b.new f.got s.made (λ key k. entry_keys j ids entry f.item.1 b.new made key k) old

-- ---- one step down
pub level_below : (n : ℕ) (id j : ℕ) (ids : List ℕ) (ty : Ty) (v w : Value) → IsSound ty → FitsIn (suc n) ty v → (b : Below (j ∷ ids) id ty v w) → Level id ty v w b.part b.old b.new × IsSound b.part
level_below n id j ids ty v w s h b = by (out-Ty ty) refl (level_is_sound ty s) h
  where
    none : (l : Ty-F Ty Field) → out-Ty ty ≡ l → is_atom_layer l ≡ true → Level id ty v w b.part b.old b.new × IsSound b.part
    none l q r = let f : is_atom ty ≡ false = leads_on ty v (step.Id id) (Some b.at) b.placed in let t : is_atom ty ≡ true = ap is_atom_layer q ∙ r in absurd (cc)

    by : (l : Ty-F Ty Field) → out-Ty ty ≡ l → SoundLayer l → FitsLayer (FitsIn n) l v → Level id ty v w b.part b.old b.new × IsSound b.part
    by Ty-F.Bool q s h = none Ty-F.Bool q refl
    by (Ty-F.Number c g min max) q s h = none (Ty-F.Number c g min max) q refl
    by (Ty-F.String m) q s h = none (Ty-F.String m) q refl
    by (Ty-F.Octets m) q s h = none (Ty-F.Octets m) q refl
    by (Ty-F.Bytes m) q s h = none (Ty-F.Bytes m) q refl
    by (Ty-F.Struct fields) q s h =
        let at : position (called id) fields ≡ Some b.at = at_field b.at (position (called id) fields) (sym (struct_place ty fields q v id) ∙ b.placed) in
        let p : paired (option_map field_ty (slice_get fields b.at)) (child b.at v) ≡ Some (b.part, b.old) = sym (struct_part ty fields q v b.at) ∙ b.here in
        let parts : (option_map field_ty (slice_get fields b.at) ≡ Some b.part) × (child b.at v ≡ Some b.old) = paired_is (option_map field_ty (slice_get fields b.at)) (child b.at v) b.part b.old p in
        (subst (λ (u : Value). Level id ty v u b.part b.old b.new) b.is (struct_level ty fields q id b.at v b.part b.old b.new at b.here), some_sound fields b.at b.part s.each parts.0)
    by (Ty-F.Array entry limit keys) q s h =
        let at : position (has id) (entries_of v) ≡ Some b.at = ok_same (position (has id) (entries_of v)) (Some b.at) (sym (array_place ty entry limit keys q v id) ∙ b.placed) in
        let f : Found (has id) (entries_of v) b.at = found (has id) (entries_of v) b.at at in
        let same : (entry, f.item.1) ≡ (b.part, b.old) = some_same (entry, f.item.1) (b.part, b.old) (sym (array_part ty entry limit keys q v b.at f.item f.got) ∙ b.here) in
        let set : entries_of w ≡ slice_set (entries_of v) b.at (f.item.0, b.new) = ap entries_of (sym b.is) ∙ entries_set v b.at f.item b.new f.got in
        let new : keys_differ (fields_of entry) keys (entries_of w) ≡ true = differs_below n id j ids ty v w entry limit keys q s h b in
        (subst (λ (z : Ty × Value). Level id ty v w z.0 z.1 b.new) same (array_level ty entry limit keys q id b.at v w f.item b.new at f.got f.passes set new), subst IsSound (ap (λ (z : Ty × Value). z.0) same) s.inner.sound)

-- a part from whose inside something is taken keeps each key
keeps_below : (id j : ℕ) (ids : List ℕ) (ty : Ty) (v w : Value) → IsSound ty → (b : Below (j ∷ ids) id ty v w) → (m : ℕ) → KeepsKey ty m b.part b.old b.new
keeps_below id j ids ty v w s b m key is = by (out-Ty ty) refl (level_is_sound ty s)
  where
    none : (l : Ty-F Ty Field) → out-Ty ty ≡ l → keys_layer l ≡ [] → key_value (fields_of b.part) key b.new ≡ key_value (fields_of b.part) key b.old
    none l q r = no_some key (sym (ap (find (numbered m)) (ap keys_layer q ∙ r)) ∙ is)

    by : (l : Ty-F Ty Field) → out-Ty ty ≡ l → SoundLayer l → key_value (fields_of b.part) key b.new ≡ key_value (fields_of b.part) key b.old
    by Ty-F.Bool q s = none Ty-F.Bool q refl
    by (Ty-F.Number c g min max) q s = none (Ty-F.Number c g min max) q refl
    by (Ty-F.String k) q s = none (Ty-F.String k) q refl
    by (Ty-F.Octets k) q s = none (Ty-F.Octets k) q refl
    by (Ty-F.Bytes k) q s = none (Ty-F.Bytes k) q refl
    by (Ty-F.Struct fields) q s = none (Ty-F.Struct fields) q refl
    by (Ty-F.Array entry limit keys) q s =
        let p : paired (Some entry) (child b.at v) ≡ Some (b.part, b.old) = sym (ap (λ l. paired (part_layer b.at l) (child b.at v)) q) ∙ b.here in
        let parts : (◌≡◌ {A = Option Ty} (Some entry) (Some b.part)) × (child b.at v ≡ Some b.old) = paired_is (Some entry) (child b.at v) b.part b.old p in
        let own : In key keys × (numbered m key ≡ true) = in_found (numbered m) keys key (sym (ap (find (numbered m)) (ap keys_layer q)) ∙ is) in
        let made : is_key (fields_of b.part) key ≡ true =
        subst (λ (t : Ty). is_key (fields_of t) key ≡ true) (some_same entry b.part parts.0) (all_in (is_key (fields_of entry)) keys key s.made own.0) in
        entry_keys j ids b.part b.old b.new b.made key made

step_kept : (id j : ℕ) (ids : List ℕ) (ty : Ty) (v w : Value) → IsSound ty → (b : Below (j ∷ ids) id ty v w) → (s : Step) → Keeps ty s b.part b.old b.new
step_kept id j ids ty v w sound b (step.Id m) = tt
step_kept id j ids ty v w sound b (step.Key m bytes) = keeps_below id j ids ty v w sound b m

-- ---- a DEL
abbrev Removes : List ℕ → Type 0
Removes ids = (n : ℕ) (ty : Ty) (v w : Value) → IsSound ty → FitsIn n ty v → remove_in (by_ids ids) ty v ≡ Ok w → Removed ids ty v w

last_removed : (id : ℕ) (ty : Ty) (v w : Value) (r : Result (Option ℕ) ℕ) → place_in ty v (step.Id id) ≡ r → r >>= remove_at_place (remove_in []) [] ty v ≡ Ok w → Removed (id ∷ []) ty v w
last_removed id ty v w (Err c) p e = no_ok c w e
last_removed id ty v w (Ok None) p e = no_ok not_found w e
last_removed id ty v w (Ok (Some i)) p e = let t : Taken id ty v w = taken_entry id i ty v w p e in (taken_changed id ty v w t, inl (refl, t))

removed_below : (id j : ℕ) (ids : List ℕ) → Removes (j ∷ ids) → Removes (id ∷ j ∷ ids)
removed_below id j ids more zero ty v w s h e = absurd h
removed_below id j ids more (suc n) ty v w s h e =
    let b : Below (j ∷ ids) id ty v w = below id j ids ty v w e in
    let l : Level id ty v w b.part b.old b.new × IsSound b.part = level_below n id j ids ty v w s h b in
    let fits : FitsIn n b.part b.old = part_fits n (step.Id id) ty v (id, b.part, b.old) h (went (step.Id id) ty v (id, b.part, b.old) l.0.before) in
    (l.0.changed, inr (b.part, b.old, b.new, l.0, more n b.part b.old b.new l.1 fits b.made))

pub removed_under : (ids : List ℕ) → Removes ids
removed_under [] n ty v w s h e = no_ok invalid_parameters w e
removed_under (id ∷ []) n ty v w s h e = last_removed id ty v w (place_in ty v (step.Id id)) refl e
removed_under (id ∷ j ∷ ids) n ty v w s h e = removed_below id j ids (removed_under (j ∷ ids)) n ty v w s h e

-- ---- the entry is gone
head_is : (m : ℕ) (path : List Step) (ty : Ty) (v : Value) (id : ℕ) (ids : List ℕ) → place (step.Id m ∷ path) ty v ≡ Ok (id ∷ ids) → m ≡ id
head_is m path ty v id ids e = by (place_in ty v (step.Id m)) e
  where
    same : (xs : List ℕ) → ◌≡◌ {A = Result (List ℕ) ℕ} (Ok (m ∷ xs)) (Ok (id ∷ ids)) → m ≡ id
    same xs e = let k : ◌≡◌ {A = List ℕ} (m ∷ xs) (id ∷ ids) = ok_same (m ∷ xs) (id ∷ ids) e in cc

    new : (path : List Step) → new_place path (step.Id m) ≡ Ok (id ∷ ids) → m ≡ id
    new [] e = same [] e
    new (t ∷ path) e = no_ok not_found (id ∷ ids) e

    last : (r : Result (List ℕ) ℕ) → (r >>= λ js. Ok (m ∷ js)) ≡ Ok (id ∷ ids) → m ≡ id
    last (Err c) e = no_ok c (id ∷ ids) e
    last (Ok js) e = same js e

    part : (o : Option (Ty × Value)) → place_behind (place path) m o ≡ Ok (id ∷ ids) → m ≡ id
    part None e = no_ok invalid_path (id ∷ ids) e
    part (Some x) e = last (place path x.0 x.1) e

    by : (r : Result (Option ℕ) ℕ) → r >>= place_from (place path) path (step.Id m) ty v ≡ Ok (id ∷ ids) → m ≡ id
    by (Err c) e = no_ok c (id ∷ ids) e
    by (Ok None) e = new path e
    by (Ok (Some i)) e = part (part_at i ty v) e

none_placed : (p : Entry → Bool) (es : Entries) → find p es ≡ None → position p es ≡ None
none_placed p es e = by (position p es) refl
  where
    by : (o : Option ℕ) → position p es ≡ o → position p es ≡ None
    by None q = q
    by (Some i) q =
        let f : Found p es i = found p es i q in
        no_some f.item (sym e ∙ sym (found_at p es) ∙ ap (option_and_then (slice_get es)) q ∙ f.got)

module _ (n : ℕ) (id : ℕ) (ty : Ty) (v w : Value) (h : FitsIn (suc n) ty v) (t : Taken id ty v w) where
  fit : FitsLayer (FitsIn n) (Ty-F.Array t.entry t.limit t.keys) v
  fit = subst (λ l. FitsLayer (FitsIn n) l v) t.array h

  there : Found (has id) (entries_of v) t.at
  there = found (has id) (entries_of v) t.at t.placed

  own : there.item.0 ≡ id
  own = eqb-true there.item.0 id there.passes

  rising : AreRising (entries_of v)
  rising = rises n ty t.entry t.limit t.keys t.array v fit

  differ : keys_differ (fields_of t.entry) t.keys (entries_of v) ≡ true
  differ = ap (keys_differ (fields_of t.entry) t.keys) (own_entries n ty t.entry t.limit t.keys t.array v fit) ∙ fit.2.keyed

  by_id_gone : (m : ℕ) → m ≡ id → walked (step.Id m ∷ []) ty w ≡ Err not_found
  by_id_gone m s =
      walked_id m [] ty w ∙ ap (λ (r : Result Part ℕ). r >>= went_on []) (by_subscript ty t.entry t.limit t.keys t.array w m)
      ∙ ap (λ (o : Option Entry). one_entry ty t.entry t.limit t.keys t.array m o >>= went_on [])
      (ap (find (has m)) t.left ∙ ap (λ (k : ℕ). find (has k) (remove (entries_of v) t.at)) (s ∙ sym own) ∙ none_left (entries_of v) t.at there.item rising there.got)

  -- the one entry with the subscript has the key
  key_gone : (m : ℕ) (bytes : List ℕ) (key : KeyDecl) → find (numbered m) t.keys ≡ Some key → (k : List ℕ) → key_in (fields_of t.entry) key.fields bytes ≡ Ok k
      → (e : Entry) → find (key_of (fields_of t.entry) key k) (entries_of v) ≡ Some e → e.0 ≡ id → place_in ty w (step.Key m bytes) ≡ Err not_found
  key_gone m bytes key is k read e f s =
      let in_e : In e (entries_of v) × (key_of (fields_of t.entry) key k e ≡ true) = in_found (key_of (fields_of t.entry) key k) (entries_of v) e f in
      let in_key : In key t.keys × (numbered m key ≡ true) = in_found (numbered m) t.keys key is in
      let same : e ≡ there.item =
      some_same e there.item (sym (find_rising (entries_of v) e rising in_e.0) ∙ ap (λ (j : ℕ). find (has j) (entries_of v)) s
      ∙ sym (found_at (has id) (entries_of v)) ∙ ap (option_and_then (slice_get (entries_of v))) t.placed ∙ there.got) in
      let free : find (key_of (fields_of t.entry) key k) (remove (entries_of v) t.at) ≡ None =
      key_free (λ (x : Entry). key_value (fields_of t.entry) key x.1) (entries_of v) t.at there.item k (all_in (differ_in (fields_of t.entry) (entries_of v)) t.keys key differ in_key.0) there.got (ap (key_of (fields_of t.entry) key k) (sym same) ∙ in_e.1) in
      array_key ty t.entry t.limit t.keys t.array w m bytes ∙ ap (λ (o : Option KeyDecl). by_key (fields_of t.entry) (entries_of w) o bytes) is
      ∙ ap (λ (r : Result (List ℕ) ℕ). r >>= λ k. or_code not_found (option_map Some (position (key_of (fields_of t.entry) key k) (entries_of w)))) read
      ∙ ap (λ (o : Option ℕ). or_code not_found (option_map Some o)) (none_placed (key_of (fields_of t.entry) key k) (entries_of w) (ap (find (key_of (fields_of t.entry) key k)) t.left ∙ free))

  by_key_gone : (m : ℕ) (bytes : List ℕ) (x : Part) → reached (step.Key m bytes) ty v ≡ Ok x → x.0 ≡ id → place_in ty w (step.Key m bytes) ≡ Err not_found
  by_key_gone m bytes x e s = by (find (numbered m) t.keys) refl (sym (by_its_key ty t.entry t.limit t.keys t.array v m bytes) ∙ e)
    where
      last : (key : KeyDecl) → find (numbered m) t.keys ≡ Some key → (k : List ℕ) → key_in (fields_of t.entry) key.fields bytes ≡ Ok k → (o : Option Entry) → find (key_of (fields_of t.entry) key k) (entries_of v) ≡ o
          → key_entry ty t.entry t.limit t.keys t.array o ≡ Ok x → place_in ty w (step.Key m bytes) ≡ Err not_found
      last key is k read None f e = no_ok not_found x e
      last key is k read (Some y) f e = key_gone m bytes key is k read y f (ap (λ (z : Part). z.0) (ok_same (y.0, t.entry, y.1) x e) ∙ s)

      next : (key : KeyDecl) → find (numbered m) t.keys ≡ Some key → (r : Result (List ℕ) ℕ) → key_in (fields_of t.entry) key.fields bytes ≡ r → by_key_bytes ty t.entry t.limit t.keys t.array (entries_of v) key r ≡ Ok x
          → place_in ty w (step.Key m bytes) ≡ Err not_found
      next key is (Err c) read e = no_ok c x e
      next key is (Ok k) read e = last key is k read (find (key_of (fields_of t.entry) key k) (entries_of v)) refl e

      by : (o : Option KeyDecl) → find (numbered m) t.keys ≡ o → by_some_key ty t.entry t.limit t.keys t.array (entries_of v) bytes o ≡ Ok x → place_in ty w (step.Key m bytes) ≡ Err not_found
      by None is e = no_ok invalid_path x e
      by (Some key) is e = next key is (key_in (fields_of t.entry) key.fields bytes) refl e

  -- the part to which a key leads
  key_led : (m : ℕ) (bytes : List ℕ) → place (step.Key m bytes ∷ []) ty v ≡ Ok (id ∷ []) → (x : Part) × (reached (step.Key m bytes) ty v ≡ Ok x) × (x.0 ≡ id)
  key_led m bytes e = by (place_in ty v (step.Key m bytes)) refl e
    where
      first : (j : ℕ) → ◌≡◌ {A = Result (List ℕ) ℕ} (Ok (j ∷ [])) (Ok (id ∷ [])) → j ≡ id
      first j e = let k : ◌≡◌ {A = List ℕ} (j ∷ []) (id ∷ []) = ok_same (j ∷ []) (id ∷ []) e in cc

      last : (i : ℕ) → place_in ty v (step.Key m bytes) ≡ Ok (Some i) → (j : ℕ) → id_of (step.Key m bytes) i v ≡ Ok j → (o : Option (Ty × Value)) → part_at i ty v ≡ o → place_behind (place []) j o ≡ Ok (id ∷ [])
          → (x : Part) × (reached (step.Key m bytes) ty v ≡ Ok x) × (x.0 ≡ id)
      last i p j q None o e = no_ok invalid_path (id ∷ []) e
      last i p j q (Some y) o e = ((j, y.0, y.1), reached_by (step.Key m bytes) ty v (j, y.0, y.1) (record { at = i; placed = p; named = q; part = o }), first j e)

      next : (i : ℕ) → place_in ty v (step.Key m bytes) ≡ Ok (Some i) → (r : Result ℕ ℕ) → id_of (step.Key m bytes) i v ≡ r → (r >>= λ j. place_behind (place []) j (part_at i ty v)) ≡ Ok (id ∷ [])
          → (x : Part) × (reached (step.Key m bytes) ty v ≡ Ok x) × (x.0 ≡ id)
      next i p (Err c) q e = no_ok c (id ∷ []) e
      next i p (Ok j) q e = last i p j q (part_at i ty v) refl e

      by : (r : Result (Option ℕ) ℕ) → place_in ty v (step.Key m bytes) ≡ r → r >>= place_from (place []) [] (step.Key m bytes) ty v ≡ Ok (id ∷ []) → (x : Part) × (reached (step.Key m bytes) ty v ≡ Ok x) × (x.0 ≡ id)
      by (Err c) p e = no_ok c (id ∷ []) e
      by (Ok None) p e = no_ok not_found (id ∷ []) e
      by (Ok (Some i)) p e = next i p (id_of (step.Key m bytes) i v) refl e

  pub step_gone : (s : Step) → place (s ∷ []) ty v ≡ Ok (id ∷ []) → walked (s ∷ []) ty w ≡ Err not_found
  step_gone (step.Id m) e = by_id_gone m (head_is m [] ty v id [] e)
  step_gone (step.Key m bytes) e =
      let l : (x : Part) × (reached (step.Key m bytes) ty v ≡ Ok x) × (x.0 ≡ id) = key_led m bytes e in
      ap (λ (r : Result (Option ℕ) ℕ). r >>= stepped (walked []) ty w) (by_key_gone m bytes l.0 l.1 l.2)

none_any : (p : Entry → Bool) (es : Entries) → find p es ≡ None → list_any p es ≡ false
none_any p [] e = refl
none_any p (x ∷ xs) e = by (none_any p xs) (p x) e
  where
    by : (find p xs ≡ None → list_any p xs ≡ false) → (b : Bool) → cond b (Some x) (find p xs) ≡ None → (b || list_any p xs) ≡ false
    by more true e = absurd (cc)
    by more false e = more e

bytes_own : (k : List ℕ) → bytes_eq k k ≡ true
bytes_own k = (bytes_eq-Decides k k).1 refl

module _ (n : ℕ) (id : ℕ) (ty : Ty) (v w : Value) (h : FitsIn (suc n) ty v) (t : Taken id ty v w) where
  free_of : (keys : List KeyDecl) → keys_differ (fields_of t.entry) keys (entries_of v) ≡ true → AllByRecursion (IsFree t.entry (there n id ty v w h t).item.1 w) keys
  free_of [] d = tt
  free_of (key ∷ keys) d =
      let parts : (differ_in (fields_of t.entry) (entries_of v) key ≡ true) × (keys_differ (fields_of t.entry) keys (entries_of v) ≡ true) = both _ _ d in
      let x : Found (has id) (entries_of v) t.at = there n id ty v w h t in
      let k : List ℕ = key_value (fields_of t.entry) key x.item.1 in
      let free : find (λ (e : Entry). bytes_eq (key_value (fields_of t.entry) key e.1) k) (remove (entries_of v) t.at) ≡ None =
      key_free (λ (e : Entry). key_value (fields_of t.entry) key e.1) (entries_of v) t.at x.item k parts.0 x.got (bytes_own k) in
      (none_any (λ (e : Entry). bytes_eq (key_value (fields_of t.entry) key e.1) k) (entries_of w) (ap (find (λ (e : Entry). bytes_eq (key_value (fields_of t.entry) key e.1) k)) t.left ∙ free), free_of keys parts.1)

  free_here : (array entry : Ty) (node old : Value) → walked (step.Id id ∷ []) ty v ≡ Ok (entry, old) → walked [] ty w ≡ Ok (array, node) → AllByRecursion (IsFree entry old node) (keys_of array)
  free_here array entry node old e f =
      let x : Found (has id) (entries_of v) t.at = there n id ty v w h t in
      let at : walked (step.Id id ∷ []) ty v ≡ Ok (t.entry, x.item.1) =
      walked_id id [] ty v ∙ ap (λ (r : Result Part ℕ). r >>= went_on []) (by_subscript ty t.entry t.limit t.keys t.array v id)
      ∙ ap (λ (o : Option Entry). one_entry ty t.entry t.limit t.keys t.array id o >>= went_on [])
      (sym (found_at (has id) (entries_of v)) ∙ ap (option_and_then (slice_get (entries_of v))) t.placed ∙ x.got) in
      let here : (t.entry, x.item.1) ≡ (entry, old) = ok_same (t.entry, x.item.1) (entry, old) (sym at ∙ e) in
      let there : (ty, w) ≡ (array, node) = ok_same (ty, w) (array, node) f in
      let keys : t.keys ≡ keys_of ty = sym (ap keys_layer t.array) in
      subst (λ (z : Ty × Value). AllByRecursion (IsFree entry old z.1) (keys_of z.0)) there
      (subst (AllByRecursion (IsFree entry old w)) keys (subst (λ (z : Ty × Value). AllByRecursion (IsFree z.0 z.1 w) t.keys) here (free_of t.keys (differ n id ty v w h t))))

taken_last : (id : ℕ) (ty : Ty) (v w : Value) → remove_in (by_ids (id ∷ [])) ty v ≡ Ok w → Taken id ty v w
taken_last id ty v w e = by (place_in ty v (step.Id id)) refl e
  where
    by : (r : Result (Option ℕ) ℕ) → place_in ty v (step.Id id) ≡ r → r >>= remove_at_place (remove_in []) [] ty v ≡ Ok w → Taken id ty v w
    by (Err c) p e = no_ok c w e
    by (Ok None) p e = no_ok not_found w e
    by (Ok (Some i)) p e = taken_entry id i ty v w p e

-- the place of a path has as many parts as the path has steps
none_long : {X : Type 0} (t : Step) (path : List Step) (ty : Ty) (v : Value) → place (t ∷ path) ty v ≡ Ok [] → X
none_long t path ty v e = by (place_in ty v t) e
  where
    new : {X : Type 0} (path : List Step) (t : Step) → new_place path t ≡ Ok [] → X
    new [] (step.Id m) e = absurd (cc)
    new [] (step.Key m bytes) e = no_ok not_found [] e
    new (s ∷ path) t e = no_ok not_found [] e

    last : {X : Type 0} (m : ℕ) (r : Result (List ℕ) ℕ) → (r >>= λ js. Ok (m ∷ js)) ≡ Ok [] → X
    last m (Err c) e = no_ok c [] e
    last m (Ok js) e = absurd (cc)

    part : {X : Type 0} (m : ℕ) (o : Option (Ty × Value)) → place_behind (place path) m o ≡ Ok [] → X
    part m None e = no_ok invalid_path [] e
    part m (Some x) e = last m (place path x.0 x.1) e

    named : {X : Type 0} (i : ℕ) (r : Result ℕ ℕ) → (r >>= λ m. place_behind (place path) m (part_at i ty v)) ≡ Ok [] → X
    named i (Err c) e = no_ok c [] e
    named i (Ok m) e = part m (part_at i ty v) e

    by : {X : Type 0} (r : Result (Option ℕ) ℕ) → r >>= place_from (place path) path t ty v ≡ Ok [] → X
    by (Err c) e = no_ok c [] e
    by (Ok None) e = new path t e
    by (Ok (Some i)) e = named i (id_of t i v) e

-- the first step of a path to a place below a part, where the path may be one to a part that is not there yet
record Headed (s : Step) (path : List Step) (ty : Ty) (v : Value) (id : ℕ) (ids : List ℕ) : Type 0 where
  part : Part
  went : Went s ty v part
  named : part.0 ≡ id
  place : place path part.1 part.2 ≡ Ok ids

headed : (s : Step) (path : List Step) (ty : Ty) (v : Value) (id : ℕ) (ids : List ℕ) → (new_place path s ≡ Ok (id ∷ ids) → ⊥) → place (s ∷ path) ty v ≡ Ok (id ∷ ids) → Headed s path ty v id ids
headed s path ty v id ids new e = by (place_in ty v s) refl e
  where
    last : (i : ℕ) → place_in ty v s ≡ Ok (Some i) → (n : ℕ) → id_of s i v ≡ Ok n → (o : Option (Ty × Value)) → part_at i ty v ≡ o → place_behind (place path) n o ≡ Ok (id ∷ ids) → Headed s path ty v id ids
    last i p n q None t e = no_ok invalid_path (id ∷ ids) e
    last i p n q (Some x) t e =
        let k : (n ≡ id) × (place path x.0 x.1 ≡ Ok ids) = behind_is n id (place path x.0 x.1) ids e in
        record { part = (n, x.0, x.1); went = record { at = i; placed = p; named = q; part = t }; named = k.0; place = k.1 }

    next : (i : ℕ) → place_in ty v s ≡ Ok (Some i) → (q : Result ℕ ℕ) → id_of s i v ≡ q → (q >>= λ n. place_behind (place path) n (part_at i ty v)) ≡ Ok (id ∷ ids) → Headed s path ty v id ids
    next i p (Err c) q e = no_ok c (id ∷ ids) e
    next i p (Ok n) q e = last i p n q (part_at i ty v) refl e

    by : (r : Result (Option ℕ) ℕ) → place_in ty v s ≡ r → r >>= place_from (place path) path s ty v ≡ Ok (id ∷ ids) → Headed s path ty v id ids
    by (Err c) p e = no_ok c (id ∷ ids) e
    by (Ok None) p e = absurd (new e)
    by (Ok (Some i)) p e = next i p (id_of s i v) refl e

no_new_long : (s : Step) (path : List Step) (id k : ℕ) (ids : List ℕ) → new_place path s ≡ Ok (id ∷ k ∷ ids) → ⊥
no_new_long (step.Id m) [] id k ids e = let l : ◌≡◌ {A = List ℕ} (m ∷ []) (id ∷ k ∷ ids) = ok_same (m ∷ []) (id ∷ k ∷ ids) e in absurd (cc)
no_new_long (step.Key m bytes) [] id k ids e = no_ok not_found (id ∷ k ∷ ids) e
no_new_long s (t ∷ path) id k ids e = no_ok not_found (id ∷ k ∷ ids) e

abbrev Gone : List ℕ → List Step → Type 0
Gone ids path = (n : ℕ) (ty : Ty) (v w : Value) → IsSound ty → FitsIn n ty v → remove_in (by_ids ids) ty v ≡ Ok w → place path ty v ≡ Ok ids → walked path ty w ≡ Err not_found

gone_last : (id : ℕ) (path : List Step) → Gone (id ∷ []) path
gone_last id path zero ty v w sound h r e = absurd h
gone_last id [] (suc n) ty v w sound h r e = absurd (cc)
gone_last id (s ∷ []) (suc n) ty v w sound h r e = step_gone n id ty v w h (taken_last id ty v w r) s e
gone_last id (s ∷ t ∷ path) (suc n) ty v w sound h r e =
    let l : Headed s (t ∷ path) ty v id [] = headed s (t ∷ path) ty v id [] (λ q. no_ok not_found (id ∷ []) q) e in none_long t path l.part.1 l.part.2 l.place

gone_below : (id j : ℕ) (ids : List ℕ) (s : Step) (path : List Step) → Gone (j ∷ ids) path → Gone (id ∷ j ∷ ids) (s ∷ path)
gone_below id j ids s path more zero ty v w sound h r e = absurd h
gone_below id j ids s path more (suc n) ty v w sound h r e =
    let b : Below (j ∷ ids) id ty v w = below id j ids ty v w r in
    let l : Level id ty v w b.part b.old b.new × IsSound b.part = level_below n id j ids ty v w sound h b in
    let g : Headed s path ty v id (j ∷ ids) = headed s path ty v id (j ∷ ids) (λ q. no_new_long s path id j ids q) e in
    let same : g.part ≡ (id, b.part, b.old) = same_part n id s ty b.part v b.old g.part h l.0.before g.went g.named in
    let p : place path b.part b.old ≡ Ok (j ∷ ids) = subst (λ (x : Part). place path x.1 x.2 ≡ Ok (j ∷ ids)) same g.place in
    let f : FitsIn n b.part b.old = part_fits n (step.Id id) ty v (id, b.part, b.old) h (went (step.Id id) ty v (id, b.part, b.old) l.0.before) in
    walked_by s path ty w (id, b.part, b.new) (moved n id s ty b.part v w b.old b.new g.part h l.0 (step_kept id j ids ty v w sound b s) g.went g.named)
    ∙ more n b.part b.old b.new l.1 f b.made p

pub gone : (ids : List ℕ) (path : List Step) → Gone ids path
gone [] path n ty v w sound h r e = no_ok invalid_parameters w r
gone (id ∷ []) path n ty v w sound h r e = gone_last id path n ty v w sound h r e
gone (id ∷ j ∷ ids) [] n ty v w sound h r e = absurd (cc)
gone (id ∷ j ∷ ids) (s ∷ path) n ty v w sound h r e = gone_below id j ids s path (gone (j ∷ ids) path) n ty v w sound h r e

-- ---- what is not taken out
abbrev Remains : List ℕ → List Step → Type 0
Remains ids path = (n : ℕ) (others : List ℕ) (ty : Ty) (v w : Value) (y : Ty × Value) → IsSound ty → FitsIn n ty v → remove_in (by_ids ids) ty v ≡ Ok w → are_apart ids others ≡ true
    → place path ty v ≡ Ok others → walked path ty v ≡ Ok y → (place path ty w ≡ Ok others) × (walked path ty w ≡ Ok y)

remains_last : (id : ℕ) (s : Step) (path : List Step) (j : ℕ) (others : List ℕ) (ty : Ty) (v w : Value) (y : Ty × Value) → Taken id ty v w → Led s path ty v j others y → (b : Bool) → (id == j) ≡ b
    → (if b then are_apart [] others else true) ≡ true → (place (s ∷ path) ty w ≡ Ok (j ∷ others)) × (walked (s ∷ path) ty w ≡ Ok y)
remains_last id s path j others ty v w y t l true q a = absurd (cc)
remains_last id s path j others ty v w y t l false q a = aside id s path j others ty v w y (taken_changed id ty v w t) l q

remains_below : (id k : ℕ) (ids : List ℕ) (s : Step) (path : List Step) → Remains (k ∷ ids) path → (n j : ℕ) (others : List ℕ) (ty : Ty) (v w : Value) (y : Ty × Value) → IsSound ty → FitsIn (suc n) ty v
    → remove_in (by_ids (id ∷ k ∷ ids)) ty v ≡ Ok w → Led s path ty v j others y → (b : Bool) → (id == j) ≡ b → (if b then are_apart (k ∷ ids) others else true) ≡ true
    → (place (s ∷ path) ty w ≡ Ok (j ∷ others)) × (walked (s ∷ path) ty w ≡ Ok y)
remains_below id k ids s path more n j others ty v w y sound h r l t q a = by t q a
  where
    b : Below (k ∷ ids) id ty v w
    b = below id k ids ty v w r

    lev : Level id ty v w b.part b.old b.new × IsSound b.part
    lev = level_below n id k ids ty v w sound h b

    by : (t : Bool) → (id == j) ≡ t → (if t then are_apart (k ∷ ids) others else true) ≡ true → (place (s ∷ path) ty w ≡ Ok (j ∷ others)) × (walked (s ∷ path) ty w ≡ Ok y)
    by false q a = aside id s path j others ty v w y lev.0.changed l q
    by true q a =
        along n id s path j others ty v w b.part b.old b.new y h lev.0 (eqb-true id j q) (step_kept id k ids ty v w sound b s) l
        (λ f p e. more n others b.part b.old b.new y lev.1 f b.made a p e)

pub remains : (ids : List ℕ) (path : List Step) → Remains ids path
remains [] path n others ty v w y sound h r a p e = no_ok invalid_parameters w r
remains (id ∷ ids) path n [] ty v w y sound h r a p e = absurd (cc)
remains (id ∷ ids) [] n (j ∷ others) ty v w y sound h r a p e = absurd (cc)
remains (id ∷ []) (s ∷ path) n (j ∷ others) ty v w y sound h r a p e =
    remains_last id s path j others ty v w y (taken_last id ty v w r) (led s path ty v j others y p e) (id == j) refl a
remains (id ∷ k ∷ ids) (s ∷ path) zero (j ∷ others) ty v w y sound h r a p e = absurd h
remains (id ∷ k ∷ ids) (s ∷ path) (suc n) (j ∷ others) ty v w y sound h r a p e =
    remains_below id k ids s path (remains (k ∷ ids) path) n j others ty v w y sound h r (led s path ty v j others y p e) (id == j) refl a

-- ---- the keys of the entry are free
abbrev Freed : List ℕ → Type 0
Freed front = (n id : ℕ) (ty array entry : Ty) (v w node old : Value) → FitsIn n ty v → Removed (front ++ id ∷ []) ty v w → walked (by_ids (front ++ id ∷ [])) ty v ≡ Ok (entry, old) → walked (by_ids front) ty w ≡ Ok (array, node)
    → AllByRecursion (IsFree entry old node) (keys_of array)

freed_last : (n id : ℕ) (ty array entry : Ty) (v w node old : Value) → FitsIn (suc n) ty v → ((◌≡◌ {A = List ℕ} [] []) × Taken id ty v w) ⊎ Through (Removed []) id ty v w → walked (step.Id id ∷ []) ty v ≡ Ok (entry, old)
    → walked [] ty w ≡ Ok (array, node) → AllByRecursion (IsFree entry old node) (keys_of array)
freed_last n id ty array entry v w node old h (inl l) e f = free_here n id ty v w h l.1 array entry node old e f
freed_last n id ty array entry v w node old h (inr m) e f = absurd m.4

freed_below : (k : ℕ) (front : List ℕ) → Freed front → (n id : ℕ) (ty array entry : Ty) (v w node old : Value) → FitsIn (suc n) ty v → (((front ++ id ∷ []) ≡ []) × Taken k ty v w) ⊎ Through (Removed (front ++ id ∷ [])) k ty v w
    → walked (by_ids (k ∷ front ++ id ∷ [])) ty v ≡ Ok (entry, old) → walked (by_ids (k ∷ front)) ty w ≡ Ok (array, node) → AllByRecursion (IsFree entry old node) (keys_of array)
freed_below k [] more n id ty array entry v w node old h (inl l) e f = absurd (cc)
freed_below k (j ∷ front) more n id ty array entry v w node old h (inl l) e f = absurd (cc)
freed_below k front more n id ty array entry v w node old h (inr m) e f =
    more n id m.0 array entry m.1 m.2 node old (part_fits n (step.Id k) ty v (k, m.0, m.1) h (went (step.Id k) ty v (k, m.0, m.1) m.3.before)) m.4
    (sym (walked_id k (by_ids (front ++ id ∷ [])) ty v ∙ ap (λ (r : Result Part ℕ). r >>= went_on (by_ids (front ++ id ∷ []))) m.3.before) ∙ e)
    (sym (walked_id k (by_ids front) ty w ∙ ap (λ (r : Result Part ℕ). r >>= went_on (by_ids front)) m.3.after) ∙ f)

pub freed : (front : List ℕ) → Freed front
freed [] zero id ty array entry v w node old h u e f = absurd h
freed [] (suc n) id ty array entry v w node old h u e f = freed_last n id ty array entry v w node old h u.1 e f
freed (k ∷ front) zero id ty array entry v w node old h u e f = absurd h
freed (k ∷ front) (suc n) id ty array entry v w node old h u e f = freed_below k front (freed front) n id ty array entry v w node old h u.1 e f
