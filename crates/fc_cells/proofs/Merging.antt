-- What a merge changes.
use Rattle.std.proofs.Common.{◌≡◌, ℕ, zero, suc, ◌==◌, nat_lt, Bool, true, false, ◌&&◌, List, [], ◌∷◌, ◌++◌, append_assoc, append-nil, length, position, find, slice_get, refl, sym, ap, subst, ◌∙◌, Option, Some, None, option_map, option_and_then, Result, Ok, Err, if◌then◌else◌, ◌⊎◌, inl, inr, eqb-true}
use Rattle.std.specs.List.{AllByRecursion, list_any}
use Rattle.std.specs.Ordering.{nat_cmp}
use Rattle.std.specs.FinMap.Entries.{put}
use Rattle.fc_base.specs.Answers.{◌>>=◌}
use Rattle.fc_path.specs.declared.oper.Step.{Step}
use Rattle.fc_path.specs.declared.oper.Step.TheVariants as step
use Rattle.fc_tree.specs.Finding.{entries_of, not_found, paired, place_in, walked}
use Rattle.fc_tree.specs.Merging.{limited, merge_at_place, merge_in, merged, merged_fields, merged_layer, merged_rows, with_field}
use Rattle.fc_tree.specs.Putting.{keyed, no_room}
use Rattle.fc_types.specs.Types.{field_id, field_ty, fields_layer, fields_of, is_atom}
use Rattle.fc_types.specs.declared.ty.Field.{Field}
use Rattle.fc_types.specs.declared.ty.KeyDecl.{KeyDecl}
use Rattle.fc_types.specs.declared.ty.Ty.{Ty}
use Rattle.fc_types.specs.declared.ty.Ty.TheOpen.{Ty-F}
use Rattle.fc_types.specs.declared.ty.Ty.TheViews.{out-Ty}
use Rattle.fc_types.proofs.Bools.{both, neither, was_false}
use Rattle.fc_value.specs.Fits.{FitsIn, FitsLayer}
use Rattle.fc_value.specs.Keys.{key_value, keys_differ}
use Rattle.fc_value.specs.Nodes.{changed, child, child_layer, put_at}
use Rattle.fc_value.specs.Outcomes.{invalid_tlv}
use Rattle.fc_value.specs.Reading.{full_in}
use Rattle.fc_value.specs.Sparse.{change_in, changes_in, part_layer, part_of, sparse_in, value_of}
use Rattle.fc_value.specs.Sparse as sparse
use Rattle.fc_value.specs.declared.value.Value.{Value}
use Rattle.fc_wire.specs.declared.ilvs.Ilv.{Ilv}
use Rattle.fc_cells.specs.Cells.{Node, by_ids, cell, some_cell}
use Rattle.fc_cells.specs.Places.{is_made_without, is_named, keys_of, leaves, place, some_part, spares}
use Rattle.fc_cells.proofs.Finds.{Entries, Entry, Found, In, apart, find_put_other, find_put_same, found, found_at, has, in_put, no_some, other_test, some_same, turned_test}
use Rattle.fc_cells.proofs.Steps.{Led, Part, Went, by_subscript, called, led, no_ok, numbered, ok_same, one_entry, placed_behind, reached, reached_at, reached_by, walked_id, went, went_on}
use Rattle.fc_cells.proofs.Beside.{Beside, Level, array_beside, by_field, child_beside, child_set, keyed_is, keys_kept, one_field, struct_beside}
use Rattle.fc_cells.proofs.Keeping.{key_beside, nothing_keyed}
use Rattle.fc_cells.proofs.Placing.{field_fits, group_again, part_fits}
use Rattle.fc_cells.proofs.Setting.{in_part}
use Rattle.fc_cells.proofs.Under.{Down, Keeps, Never, Through, Under, above_stays, along, aside, branch_cell, down, ids_joined}

-- the value at the place has the changes that the ILVs tell
pub record Merged (ilvs : List Ilv) (ty : Ty) (v w : Value) : Type 0 where
  pub changes : Entries
  pub read : sparse_in ty ilvs ≡ Ok changes
  pub made : merged ty changes v ≡ Ok w

abbrev pub Merges : List Ilv → List ℕ → Ty → Value → Value → Type 0
Merges ilvs = Under Never (Merged ilvs)

abbrev Made : List ℕ → Type 0
Made ids = (ilvs : List Ilv) (ty : Ty) (v w : Value) → merge_in (by_ids ids) ilvs ty v ≡ Ok w → Merges ilvs ids ty v w

merged_here : (ilvs : List Ilv) (ty : Ty) (v w : Value) (r : Result Entries ℕ) → sparse_in ty ilvs ≡ r → (r >>= λ cs. merged ty cs v) ≡ Ok w → Merged ilvs ty v w
merged_here ilvs ty v w (Err c) q e = no_ok c w e
merged_here ilvs ty v w (Ok cs) q e = record { changes = cs; read = q; made = e }

merge_step : (id : ℕ) (ids : List ℕ) → Made ids → (ilvs : List Ilv) (ty : Ty) (v w : Value) (r : Result (Option ℕ) ℕ) → place_in ty v (step.Id id) ≡ r
    → r >>= merge_at_place (merge_in (by_ids ids) ilvs) ty v ≡ Ok w → Merges ilvs (id ∷ ids) ty v w
merge_step id ids more ilvs ty v w (Err c) p e = no_ok c w e
merge_step id ids more ilvs ty v w (Ok None) p e = no_ok not_found w e
merge_step id ids more ilvs ty v w (Ok (Some i)) p e =
    let m : (t : Ty) × (c : Value) × (d : Value) × Level id ty v w t c d × (merge_in (by_ids ids) ilvs t c ≡ Ok d) = in_part (merge_in (by_ids ids) ilvs) id i ty v w p e in
    (m.3.changed, inr (m.0, m.1, m.2, m.3, more ilvs m.0 m.1 m.2 m.4))

pub merge_under : (ids : List ℕ) → Made ids
merge_under [] ilvs ty v w e = merged_here ilvs ty v w (sparse_in ty ilvs) refl e
merge_under (id ∷ ids) ilvs ty v w e = merge_step id ids (merge_under ids) ilvs ty v w (place_in ty v (step.Id id)) refl e

-- ---- the changes that ILVs tell
abbrev pub Tells : Ty → Ilv → Entry → Type 0
Tells ty ilv c = (part : Ty) × (part_of ty ilv.ident ≡ Some part) × (full_in part ilv.value ≡ Ok c.1)

abbrev pub Told : Ty → Entries → List Ilv → Entries → Type 0
Told ty before [] [] = Unit {0}
Told ty before [] (c ∷ cs) = ⊥
Told ty before (ilv ∷ ilvs) [] = ⊥
Told ty before (ilv ∷ ilvs) (c ∷ cs) = (c.0 ≡ ilv.ident) × (sparse.is_named before ilv.ident ≡ false) × Tells ty ilv c × Told ty (before ++ c ∷ []) ilvs cs

one_told : (ty : Ty) (before : Entries) (ilv : Ilv) (u : Value) → change_in ty before ilv ≡ Ok u → (sparse.is_named before ilv.ident ≡ false) × Tells ty ilv (ilv.ident, u)
one_told ty before ilv u e = by (sparse.is_named before ilv.ident) refl e
  where
    read : (o : Option Ty) → part_of ty ilv.ident ≡ o → value_of o ilv.value ≡ Ok u → Tells ty ilv (ilv.ident, u)
    read None q e = no_ok invalid_tlv u e
    read (Some part) q e = (part, q, e)

    by : (b : Bool) → sparse.is_named before ilv.ident ≡ b → (if b then Err invalid_tlv else value_of (part_of ty ilv.ident) ilv.value) ≡ Ok u → (sparse.is_named before ilv.ident ≡ false) × Tells ty ilv (ilv.ident, u)
    by true t e = no_ok invalid_tlv u e
    by false t e = (t, read (part_of ty ilv.ident) refl e)

all_told : (ty : Ty) (ilvs : List Ilv) (before cs : Entries) → changes_in ty before ilvs ≡ Ok cs → (more : Entries) × (cs ≡ before ++ more) × Told ty before ilvs more
all_told ty [] before cs e = ([], sym (ok_same before cs e) ∙ sym (append-nil before), tt)
all_told ty (ilv ∷ ilvs) before cs e = by (λ u f. all_told ty ilvs (before ++ (ilv.ident, u) ∷ []) cs f) (change_in ty before ilv) refl e
  where
    by : ((u : Value) → changes_in ty (before ++ (ilv.ident, u) ∷ []) ilvs ≡ Ok cs → (more : Entries) × (cs ≡ (before ++ (ilv.ident, u) ∷ []) ++ more) × Told ty (before ++ (ilv.ident, u) ∷ []) ilvs more)
        → (r : Result Value ℕ) → change_in ty before ilv ≡ r → (r >>= λ u. changes_in ty (before ++ (ilv.ident, u) ∷ []) ilvs) ≡ Ok cs → (more : Entries) × (cs ≡ before ++ more) × Told ty before (ilv ∷ ilvs) more
    by later (Err c) q e = no_ok c cs e
    by later (Ok u) q e =
        let l : (more : Entries) × (cs ≡ (before ++ (ilv.ident, u) ∷ []) ++ more) × Told ty (before ++ (ilv.ident, u) ∷ []) ilvs more = later u e in
        let o : (sparse.is_named before ilv.ident ≡ false) × Tells ty ilv (ilv.ident, u) = one_told ty before ilv u q in
        ((ilv.ident, u) ∷ l.0, l.1 ∙ append_assoc before ((ilv.ident, u) ∷ []) l.0, (refl, o.0, o.1, l.2))

-- the changes of a merge
pub told : (ty : Ty) (ilvs : List Ilv) (cs : Entries) → sparse_in ty ilvs ≡ Ok cs → Told ty [] ilvs cs
unfolding sparse_in
told ty ilvs cs e = by (is_atom ty) e
  where
    by : (b : Bool) → (if b then Err invalid_tlv else changes_in ty [] ilvs) ≡ Ok cs → Told ty [] ilvs cs
    by true e = no_ok invalid_tlv cs e
    by false e = let l : (more : Entries) × (cs ≡ more) × Told ty [] ilvs more = all_told ty ilvs [] cs e in subst (Told ty [] ilvs) (sym l.1) l.2

abbrev Unnamed : Entries → ℕ → Type 0
Unnamed cs j = AllByRecursion (λ (c : Entry). (c.0 == j) ≡ false) cs

unnamed : (ty : Ty) (j : ℕ) (ilvs : List Ilv) (before cs : Entries) → Told ty before ilvs cs → is_named ilvs j ≡ false → Unnamed cs j
unnamed ty j [] before [] t n = tt
unnamed ty j [] before (c ∷ cs) t n = absurd t
unnamed ty j (ilv ∷ ilvs) before [] t n = absurd t
unnamed ty j (ilv ∷ ilvs) before (c ∷ cs) t n = by (λ m. unnamed ty j ilvs (before ++ c ∷ []) cs t.3 m) (ilv.ident == j) refl n
  where
    by : (is_named ilvs j ≡ false → Unnamed cs j) → (b : Bool) → (ilv.ident == j) ≡ b → (if b then true else is_named ilvs j) ≡ false → Unnamed (c ∷ cs) j
    by more true s n = absurd (cc)
    by more false s n = (ap (λ (k : ℕ). k == j) t.0 ∙ s, more n)

-- no change has the ID of one before it
in_any : (j : ℕ) (before : Entries) (b : Entry) → sparse.is_named before j ≡ false → In b before → (j == b.0) ≡ false
in_any j [] b n h = absurd h
in_any j (x ∷ xs) b n (inl s) = let parts : ((j == x.0) ≡ false) × (list_any (λ (c : Entry). j == c.0) xs ≡ false) = neither _ _ n in ap (λ (z : Entry). j == z.0) (sym s) ∙ parts.0
in_any j (x ∷ xs) b n (inr h) = let parts : ((j == x.0) ≡ false) × (list_any (λ (c : Entry). j == c.0) xs ≡ false) = neither _ _ n in in_any j xs b parts.1 h

in_front : (b : Entry) (xs ys : Entries) → In b xs → In b (xs ++ ys)
in_front b [] ys h = absurd h
in_front b (x ∷ xs) ys (inl s) = inl s
in_front b (x ∷ xs) ys (inr h) = inr (in_front b xs ys h)

in_last : (b : Entry) (xs : Entries) → In b (xs ++ b ∷ [])
in_last b [] = inl refl
in_last b (x ∷ xs) = inr (in_last b xs)

later_differ : (ty : Ty) (b : Entry) (ilvs : List Ilv) (before cs : Entries) → Told ty before ilvs cs → In b before → Unnamed cs b.0
later_differ ty b [] before [] t h = tt
later_differ ty b [] before (c ∷ cs) t h = absurd t
later_differ ty b (ilv ∷ ilvs) before [] t h = absurd t
later_differ ty b (ilv ∷ ilvs) before (c ∷ cs) t h =
    (ap (λ (k : ℕ). k == b.0) t.0 ∙ in_any ilv.ident before b t.1 h, later_differ ty b ilvs (before ++ c ∷ []) cs t.3 (in_front b before (c ∷ []) h))

-- ---- entries
rows_other : (cs es : Entries) (j : ℕ) → Unnamed cs j → find (has j) (merged_rows cs es) ≡ find (has j) es
rows_other [] es j n = refl
rows_other (c ∷ cs) es j n = find_put_other (merged_rows cs es) c.0 j c.1 n.0 ∙ rows_other cs es j n.1

rows_in : (cs es : Entries) (e : Entry) → Unnamed cs e.0 → In e es → In e (merged_rows cs es)
rows_in [] es e n h = h
rows_in (c ∷ cs) es e n h = in_put (merged_rows cs es) c.0 c.1 e (rows_in cs es e n.1 h) n.0

limited_is : (limit : ℕ) (fields : List Field) (keys : List KeyDecl) (es : Entries) (w : Value) → limited limit fields keys es ≡ Ok w → (keys_differ fields keys es ≡ true) × (entries_of w ≡ es)
limited_is limit fields keys es w e = by (nat_lt limit (length es)) e
  where
    by : (b : Bool) → (if b then Err no_room else keyed fields keys es) ≡ Ok w → (keys_differ fields keys es ≡ true) × (entries_of w ≡ es)
    by true e = no_ok no_room w e
    by false e = keyed_is fields keys es w e

-- ---- fields
differ_called : (id j : ℕ) → (id == j) ≡ false → (f : Field) → called id f ≡ true → called j f ≡ false
differ_called id j f g t = other_test (field_id g) id j (eqb-true (field_id g) id t) f

module _ (fields : List Field) (j k : ℕ) (at : position (called j) fields ≡ Some k) where
  field_other : (id : ℕ) (u x : Value) → (id == j) ≡ false → (o : Option ℕ) → position (called id) fields ≡ o → child k (with_field o u x) ≡ child k x
  field_other id u x f None e = refl
  field_other id u x f (Some i) e = by (child i x)
    where
      by : (c : Option Value) → child k (changed (λ c. put_at c [] u) i x c) ≡ child k x
      by None = refl
      by (Some c) = child_beside x i k u (apart (called id) (called j) fields i k (differ_called id j f) e at)

  fields_other : (cs : Entries) (v : Value) → Unnamed cs j → child k (merged_fields fields cs v) ≡ child k v
  fields_other [] v n = refl
  fields_other (c ∷ cs) v n = field_other c.0 c.1 (merged_fields fields cs v) n.0 (position (called c.0) fields) refl ∙ fields_other cs v n.1

  -- a field that is there is there after changes
  field_there : (id : ℕ) (u x d : Value) → child k x ≡ Some d → (o : Option ℕ) → position (called id) fields ≡ o → (c : Value) × (child k (with_field o u x) ≡ Some c)
  field_there id u x d h None e = (d, h)
  field_there id u x d h (Some i) e = by (id == j) refl
    where
      beside : (f : (id == j) ≡ false) → (c : Value) × (child k (with_field (Some i) u x) ≡ Some c)
      beside f = (d, field_other id u x f (Some i) e ∙ h)

      by : (b : Bool) → (id == j) ≡ b → (c : Value) × (child k (with_field (Some i) u x) ≡ Some c)
      by false f = beside f
      by true s =
          let same : i ≡ k = some_same i k (sym e ∙ ap (λ (m : ℕ). position (called m) fields) (eqb-true id j s) ∙ at) in
          (u, ap (λ (m : ℕ). child k (with_field (Some m) u x)) same ∙ ap (λ (c : Option Value). child k (changed (λ c. put_at c [] u) k x c)) h ∙ child_set x k u d h)

  fields_there : (cs : Entries) (v d : Value) → child k v ≡ Some d → (c : Value) × (child k (merged_fields fields cs v) ≡ Some c)
  fields_there [] v d h = (d, h)
  fields_there (c ∷ cs) v d h =
      let m : (x : Value) × (child k (merged_fields fields cs v) ≡ Some x) = fields_there cs v d h in
      field_there c.0 c.1 (merged_fields fields cs v) m.0 m.1 (position (called c.0) fields) refl

  -- the change of the field itself
  field_own : (cs : Entries) (u v d : Value) → child k v ≡ Some d → child k (merged_fields fields ((j, u) ∷ cs) v) ≡ Some u
  field_own cs u v d h =
      let m : (x : Value) × (child k (merged_fields fields cs v) ≡ Some x) = fields_there cs v d h in
      ap (λ (o : Option ℕ). child k (with_field o u (merged_fields fields cs v))) at
      ∙ ap (λ (c : Option Value). child k (changed (λ c. put_at c [] u) k (merged_fields fields cs v) c)) m.1 ∙ child_set (merged_fields fields cs v) k u m.0 m.1

-- ---- beside what is named
pub merged_beside : (ilvs : List Ilv) (ty : Ty) (v w : Value) → Merged ilvs ty v w → Beside (is_named ilvs) ty v w
unfolding merged
merged_beside ilvs ty v w m = by (out-Ty ty) refl
  where
    names : (j : ℕ) → is_named ilvs j ≡ false → Unnamed m.changes j
    names j n = unnamed ty j ilvs [] m.changes (told ty ilvs m.changes m.read) n

    none : (l : Ty-F Ty Field) → out-Ty ty ≡ l → merged_layer m.changes v l ≡ Err invalid_tlv → Beside (is_named ilvs) ty v w
    none l q r = no_ok invalid_tlv w (sym r ∙ ap (merged_layer m.changes v) (sym q) ∙ m.made)

    by : (l : Ty-F Ty Field) → out-Ty ty ≡ l → Beside (is_named ilvs) ty v w
    by Ty-F.Bool q = none Ty-F.Bool q refl
    by (Ty-F.Number b g min max) q = none (Ty-F.Number b g min max) q refl
    by (Ty-F.String n) q = none (Ty-F.String n) q refl
    by (Ty-F.Octets n) q = none (Ty-F.Octets n) q refl
    by (Ty-F.Bytes n) q = none (Ty-F.Bytes n) q refl
    by (Ty-F.Struct fields) q =
        let same : merged_fields fields m.changes v ≡ w = ok_same (merged_fields fields m.changes v) w (sym (ap (merged_layer m.changes v) q) ∙ m.made) in
        struct_beside ty fields q (is_named ilvs) v w (λ j n k at. ap (child k) (sym same) ∙ fields_other fields j k at m.changes v (names j n))
    by (Ty-F.Array entry limit keys) q =
        let k : (keys_differ (fields_of entry) keys (merged_rows m.changes (entries_of v)) ≡ true) × (entries_of w ≡ merged_rows m.changes (entries_of v)) =
        limited_is limit (fields_of entry) keys (merged_rows m.changes (entries_of v)) w (sym (ap (merged_layer m.changes v) q) ∙ m.made) in
        array_beside ty entry limit keys q (is_named ilvs) v w (λ j n. ap (find (has j)) k.1 ∙ rows_other m.changes (entries_of v) j (names j n))
        (keys_kept ty entry limit keys q (is_named ilvs) (entries_of v) (entries_of w) (ap (keys_differ (fields_of entry) keys) k.1 ∙ k.0)
        (λ e n h. subst (In e) (sym k.1) (rows_in m.changes (entries_of v) e (names e.0 n) h)))

-- ---- what is named
abbrev IsPut : Ty → Value → Ilv → Type 0
IsPut ty w ilv = (part : Ty) × (node : Value) × (reached (step.Id ilv.ident) ty w ≡ Ok (ilv.ident, part, node)) × (full_in part ilv.value ≡ Ok node)

-- each change stands where it is told
abbrev Stand : Ty → Value → Entries → Type 0
Stand ty w cs = AllByRecursion (λ (c : Entry). (part : Ty) → part_of ty c.0 ≡ Some part → reached (step.Id c.0) ty w ≡ Ok (c.0, part, c.1)) cs

puts_from : (ty : Ty) (w : Value) (ilvs : List Ilv) (before cs : Entries) → Told ty before ilvs cs → Stand ty w cs → AllByRecursion (IsPut ty w) ilvs
puts_from ty w [] before [] t s = tt
puts_from ty w [] before (c ∷ cs) t s = absurd t
puts_from ty w (ilv ∷ ilvs) before [] t s = absurd t
puts_from ty w (ilv ∷ ilvs) before (c ∷ cs) t s =
    let r : reached (step.Id c.0) ty w ≡ Ok (c.0, t.2.0, c.1) = s.0 t.2.0 (ap (part_of ty) t.0 ∙ t.2.1) in
    ((t.2.0, c.1, subst (λ (k : ℕ). reached (step.Id k) ty w ≡ Ok (k, t.2.0, c.1)) t.0 r, t.2.2), puts_from ty w ilvs (before ++ c ∷ []) cs t.3 s.1)

-- each change is found among the merged entries
rows_stand : (ty : Ty) (es : Entries) (ilvs : List Ilv) (before cs : Entries) → Told ty before ilvs cs → AllByRecursion (λ (c : Entry). find (has c.0) (merged_rows cs es) ≡ Some c) cs
rows_stand ty es [] before [] t = tt
rows_stand ty es [] before (c ∷ cs) t = absurd t
rows_stand ty es (ilv ∷ ilvs) before [] t = absurd t
rows_stand ty es (ilv ∷ ilvs) before (c ∷ cs) t =
    (find_put_same (merged_rows cs es) c.0 c.1, later cs (later_differ ty c ilvs (before ++ c ∷ []) cs t.3 (in_last c before)) (rows_stand ty es ilvs (before ++ c ∷ []) cs t.3))
  where
    later : (xs : Entries) → Unnamed xs c.0 → AllByRecursion (λ (x : Entry). find (has x.0) (merged_rows cs es) ≡ Some x) xs → AllByRecursion (λ (x : Entry). find (has x.0) (put nat_cmp c.0 c.1 (merged_rows cs es)) ≡ Some x) xs
    later [] n s = tt
    later (x ∷ xs) n s = (find_put_other (merged_rows cs es) c.0 x.0 c.1 (turned_test c.0 x.0 ∙ n.0) ∙ s.0, later xs n.1 s.1)

array_stands : (ty entry : Ty) (limit : ℕ) (keys : List KeyDecl) → out-Ty ty ≡ Ty-F.Array entry limit keys → (w : Value) (fs : Entries) → entries_of w ≡ fs → (cs : Entries)
    → AllByRecursion (λ (c : Entry). find (has c.0) fs ≡ Some c) cs → Stand ty w cs
array_stands ty entry limit keys q w fs e [] s = tt
array_stands ty entry limit keys q w fs e (c ∷ cs) s = (one, array_stands ty entry limit keys q w fs e cs s.1)
  where
    one : (part : Ty) → part_of ty c.0 ≡ Some part → reached (step.Id c.0) ty w ≡ Ok (c.0, part, c.1)
    one part p =
        let same : entry ≡ part = some_same entry part (sym (ap (λ l. part_layer l c.0) q) ∙ p) in
        by_subscript ty entry limit keys q w c.0 ∙ ap (one_entry ty entry limit keys q c.0) (ap (find (has c.0)) e ∙ s.0) ∙ ap (λ (t : Ty). Ok (c.0, t, c.1)) same

-- the field that a change names
abbrev HasKids : List Field → Value → Type 0
HasKids fields v = (j k : ℕ) → position (called j) fields ≡ Some k → (c : Value) × (child k v ≡ Some c)

abbrev FieldsStand : List Field → Value → Entries → Type 0
FieldsStand fields w cs = AllByRecursion (λ (c : Entry). (k : ℕ) → position (called c.0) fields ≡ Some k → child k w ≡ Some c.1) cs

fields_stand : (ty : Ty) (fields : List Field) (v : Value) → HasKids fields v → (ilvs : List Ilv) (before cs : Entries) → Told ty before ilvs cs → FieldsStand fields (merged_fields fields cs v) cs
fields_stand ty fields v kids [] before [] t = tt
fields_stand ty fields v kids [] before (c ∷ cs) t = absurd t
fields_stand ty fields v kids (ilv ∷ ilvs) before [] t = absurd t
fields_stand ty fields v kids (ilv ∷ ilvs) before (c ∷ cs) t =
    (own, later cs (later_differ ty c ilvs (before ++ c ∷ []) cs t.3 (in_last c before)) (fields_stand ty fields v kids ilvs (before ++ c ∷ []) cs t.3))
  where
    own : (k : ℕ) → position (called c.0) fields ≡ Some k → child k (merged_fields fields (c ∷ cs) v) ≡ Some c.1
    own k at = let d : (d : Value) × (child k v ≡ Some d) = kids c.0 k at in field_own fields c.0 k at cs c.1 v d.0 d.1

    later : (xs : Entries) → Unnamed xs c.0 → FieldsStand fields (merged_fields fields cs v) xs → FieldsStand fields (merged_fields fields (c ∷ cs) v) xs
    later [] n s = tt
    later (x ∷ xs) n s = (λ k at. field_other fields x.0 k at c.0 c.1 (merged_fields fields cs v) (turned_test c.0 x.0 ∙ n.0) (position (called c.0) fields) refl ∙ s.0 k at, later xs n.1 s.1)

struct_stands : (ty : Ty) (fields : List Field) → out-Ty ty ≡ Ty-F.Struct fields → (w : Value) (cs : Entries) → FieldsStand fields w cs → Stand ty w cs
struct_stands ty fields q w [] s = tt
struct_stands ty fields q w (c ∷ cs) s = (one, struct_stands ty fields q w cs s.1)
  where
    one : (part : Ty) → part_of ty c.0 ≡ Some part → reached (step.Id c.0) ty w ≡ Ok (c.0, part, c.1)
    one part p = by_field ty fields q w c.0 ∙ by (position (called c.0) fields) refl
      where
        known : option_map field_ty (find (called c.0) fields) ≡ Some part
        known = sym (ap (λ l. part_layer l c.0) q) ∙ p

        by : (o : Option ℕ) → position (called c.0) fields ≡ o → one_field ty fields q w c.0 o ≡ Ok (c.0, part, c.1)
        by None e = no_some part (sym (ap (option_map field_ty) (sym (found_at (called c.0) fields) ∙ ap (option_and_then (slice_get fields)) e)) ∙ known)
        by (Some i) e =
            let t : option_map field_ty (slice_get fields i) ≡ Some part =
            ap (option_map field_ty) (sym (ap (option_and_then (slice_get fields)) e) ∙ found_at (called c.0) fields) ∙ known in
            ap (λ (a : Option Ty). reached_at c.0 (paired a (child i w))) t ∙ ap (λ (b : Option Value). reached_at c.0 (paired (Some part) b)) (s.0 i e)

struct_kids : (n : ℕ) (fields : List Field) (v : Value) → FitsLayer (FitsIn n) (Ty-F.Struct fields) v → HasKids fields v
struct_kids n fields v h = λ j k at.
    let f : Found (called j) fields k = found (called j) fields k at in
    let c : (c : Value) × (slice_get h.0 k ≡ Some c) × FitsIn n (field_ty f.item) c = field_fits n fields h.0 k f.item h.2 f.got in
    (c.0, ap (child k) h.1 ∙ ap (child_layer k) (group_again h.0) ∙ c.1)

merged_puts : (n : ℕ) (ilvs : List Ilv) (ty : Ty) (v w : Value) → FitsIn n ty v → Merged ilvs ty v w → AllByRecursion (IsPut ty w) ilvs
unfolding merged
merged_puts zero ilvs ty v w h m = absurd h
merged_puts (suc n) ilvs ty v w h m = puts_from ty w ilvs [] m.changes tells (by (out-Ty ty) refl h)
  where
    tells : Told ty [] ilvs m.changes
    tells = told ty ilvs m.changes m.read

    none : (l : Ty-F Ty Field) → out-Ty ty ≡ l → merged_layer m.changes v l ≡ Err invalid_tlv → Stand ty w m.changes
    none l q r = no_ok invalid_tlv w (sym r ∙ ap (merged_layer m.changes v) (sym q) ∙ m.made)

    by : (l : Ty-F Ty Field) → out-Ty ty ≡ l → FitsLayer (FitsIn n) l v → Stand ty w m.changes
    by Ty-F.Bool q h = none Ty-F.Bool q refl
    by (Ty-F.Number b g min max) q h = none (Ty-F.Number b g min max) q refl
    by (Ty-F.String k) q h = none (Ty-F.String k) q refl
    by (Ty-F.Octets k) q h = none (Ty-F.Octets k) q refl
    by (Ty-F.Bytes k) q h = none (Ty-F.Bytes k) q refl
    by (Ty-F.Struct fields) q h =
        let same : merged_fields fields m.changes v ≡ w = ok_same (merged_fields fields m.changes v) w (sym (ap (merged_layer m.changes v) q) ∙ m.made) in
        struct_stands ty fields q w m.changes (subst (λ (x : Value). FieldsStand fields x m.changes) same (fields_stand ty fields v (struct_kids n fields v h) ilvs [] m.changes tells))
    by (Ty-F.Array entry limit keys) q h =
        let k : (keys_differ (fields_of entry) keys (merged_rows m.changes (entries_of v)) ≡ true) × (entries_of w ≡ merged_rows m.changes (entries_of v)) =
        limited_is limit (fields_of entry) keys (merged_rows m.changes (entries_of v)) w (sym (ap (merged_layer m.changes v) q) ∙ m.made) in
        array_stands ty entry limit keys q w (merged_rows m.changes (entries_of v)) k.1 m.changes (rows_stand ty (entries_of v) ilvs [] m.changes tells)

-- ---- the laws
-- what an ILV puts at its place
abbrev pub PutBelow : List ℕ → Ty → Value → Ilv → Type 0
PutBelow ids ty w ilv = (part : Ty) × (node : Value) × (walked (by_ids (ids ++ ilv.ident ∷ [])) ty w ≡ Ok (part, node)) × (full_in part ilv.value ≡ Ok node)

put_first : (ty : Ty) (w : Value) (ilvs : List Ilv) → AllByRecursion (IsPut ty w) ilvs → AllByRecursion (PutBelow [] ty w) ilvs
put_first ty w [] p = tt
put_first ty w (ilv ∷ ilvs) p =
    ((p.0.0, p.0.1, walked_id ilv.ident [] ty w ∙ ap (λ (r : Result Part ℕ). r >>= went_on []) p.0.2, p.0.3), put_first ty w ilvs p.1)

put_later : (id : ℕ) (ids : List ℕ) (ty t : Ty) (w d : Value) → reached (step.Id id) ty w ≡ Ok (id, t, d) → (ilvs : List Ilv) → AllByRecursion (PutBelow ids t d) ilvs → AllByRecursion (PutBelow (id ∷ ids) ty w) ilvs
put_later id ids ty t w d r [] p = tt
put_later id ids ty t w d r (ilv ∷ ilvs) p =
    ((p.0.0, p.0.1, walked_id id (by_ids (ids ++ ilv.ident ∷ [])) ty w ∙ ap (λ (q : Result Part ℕ). q >>= went_on (by_ids (ids ++ ilv.ident ∷ []))) r ∙ p.0.2, p.0.3), put_later id ids ty t w d r ilvs p.1)

pub puts_are_found : (n : ℕ) (ids : List ℕ) (ilvs : List Ilv) (ty : Ty) (v w : Value) → FitsIn n ty v → Merges ilvs ids ty v w → AllByRecursion (PutBelow ids ty w) ilvs
puts_are_found n [] ilvs ty v w h u = put_first ty w ilvs (merged_puts n ilvs ty v w h u)
puts_are_found zero (id ∷ ids) ilvs ty v w h u = absurd h
puts_are_found (suc n) (id ∷ ids) ilvs ty v w h u = by (λ t c d f m. puts_are_found n ids ilvs t c d f m) u.1
  where
    by : ((t : Ty) (c d : Value) → FitsIn n t c → Merges ilvs ids t c d → AllByRecursion (PutBelow ids t d) ilvs) → ((ids ≡ []) × ⊥) ⊎ Through (Merges ilvs ids) id ty v w → AllByRecursion (PutBelow (id ∷ ids) ty w) ilvs
    by more (inl l) = absurd l.1
    by more (inr m) =
        put_later id ids ty m.0 w m.2 m.3.after ilvs (more m.0 m.1 m.2 (part_fits n (step.Id id) ty v (id, m.0, m.1) h (went (step.Id id) ty v (id, m.0, m.1) m.3.before)) m.4)

pub unnamed_stay : (ids : List ℕ) (ilvs : List Ilv) (id : ℕ) (others : List ℕ) (ty : Ty) (v w : Value) → Merges ilvs ids ty v w → is_named ilvs id ≡ false
    → walked (by_ids (ids ++ id ∷ others)) ty w ≡ walked (by_ids (ids ++ id ∷ others)) ty v
unnamed_stay ids ilvs id others ty v w u n =
    let d : Down (Merged ilvs) ids ty v w = down (Merged ilvs) ids ty v w u in
    let b : Beside (is_named ilvs) d.part d.old d.new = merged_beside ilvs d.part d.old d.new d.end in
    ap (λ (path : List Step). walked path ty w) (ids_joined ids (id ∷ others)) ∙ d.after (by_ids (id ∷ others)) ∙ walked_id id (by_ids others) d.part d.new
    ∙ ap (λ (r : Result Part ℕ). r >>= went_on (by_ids others)) (b.stay.ids id n) ∙ sym (walked_id id (by_ids others) d.part d.old) ∙ sym (d.before (by_ids (id ∷ others)))
    ∙ sym (ap (λ (path : List Step). walked path ty v) (ids_joined ids (id ∷ others)))

-- a key that is made of fields that are not named
with_kept : (fields : List Field) (key : KeyDecl) (id : ℕ) (u x : Value) → list_any (λ field. field == id) key.fields ≡ false → (o : Option ℕ) → position (called id) fields ≡ o
    → key_value fields key (with_field o u x) ≡ key_value fields key x
with_kept fields key id u x n None e = refl
with_kept fields key id u x n (Some i) e = by (child i x)
  where
    by : (c : Option Value) → key_value fields key (changed (λ c. put_at c [] u) i x c) ≡ key_value fields key x
    by None = refl
    by (Some c) = key_beside fields id i u e key n x

abbrev MadeWithout : KeyDecl → List Ilv → Type 0
MadeWithout key ilvs = AllByRecursion (λ (ilv : Ilv). list_any (λ field. field == ilv.ident) key.fields ≡ false) ilvs

fields_kept : (ty : Ty) (fields : List Field) (key : KeyDecl) (v : Value) (ilvs : List Ilv) (before cs : Entries) → Told ty before ilvs cs → MadeWithout key ilvs
    → key_value fields key (merged_fields fields cs v) ≡ key_value fields key v
fields_kept ty fields key v [] before [] t n = refl
fields_kept ty fields key v [] before (c ∷ cs) t n = absurd t
fields_kept ty fields key v (ilv ∷ ilvs) before [] t n = absurd t
fields_kept ty fields key v (ilv ∷ ilvs) before (c ∷ cs) t n =
    with_kept fields key c.0 c.1 (merged_fields fields cs v) (ap (λ (k : ℕ). list_any (λ field. field == k) key.fields) t.0 ∙ n.0) (position (called c.0) fields) refl
    ∙ fields_kept ty fields key v ilvs (before ++ c ∷ []) cs t.3 n.1

merged_kept : (ilvs : List Ilv) (ty : Ty) (v w : Value) → Merged ilvs ty v w → (key : KeyDecl) → MadeWithout key ilvs → key_value (fields_of ty) key w ≡ key_value (fields_of ty) key v
unfolding merged
merged_kept ilvs ty v w m key n = by (out-Ty ty) refl
  where
    none : (l : Ty-F Ty Field) → out-Ty ty ≡ l → fields_layer l ≡ [] → key_value (fields_of ty) key w ≡ key_value (fields_of ty) key v
    none l q r =
        let empty : fields_of ty ≡ [] = ap fields_layer q ∙ r in
        ap (λ (fs : List Field). key_value fs key w) empty ∙ nothing_keyed key w ∙ sym (ap (λ (fs : List Field). key_value fs key v) empty ∙ nothing_keyed key v)

    by : (l : Ty-F Ty Field) → out-Ty ty ≡ l → key_value (fields_of ty) key w ≡ key_value (fields_of ty) key v
    by Ty-F.Bool q = none Ty-F.Bool q refl
    by (Ty-F.Number b g min max) q = none (Ty-F.Number b g min max) q refl
    by (Ty-F.String k) q = none (Ty-F.String k) q refl
    by (Ty-F.Octets k) q = none (Ty-F.Octets k) q refl
    by (Ty-F.Bytes k) q = none (Ty-F.Bytes k) q refl
    by (Ty-F.Struct fields) q =
        let same : merged_fields fields m.changes v ≡ w = ok_same (merged_fields fields m.changes v) w (sym (ap (merged_layer m.changes v) q) ∙ m.made) in
        subst (λ (fs : List Field). key_value fs key w ≡ key_value fs key v) (sym (ap fields_layer q))
        (ap (key_value fields key) (sym same) ∙ fields_kept ty fields key v ilvs [] m.changes (told ty ilvs m.changes m.read) n)
    by (Ty-F.Array entry limit keys) q = none (Ty-F.Array entry limit keys) q refl

-- ---- paths to what is not named
-- a path leaves each place that is named
abbrev pub LeavesAll : List ℕ → List Ilv → List Step → List ℕ → Ty → Type 0
LeavesAll ids ilvs path others ty = AllByRecursion (λ (ilv : Ilv). leaves (ids ++ ilv.ident ∷ []) path others ty ≡ true) ilvs

-- at the place itself
none_left : {X : Type 0} (path : List Step) (others : List ℕ) (o : Option Ty) (b : Bool) → (b && some_part (leaves [] path others) o) ≡ true → X
none_left path others None true e = absurd (cc)
none_left path others None false e = absurd (cc)
none_left path others (Some part) true e = absurd (cc)
none_left path others (Some part) false e = absurd (cc)

others_unnamed : (s : Step) (path : List Step) (j : ℕ) (others : List ℕ) (ty : Ty) (ilvs : List Ilv) → LeavesAll [] ilvs (s ∷ path) (j ∷ others) ty → is_named ilvs j ≡ false
others_unnamed s path j others ty [] a = refl
others_unnamed s path j others ty (ilv ∷ ilvs) a = by (others_unnamed s path j others ty ilvs a.1) (ilv.ident == j) a.0
  where
    by : is_named ilvs j ≡ false → (b : Bool) → (if b then spares ty s [] && some_part (leaves [] path others) (part_of ty ilv.ident) else true) ≡ true → (if b then true else is_named ilvs j) ≡ false
    by more true e = none_left path others (part_of ty ilv.ident) (spares ty s []) e
    by more false e = more

-- further on the way
parted : (id j : ℕ) (ids : List ℕ) (s : Step) (path : List Step) (others : List ℕ) (ty : Ty) (ilvs : List Ilv) → (id == j) ≡ true → LeavesAll (id ∷ ids) ilvs (s ∷ path) (j ∷ others) ty
    → AllByRecursion (λ (ilv : Ilv). (spares ty s (ids ++ ilv.ident ∷ []) && some_part (leaves (ids ++ ilv.ident ∷ []) path others) (part_of ty id)) ≡ true) ilvs
parted id j ids s path others ty [] t a = tt
parted id j ids s path others ty (ilv ∷ ilvs) t a =
    (sym (ap (λ (b : Bool). if b then spares ty s (ids ++ ilv.ident ∷ []) && some_part (leaves (ids ++ ilv.ident ∷ []) path others) (part_of ty id) else true) t) ∙ a.0, parted id j ids s path others ty ilvs t a.1)

leaves_later : (ids : List ℕ) (s : Step) (path : List Step) (others : List ℕ) (ty t : Ty) (o : Option Ty) → o ≡ Some t → (ilvs : List Ilv)
    → AllByRecursion (λ (ilv : Ilv). (spares ty s (ids ++ ilv.ident ∷ []) && some_part (leaves (ids ++ ilv.ident ∷ []) path others) o) ≡ true) ilvs → LeavesAll ids ilvs path others t
leaves_later ids s path others ty t o e [] a = tt
leaves_later ids s path others ty t o e (ilv ∷ ilvs) a =
    let parts : (spares ty s (ids ++ ilv.ident ∷ []) ≡ true) × (some_part (leaves (ids ++ ilv.ident ∷ []) path others) o ≡ true) = both _ _ a.0 in
    (sym (ap (some_part (leaves (ids ++ ilv.ident ∷ []) path others)) e) ∙ parts.1, leaves_later ids s path others ty t o e ilvs a.1)

spared : (m : ℕ) (bytes : List ℕ) (path : List Step) (others : List ℕ) (ty : Ty) (o : Option Ty) (key : KeyDecl) → find (numbered m) (keys_of ty) ≡ Some key → (ilvs : List Ilv)
    → AllByRecursion (λ (ilv : Ilv). (spares ty (step.Key m bytes) (ilv.ident ∷ []) && some_part (leaves (ilv.ident ∷ []) path others) o) ≡ true) ilvs → MadeWithout key ilvs
spared m bytes path others ty o key is [] a = tt
spared m bytes path others ty o key is (ilv ∷ ilvs) a =
    let parts : (spares ty (step.Key m bytes) (ilv.ident ∷ []) ≡ true) × (some_part (leaves (ilv.ident ∷ []) path others) o ≡ true) = both _ _ a.0 in
    (was_false _ (sym (ap (λ (k : Option KeyDecl). is_made_without k ilv.ident) is) ∙ parts.0), spared m bytes path others ty o key is ilvs a.1)

merge_keeps : (first : Ilv) (more : List Ilv) (ids : List ℕ) (s : Step) (path : List Step) (others : List ℕ) (ty t : Ty) (v w c d : Value) (o : Option Ty) → Merges (first ∷ more) ids t c d
    → AllByRecursion (λ (ilv : Ilv). (spares ty s (ids ++ ilv.ident ∷ []) && some_part (leaves (ids ++ ilv.ident ∷ []) path others) o) ≡ true) (first ∷ more) → Keeps ty s t c d
merge_keeps first more ids (step.Id m) path others ty t v w c d o u a = tt
merge_keeps first more [] (step.Key m bytes) path others ty t v w c d o u a = λ key is. merged_kept (first ∷ more) t c d u key (spared m bytes path others ty o key is (first ∷ more) a)
merge_keeps first more (f ∷ ids) (step.Key m bytes) path others ty t v w c d o u a =
    let parts : (spares ty (step.Key m bytes) (f ∷ ids ++ first.ident ∷ []) ≡ true) × (some_part (leaves (f ∷ ids ++ first.ident ∷ []) path others) o ≡ true) = both _ _ a.0 in
    λ key is. u.0.kept key (was_false _ (sym (ap (λ (k : Option KeyDecl). is_made_without k f) is) ∙ parts.0))

abbrev Unmoved : List ℕ → List Step → Type 0
Unmoved ids path = (n : ℕ) (first : Ilv) (more : List Ilv) (others : List ℕ) (ty : Ty) (v w : Value) (y : Ty × Value) → FitsIn n ty v → Merges (first ∷ more) ids ty v w → place path ty v ≡ Ok others → walked path ty v ≡ Ok y
    → LeavesAll ids (first ∷ more) path others ty → (place path ty w ≡ Ok others) × (walked path ty w ≡ Ok y)

unmoved_here : (ilvs : List Ilv) (s : Step) (path : List Step) (j : ℕ) (others : List ℕ) (ty : Ty) (v w : Value) (y : Ty × Value) → Merged ilvs ty v w → Led s path ty v j others y → is_named ilvs j ≡ false
    → (place (s ∷ path) ty w ≡ Ok (j ∷ others)) × (walked (s ∷ path) ty w ≡ Ok y)
unmoved_here ilvs s path j others ty v w y m l n =
    let b : Beside (is_named ilvs) ty v w = merged_beside ilvs ty v w m in
    let there : Went s ty w l.part = went s ty w l.part (b.stay.steps s l.part (ap (is_named ilvs) l.named ∙ n) (reached_by s ty v l.part l.went)) in
    placed_behind s path ty w l.part j others y there l.named l.place l.walked

unmoved_step : (id : ℕ) (ids : List ℕ) (s : Step) (path : List Step) → Unmoved ids path → (n : ℕ) (first : Ilv) (more : List Ilv) (j : ℕ) (others : List ℕ) (ty : Ty) (v w : Value) (y : Ty × Value) → FitsIn (suc n) ty v
    → Merges (first ∷ more) (id ∷ ids) ty v w → Led s path ty v j others y → LeavesAll (id ∷ ids) (first ∷ more) (s ∷ path) (j ∷ others) ty → (b : Bool) → (id == j) ≡ b
    → (place (s ∷ path) ty w ≡ Ok (j ∷ others)) × (walked (s ∷ path) ty w ≡ Ok y)
unmoved_step id ids s path later n first more j others ty v w y h u l a false t = aside id s path j others ty v w y u.0 l t
unmoved_step id ids s path later n first more j others ty v w y h u l a true t = by u.1
  where
    on : AllByRecursion (λ (ilv : Ilv). (spares ty s (ids ++ ilv.ident ∷ []) && some_part (leaves (ids ++ ilv.ident ∷ []) path others) (part_of ty id)) ≡ true) (first ∷ more)
    on = parted id j ids s path others ty (first ∷ more) t a

    by : ((ids ≡ []) × ⊥) ⊎ Through (Merges (first ∷ more) ids) id ty v w → (place (s ∷ path) ty w ≡ Ok (j ∷ others)) × (walked (s ∷ path) ty w ≡ Ok y)
    by (inl k) = absurd k.1
    by (inr m) =
        along n id s path j others ty v w m.0 m.1 m.2 y h m.3 (eqb-true id j t) (merge_keeps first more ids s path others ty m.0 v w m.1 m.2 (part_of ty id) m.4 on) l
        (λ f p e. later n first more others m.0 m.1 m.2 y f m.4 p e (leaves_later ids s path others ty m.0 (part_of ty id) m.3.typed (first ∷ more) on))

pub unmoved : (ids : List ℕ) (path : List Step) → Unmoved ids path
unmoved [] [] n first more others ty v w y h u p e a = absurd (cc)
unmoved [] (s ∷ path) n first more [] ty v w y h u p e a = absurd (cc)
unmoved [] (s ∷ path) n first more (j ∷ others) ty v w y h u p e a =
    unmoved_here (first ∷ more) s path j others ty v w y u (led s path ty v j others y p e) (others_unnamed s path j others ty (first ∷ more) a)
unmoved (id ∷ ids) [] n first more others ty v w y h u p e a = absurd (cc)
unmoved (id ∷ ids) (s ∷ path) n first more [] ty v w y h u p e a = absurd (cc)
unmoved (id ∷ ids) (s ∷ path) zero first more (j ∷ others) ty v w y h u p e a = absurd h
unmoved (id ∷ ids) (s ∷ path) (suc n) first more (j ∷ others) ty v w y h u p e a =
    unmoved_step id ids s path (unmoved ids path) n first more j others ty v w y h u (led s path ty v j others y p e) a (id == j) refl

pub merged_above : (front ids : List ℕ) (ilvs : List Ilv) (ty : Ty) (v w : Value) → Merges ilvs (front ++ ids) ty v w → (cell front ty v ≡ Some Node) × (cell front ty w ≡ Some Node)
merged_above front (id ∷ ids) ilvs ty v w u = above_stays Never (Merged ilvs) front id ids ty v w u
merged_above front [] ilvs ty v w u =
    let d : Down (Merged ilvs) front ty v w = down (Merged ilvs) front ty v w (subst (λ (xs : List ℕ). Merges ilvs xs ty v w) (append-nil front) u) in
    let b : Beside (is_named ilvs) d.part d.old d.new = merged_beside ilvs d.part d.old d.new d.end in (
      ap some_cell (ap (λ (path : List Step). walked path ty v) (sym (append-nil (by_ids front))) ∙ d.before []) ∙ branch_cell d.part d.old b.branch,
      ap some_cell (ap (λ (path : List Step). walked path ty w) (sym (append-nil (by_ids front))) ∙ d.after []) ∙ branch_cell d.part d.new b.branch,
    )
