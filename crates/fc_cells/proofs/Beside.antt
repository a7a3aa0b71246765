-- What a change of a part leaves beside it.
use Rattle.std.proofs.Common.{◌≡◌, ℕ, zero, suc, ◌==◌, Bool, true, false, List, [], ◌∷◌, position, find, slice_get, slice_set, bytes_eq, refl, sym, ap, subst, ◌∙◌, arith, Option, Some, None, option_map, option_and_then, Result, Ok, Err, if◌then◌else◌, eqb-true}
use Rattle.std.specs.List.{list_any}
use Rattle.std.specs.Ordering.{nat_cmp}
use Rattle.std.specs.FinMap.Entries.{put}
use Rattle.fc_base.specs.Answers.{◌>>=◌}
use Rattle.fc_path.specs.declared.oper.Step.{Step}
use Rattle.fc_path.specs.declared.oper.Step.TheVariants as step
use Rattle.fc_tree.specs.Finding.{entries_layer, entries_of, invalid_path, key_in, no_component, not_found, or_code, paired, part_at, place_in, place_layer}
use Rattle.fc_tree.specs.Putting.{already_there, checked, checked_layer, created, created_layer, entered, keyed, no_room}
use Rattle.fc_types.specs.Types.{field_id, field_ty, fields_layer, fields_of, is_atom, is_atom_layer}
use Rattle.fc_types.specs.declared.ty.Field.{Field}
use Rattle.fc_types.specs.declared.ty.KeyDecl.{KeyDecl}
use Rattle.fc_types.specs.declared.ty.Ty.{Ty}
use Rattle.fc_types.specs.declared.ty.Ty.TheOpen.{Ty-F}
use Rattle.fc_types.specs.declared.ty.Ty.TheViews.{out-Ty}
use Rattle.fc_value.specs.Keys.{differ_in, key_value, keys_differ}
use Rattle.fc_value.specs.Nodes.{child, child_layer, with_child, with_child_layer, with_entry}
use Rattle.fc_value.specs.Reading.{full_in}
use Rattle.fc_value.specs.Sparse.{part_layer, part_of}
use Rattle.fc_value.specs.declared.value.Value.{Value, out-Value}
use Rattle.fc_value.specs.declared.value.Value.TheOpen.{Value-F}
use Rattle.fc_value.specs.declared.value.Value.TheVariants as value
use Rattle.fc_value.specs.declared.value.Value.TheViews.{out-roll-Value, rolls-Table}
use Rattle.fc_cells.specs.Places.{keys_layer, keys_of}
use Rattle.fc_cells.proofs.Finds.{Entries, Entry, Found, In, all_in, apart, find_distinct, find_put_other, find_put_same, find_set_other, find_set_same, found, found_at, has, in_found, in_got, in_put, in_set, no_some, other_test, some_same}
use Rattle.fc_cells.proofs.Keeping.{key_beside, nothing_keyed}
use Rattle.fc_cells.proofs.Steps.{Part, array_part, array_place, by_its_key, by_key_bytes, by_some_key, by_subscript, called, key_entry, key_of, no_ok, numbered, ok_same, one_entry, reached, reached_at, reached_from, struct_key, struct_part, struct_place}

-- ---- children
get_set : {A : Type 0} (xs : List A) (i : ℕ) (x y : A) → slice_get xs i ≡ Some y → slice_get (slice_set xs i x) i ≡ Some x
get_set [] i x y h = no_some y h
get_set (z ∷ xs) zero x y h = refl
get_set (z ∷ xs) (suc i) x y h = get_set xs i x y h

suc_suc : (i j : ℕ) → (suc i == suc j) ≡ (i == j)
suc_suc i j = grind arith

get_beside : {A : Type 0} (xs : List A) (i j : ℕ) (x : A) → (i == j) ≡ false → slice_get (slice_set xs i x) j ≡ slice_get xs j
get_beside [] i j x h = refl
get_beside (z ∷ xs) zero zero x h = cc
get_beside (z ∷ xs) zero (suc j) x h = refl
get_beside (z ∷ xs) (suc i) zero x h = refl
get_beside (z ∷ xs) (suc i) (suc j) x h = get_beside xs i j x (sym (suc_suc i j) ∙ h)

entry_set : (es : Entries) (i : ℕ) (w : Value) (o : Option Entry) (c : Value) → slice_get es i ≡ o → option_map (λ (e : Entry). e.1) o ≡ Some c
    → option_map (λ (e : Entry). e.1) (slice_get (with_entry i w es o) i) ≡ Some w
entry_set es i w None c e h = no_some c h
entry_set es i w (Some p) c e h = ap (option_map (λ (e : Entry). e.1)) (get_set es i (p.0, w) p e)

entry_beside : (es : Entries) (i j : ℕ) (w : Value) (o : Option Entry) → (i == j) ≡ false → slice_get (with_entry i w es o) j ≡ slice_get es j
entry_beside es i j w None h = refl
entry_beside es i j w (Some p) h = get_beside es i j (p.0, w) h

layer_set : (l : Value-F Value) (i : ℕ) (w c : Value) → child_layer i l ≡ Some c → child_layer i (with_child_layer i w l) ≡ Some w
layer_set (Value-F.Truth t) i w c h = no_some c h
layer_set (Value-F.Number z) i w c h = no_some c h
layer_set (Value-F.Text t) i w c h = no_some c h
layer_set (Value-F.Raw bs) i w c h = no_some c h
layer_set (Value-F.Group vs) i w c h = get_set vs i w c h
layer_set (Value-F.Table es) i w c h = entry_set es i w (slice_get es i) c refl h

layer_beside : (l : Value-F Value) (i j : ℕ) (w : Value) → (i == j) ≡ false → child_layer j (with_child_layer i w l) ≡ child_layer j l
layer_beside (Value-F.Truth t) i j w h = refl
layer_beside (Value-F.Number z) i j w h = refl
layer_beside (Value-F.Text t) i j w h = refl
layer_beside (Value-F.Raw bs) i j w h = refl
layer_beside (Value-F.Group vs) i j w h = get_beside vs i j w h
layer_beside (Value-F.Table es) i j w h = ap (option_map (λ (e : Entry). e.1)) (entry_beside es i j w (slice_get es i) h)

pub child_set : (v : Value) (i : ℕ) (w c : Value) → child i v ≡ Some c → child i (with_child i w v) ≡ Some w
child_set v i w c h = ap (child_layer i) (out-roll-Value (with_child_layer i w (out-Value v))) ∙ layer_set (out-Value v) i w c h

pub child_beside : (v : Value) (i j : ℕ) (w : Value) → (i == j) ≡ false → child j (with_child i w v) ≡ child j v
child_beside v i j w h = ap (child_layer j) (out-roll-Value (with_child_layer i w (out-Value v))) ∙ layer_beside (out-Value v) i j w h

-- ---- entries
pub table_again : (es : Entries) → out-Value (value.Table es) ≡ Value-F.Table es
table_again es = ap out-Value (sym (rolls-Table es)) ∙ out-roll-Value (Value-F.Table es)

pub entries_again : (es : Entries) → entries_of (value.Table es) ≡ es
entries_again es = ap entries_layer (table_again es)

layer_entries : (l : Value-F Value) (i : ℕ) (x : Entry) (w : Value) → slice_get (entries_layer l) i ≡ Some x → entries_layer (with_child_layer i w l) ≡ slice_set (entries_layer l) i (x.0, w)
layer_entries (Value-F.Truth t) i x w g = no_some x g
layer_entries (Value-F.Number z) i x w g = no_some x g
layer_entries (Value-F.Text t) i x w g = no_some x g
layer_entries (Value-F.Raw bs) i x w g = no_some x g
layer_entries (Value-F.Group vs) i x w g = no_some x g
layer_entries (Value-F.Table es) i x w g = ap (with_entry i w es) g

pub entries_set : (v : Value) (i : ℕ) (x : Entry) (w : Value) → slice_get (entries_of v) i ≡ Some x → entries_of (with_child i w v) ≡ slice_set (entries_of v) i (x.0, w)
entries_set v i x w g = ap entries_layer (out-roll-Value (with_child_layer i w (out-Value v))) ∙ layer_entries (out-Value v) i x w g

pub keyed_is : (fields : List Field) (keys : List KeyDecl) (es : Entries) (w : Value) → keyed fields keys es ≡ Ok w → (keys_differ fields keys es ≡ true) × (entries_of w ≡ es)
keyed_is fields keys es w e = by (keys_differ fields keys es) refl e
  where
    by : (b : Bool) → keys_differ fields keys es ≡ b → (if b then Ok (value.Table es) else Err already_there) ≡ Ok w → (keys_differ fields keys es ≡ true) × (entries_of w ≡ es)
    by true t e = (t, ap entries_of (sym (ok_same (value.Table es) w e)) ∙ entries_again es)
    by false t e = no_ok already_there w e

-- ---- what stays
pub record Stay (named : ℕ → Bool) (ty : Ty) (v w : Value) : Type 0 where
  pub ids : (j : ℕ) → named j ≡ false → reached (step.Id j) ty w ≡ reached (step.Id j) ty v
  pub steps : (s : Step) (x : Part) → named x.0 ≡ false → reached s ty v ≡ Ok x → reached s ty w ≡ Ok x

pub record Beside (named : ℕ → Bool) (ty : Ty) (v w : Value) : Type 0 where
  pub branch : is_atom ty ≡ false
  pub stay : Stay named ty v w

-- keys made of other fields stay
abbrev pub Kept : ℕ → Ty → Value → Value → Type 0
Kept id ty v w = (key : KeyDecl) → list_any (λ field. field == id) key.fields ≡ false → key_value (fields_of ty) key w ≡ key_value (fields_of ty) key v

-- at most the part with an ID changes
pub record Changed (id : ℕ) (ty : Ty) (v w : Value) : Type 0 where
  pub beside : Beside (λ j. id == j) ty v w
  pub kept : Kept id ty v w

-- a part keeps the value of a key
abbrev pub KeepsKey : Ty → ℕ → Ty → Value → Value → Type 0
KeepsKey ty n t c d = (key : KeyDecl) → find (numbered n) (keys_of ty) ≡ Some key → key_value (fields_of t) key d ≡ key_value (fields_of t) key c

-- a part becomes another; by a key whose value it keeps it is found again
pub record Level (id : ℕ) (ty : Ty) (v w : Value) (t : Ty) (c d : Value) : Type 0 where
  pub changed : Changed id ty v w
  pub typed : part_of ty id ≡ Some t
  pub before : reached (step.Id id) ty v ≡ Ok (id, t, c)
  pub after : reached (step.Id id) ty w ≡ Ok (id, t, d)
  pub by_key : (n : ℕ) (bytes : List ℕ) → KeepsKey ty n t c d → reached (step.Key n bytes) ty v ≡ Ok (id, t, c) → reached (step.Key n bytes) ty w ≡ Ok (id, t, d)

abbrev layer_is_branch : (ty : Ty) (l : Ty-F Ty Field) → out-Ty ty ≡ l → is_atom_layer l ≡ false → is_atom ty ≡ false
layer_is_branch ty l e b = ap is_atom_layer e ∙ b

-- ---- arrays
module _ (ty entry : Ty) (limit : ℕ) (keys : List KeyDecl) (array : out-Ty ty ≡ Ty-F.Array entry limit keys) where
  pub array_branch : is_atom ty ≡ false
  array_branch = layer_is_branch ty (Ty-F.Array entry limit keys) array refl

  abbrev pub KeepsFinds : (ℕ → Bool) → Entries → Entries → Type 0
  KeepsFinds named es fs = (j : ℕ) → named j ≡ false → find (has j) fs ≡ find (has j) es

  abbrev pub KeepsKeys : (ℕ → Bool) → Entries → Entries → Type 0
  KeepsKeys named es fs =
      (id : ℕ) (key : KeyDecl) → find (numbered id) keys ≡ Some key → (k : List ℕ) (e : Entry) → named e.0 ≡ false → find (key_of (fields_of entry) key k) es ≡ Some e → find (key_of (fields_of entry) key k) fs ≡ Some e

  module _ (named : ℕ → Bool) (v w : Value) (finds : KeepsFinds named (entries_of v) (entries_of w)) (tells : KeepsKeys named (entries_of v) (entries_of w)) where
    stay_ids : (j : ℕ) → named j ≡ false → reached (step.Id j) ty w ≡ reached (step.Id j) ty v
    stay_ids j f =
        by_subscript ty entry limit keys array w j ∙ ap (one_entry ty entry limit keys array j) (finds j f) ∙ sym (by_subscript ty entry limit keys array v j)

    own_id : (j : ℕ) (o : Option Entry) (x : Part) → one_entry ty entry limit keys array j o ≡ Ok x → j ≡ x.0
    own_id j None x e = no_ok not_found x e
    own_id j (Some y) x e = ap (λ (z : Part). z.0) (ok_same (j, entry, y.1) x e)

    key_last : (id : ℕ) (key : KeyDecl) → find (numbered id) keys ≡ Some key → (k : List ℕ) (o : Option Entry) → find (key_of (fields_of entry) key k) (entries_of v) ≡ o → (x : Part) → named x.0 ≡ false
        → key_entry ty entry limit keys array o ≡ Ok x → key_entry ty entry limit keys array (find (key_of (fields_of entry) key k) (entries_of w)) ≡ Ok x
    key_last id key is k None q x f e = no_ok not_found x e
    key_last id key is k (Some y) q x f e =
        let same : (y.0, entry, y.1) ≡ x = ok_same (y.0, entry, y.1) x e in
        ap (key_entry ty entry limit keys array) (tells id key is k y (ap (λ (z : Part). named z.0) same ∙ f) q) ∙ e

    key_next : (id : ℕ) (key : KeyDecl) → find (numbered id) keys ≡ Some key → (r : Result (List ℕ) ℕ) (x : Part) → named x.0 ≡ false
        → by_key_bytes ty entry limit keys array (entries_of v) key r ≡ Ok x → by_key_bytes ty entry limit keys array (entries_of w) key r ≡ Ok x
    key_next id key is (Err c) x f e = no_ok c x e
    key_next id key is (Ok k) x f e = key_last id key is k (find (key_of (fields_of entry) key k) (entries_of v)) refl x f e

    key_by : (id : ℕ) (bytes : List ℕ) (o : Option KeyDecl) → find (numbered id) keys ≡ o → (x : Part) → named x.0 ≡ false
        → by_some_key ty entry limit keys array (entries_of v) bytes o ≡ Ok x → by_some_key ty entry limit keys array (entries_of w) bytes o ≡ Ok x
    key_by id bytes None is x f e = no_ok invalid_path x e
    key_by id bytes (Some key) is x f e = key_next id key is (key_in (fields_of entry) key.fields bytes) x f e

    stay_steps : (s : Step) (x : Part) → named x.0 ≡ false → reached s ty v ≡ Ok x → reached s ty w ≡ Ok x
    stay_steps (step.Id j) x f e =
        let own : j ≡ x.0 = own_id j (find (has j) (entries_of v)) x (sym (by_subscript ty entry limit keys array v j) ∙ e) in
        stay_ids j (ap named own ∙ f) ∙ e
    stay_steps (step.Key id bytes) x f e =
        by_its_key ty entry limit keys array w id bytes ∙ key_by id bytes (find (numbered id) keys) refl x f (sym (by_its_key ty entry limit keys array v id bytes) ∙ e)

    pub array_beside : Beside named ty v w
    array_beside = record { branch = array_branch; stay = record { ids = stay_ids; steps = stay_steps } }

  pub array_kept : (id : ℕ) (v w : Value) → Kept id ty v w
  array_kept id v w key n =
      let none : fields_of ty ≡ [] = ap fields_layer array in
      ap (λ (fs : List Field). key_value fs key w) none ∙ nothing_keyed key w ∙ sym (ap (λ (fs : List Field). key_value fs key v) none ∙ nothing_keyed key v)

  -- entries that are still there, among ones that differ in their keys
  pub keys_kept : (named : ℕ → Bool) (es fs : Entries) → keys_differ (fields_of entry) keys fs ≡ true → ((e : Entry) → named e.0 ≡ false → In e es → In e fs) → KeepsKeys named es fs
  keys_kept named es fs d there = λ id key is k e f q.
      let m : In e es × (key_of (fields_of entry) key k e ≡ true) = in_found (key_of (fields_of entry) key k) es e q in
      let own : In key keys × (numbered id key ≡ true) = in_found (numbered id) keys key is in
      find_distinct (λ (e : Entry). key_value (fields_of entry) key e.1) fs e k (all_in (differ_in (fields_of entry) fs) keys key d own.0) (there e f m.0) m.1

  module _ (id i : ℕ) (v w : Value) (x : Entry) (d : Value) (at : position (has id) (entries_of v) ≡ Some i) (got : slice_get (entries_of v) i ≡ Some x) (own : (x.0 == id) ≡ true) (set : entries_of w ≡ slice_set (entries_of v) i (x.0, d))
      (differ : keys_differ (fields_of entry) keys (entries_of w) ≡ true) where
    set_finds : KeepsFinds (λ j. id == j) (entries_of v) (entries_of w)
    set_finds j f =
        let o : (x.0 == j) ≡ false = other_test x.0 id j (eqb-true x.0 id own) f in
        ap (find (has j)) set ∙ find_set_other (has j) (entries_of v) i x (x.0, d) got o o

    set_keys : KeepsKeys (λ j. id == j) (entries_of v) (entries_of w)
    set_keys = keys_kept (λ j. id == j) (entries_of v) (entries_of w) differ (λ e f h. subst (In e) (sym set) (in_set (entries_of v) i x e d h got (other_test x.0 id e.0 (eqb-true x.0 id own) f)))

    set_in : In (x.0, d) (entries_of w)
    set_in = subst (In (x.0, d)) (sym set) (in_got (slice_set (entries_of v) i (x.0, d)) i (x.0, d) (get_set (entries_of v) i (x.0, d) x got))

    module _ (n : ℕ) (bytes : List ℕ) (keeps : KeepsKey ty n entry x.1 d) where
      key_found : (key : KeyDecl) → find (numbered n) keys ≡ Some key → (k : List ℕ) (o : Option Entry) → find (key_of (fields_of entry) key k) (entries_of v) ≡ o
          → key_entry ty entry limit keys array o ≡ Ok (id, entry, x.1) → key_entry ty entry limit keys array (find (key_of (fields_of entry) key k) (entries_of w)) ≡ Ok (id, entry, d)
      key_found key is k None f e = no_ok not_found (id, entry, x.1) e
      key_found key is k (Some y) f e =
          let same : (y.0, entry, y.1) ≡ (id, entry, x.1) = ok_same (y.0, entry, y.1) (id, entry, x.1) e in
          let old : In y (entries_of v) × (key_of (fields_of entry) key k y ≡ true) = in_found (key_of (fields_of entry) key k) (entries_of v) y f in
          let in_keys : In key keys × (numbered n key ≡ true) = in_found (numbered n) keys key is in
          let new : key_value (fields_of entry) key d ≡ key_value (fields_of entry) key y.1 =
          keeps key (ap (find (numbered n)) (ap keys_layer array) ∙ is) ∙ sym (ap (λ (z : Part). key_value (fields_of entry) key z.2) same) in
          let passes : key_of (fields_of entry) key k (x.0, d) ≡ true = ap (λ (b : List ℕ). bytes_eq b k) new ∙ old.1 in
          ap (key_entry ty entry limit keys array)
          (find_distinct (λ (e : Entry). key_value (fields_of entry) key e.1) (entries_of w) (x.0, d) k (all_in (differ_in (fields_of entry) (entries_of w)) keys key differ in_keys.0) set_in passes)
          ∙ ap (λ (m : ℕ). Ok (m, entry, d)) (eqb-true x.0 id own)

      key_read : (key : KeyDecl) → find (numbered n) keys ≡ Some key → (r : Result (List ℕ) ℕ)
          → by_key_bytes ty entry limit keys array (entries_of v) key r ≡ Ok (id, entry, x.1) → by_key_bytes ty entry limit keys array (entries_of w) key r ≡ Ok (id, entry, d)
      key_read key is (Err c) e = no_ok c (id, entry, x.1) e
      key_read key is (Ok k) e = key_found key is k (find (key_of (fields_of entry) key k) (entries_of v)) refl e

      key_known : (o : Option KeyDecl) → find (numbered n) keys ≡ o
          → by_some_key ty entry limit keys array (entries_of v) bytes o ≡ Ok (id, entry, x.1) → by_some_key ty entry limit keys array (entries_of w) bytes o ≡ Ok (id, entry, d)
      key_known None is e = no_ok invalid_path (id, entry, x.1) e
      key_known (Some key) is e = key_read key is (key_in (fields_of entry) key.fields bytes) e

      key_again : reached (step.Key n bytes) ty v ≡ Ok (id, entry, x.1) → reached (step.Key n bytes) ty w ≡ Ok (id, entry, d)
      key_again e = by_its_key ty entry limit keys array w n bytes ∙ key_known (find (numbered n) keys) refl (sym (by_its_key ty entry limit keys array v n bytes) ∙ e)

    pub array_level : Level id ty v w entry x.1 d
    array_level = record {
      changed = record { beside = array_beside (λ j. id == j) v w set_finds set_keys; kept = array_kept id v w };
      typed = ap (λ l. part_layer l id) array;
      by_key = key_again;
      before =
          by_subscript ty entry limit keys array v id
          ∙ ap (one_entry ty entry limit keys array id) (sym (found_at (has id) (entries_of v)) ∙ ap (option_and_then (slice_get (entries_of v))) at ∙ got);
      after =
          by_subscript ty entry limit keys array w id
          ∙ ap (one_entry ty entry limit keys array id) (ap (find (has id)) set ∙ find_set_same (has id) (entries_of v) i (x.0, d) at own);
    }

-- ---- structs
pub paired_is : (a : Option Ty) (b : Option Value) (t : Ty) (c : Value) → paired a b ≡ Some (t, c) → (a ≡ Some t) × (b ≡ Some c)
paired_is None b t c e = no_some (t, c) e
paired_is (Some a) None t c e = no_some (t, c) e
paired_is (Some a) (Some b) t c e =
    let k : (a, b) ≡ (t, c) = some_same (a, b) (t, c) e in (ap (λ (z : Ty × Value). Some z.0) k, ap (λ (z : Ty × Value). Some z.1) k)

module _ (ty : Ty) (fields : List Field) (struct : out-Ty ty ≡ Ty-F.Struct fields) where
  pub struct_branch : is_atom ty ≡ false
  struct_branch = layer_is_branch ty (Ty-F.Struct fields) struct refl

  abbrev pub one_field : Value → ℕ → Option ℕ → Result Part ℕ
  one_field v j None = Err no_component
  one_field v j (Some i) = reached_at j (paired (option_map field_ty (slice_get fields i)) (child i v))

  pub by_field : (v : Value) (j : ℕ) → reached (step.Id j) ty v ≡ one_field v j (position (called j) fields)
  by_field v j = ap (λ (r : Result (Option ℕ) ℕ). r >>= reached_from (step.Id j) ty v) (struct_place ty fields struct v j) ∙ by (position (called j) fields)
    where
      by : (o : Option ℕ) → or_code no_component (option_map Some o) >>= reached_from (step.Id j) ty v ≡ one_field v j o
      by None = refl
      by (Some i) = ap (reached_at j) (struct_part ty fields struct v i)

  no_key : (v : Value) (id : ℕ) (bytes : List ℕ) → reached (step.Key id bytes) ty v ≡ Err invalid_path
  no_key v id bytes = ap (λ (r : Result (Option ℕ) ℕ). r >>= reached_from (step.Key id bytes) ty v) (struct_key ty fields struct v id bytes)

  own_field : (v : Value) (j : ℕ) (o : Option ℕ) (x : Part) → one_field v j o ≡ Ok x → j ≡ x.0
  own_field v j None x e = no_ok no_component x e
  own_field v j (Some i) x e = by (paired (option_map field_ty (slice_get fields i)) (child i v)) e
    where
      by : (o : Option (Ty × Value)) → reached_at j o ≡ Ok x → j ≡ x.0
      by None e = no_ok invalid_path x e
      by (Some y) e = ap (λ (z : Part). z.0) (ok_same (j, y.0, y.1) x e)

  -- fields keep their values
  abbrev pub KeepsFields : (ℕ → Bool) → Value → Value → Type 0
  KeepsFields named v w = (j : ℕ) → named j ≡ false → (k : ℕ) → position (called j) fields ≡ Some k → child k w ≡ child k v

  module _ (named : ℕ → Bool) (v w : Value) (kept : KeepsFields named v w) where
    kept_ids : (j : ℕ) → named j ≡ false → reached (step.Id j) ty w ≡ reached (step.Id j) ty v
    kept_ids j f = by_field w j ∙ by (position (called j) fields) refl ∙ sym (by_field v j)
      where
        by : (o : Option ℕ) → position (called j) fields ≡ o → one_field w j o ≡ one_field v j o
        by None e = refl
        by (Some i) e = ap (λ (c : Option Value). reached_at j (paired (option_map field_ty (slice_get fields i)) c)) (kept j f i e)

    kept_steps : (s : Step) (x : Part) → named x.0 ≡ false → reached s ty v ≡ Ok x → reached s ty w ≡ Ok x
    kept_steps (step.Id j) x f e =
        let own : j ≡ x.0 = own_field v j (position (called j) fields) x (sym (by_field v j) ∙ e) in
        kept_ids j (ap named own ∙ f) ∙ e
    kept_steps (step.Key id bytes) x f e = no_ok invalid_path x (sym (no_key v id bytes) ∙ e)

    pub struct_beside : Beside named ty v w
    struct_beside = record { branch = struct_branch; stay = record { ids = kept_ids; steps = kept_steps } }

  differ_called : (id j : ℕ) → (id == j) ≡ false → (f : Field) → called id f ≡ true → called j f ≡ false
  differ_called id j f g t = other_test (field_id g) id j (eqb-true (field_id g) id t) f

  pub beside_field : (id i : ℕ) (v : Value) (d : Value) → position (called id) fields ≡ Some i → KeepsFields (λ j. id == j) v (with_child i d v)
  beside_field id i v d at = λ j f k e. child_beside v i k d (apart (called id) (called j) fields i k (differ_called id j f) at e)

  field_kept : (id i : ℕ) (v : Value) (d : Value) → position (called id) fields ≡ Some i → Kept id ty v (with_child i d v)
  field_kept id i v d at key n = subst (λ (fs : List Field). key_value fs key (with_child i d v) ≡ key_value fs key v) (sym (ap fields_layer struct)) (key_beside fields id i d at key n v)

  pub struct_level : (id i : ℕ) (v : Value) (t : Ty) (c d : Value) → position (called id) fields ≡ Some i → part_at i ty v ≡ Some (t, c) → Level id ty v (with_child i d v) t c d
  struct_level id i v t c d at part =
      let p : paired (option_map field_ty (slice_get fields i)) (child i v) ≡ Some (t, c) = sym (struct_part ty fields struct v i) ∙ part in
      let parts : (option_map field_ty (slice_get fields i) ≡ Some t) × (child i v ≡ Some c) = paired_is (option_map field_ty (slice_get fields i)) (child i v) t c p in
      record {
        changed = record { beside = struct_beside (λ j. id == j) v (with_child i d v) (beside_field id i v d at); kept = field_kept id i v d at };
        typed =
            ap (λ l. part_layer l id) struct
            ∙ ap (option_map field_ty) (sym (found_at (called id) fields) ∙ ap (option_and_then (slice_get fields)) at) ∙ parts.0;
        by_key = λ n bytes k e. no_ok invalid_path (id, t, c) (sym (no_key v n bytes) ∙ e);
        before = by_field v id ∙ ap (one_field v id) at ∙ ap (reached_at id) p;
        after =
            by_field (with_child i d v) id ∙ ap (one_field (with_child i d v) id) at ∙ ap (λ (a : Option Ty). reached_at id (paired a (child i (with_child i d v)))) parts.0
            ∙ ap (λ (b : Option Value). reached_at id (paired (Some t) b)) (child_set v i d c parts.1);
      }

-- ---- any type
-- another part where an ID leads, in a value that passes its check
pub through : (id i : ℕ) (ty : Ty) (v w : Value) (t : Ty) (c d : Value) → place_in ty v (step.Id id) ≡ Ok (Some i) → part_at i ty v ≡ Some (t, c) → checked ty (with_child i d v) ≡ Ok w → Level id ty v w t c d
unfolding place_in checked
through id i ty v w t c d placed part check = by (out-Ty ty) refl
  where
    none : (l : Ty-F Ty Field) → out-Ty ty ≡ l → place_layer l v (step.Id id) ≡ Err invalid_path → Level id ty v w t c d
    none l e p = no_ok invalid_path (Some i) (sym p ∙ ap (λ k. place_layer k v (step.Id id)) (sym e) ∙ placed)

    at_field : (o : Option ℕ) → or_code no_component (option_map Some o) ≡ Ok (Some i) → o ≡ Some i
    at_field None e = no_ok no_component (Some i) e
    at_field (Some k) e = ok_same (Some k) (Some i) e

    by : (l : Ty-F Ty Field) → out-Ty ty ≡ l → Level id ty v w t c d
    by Ty-F.Bool e = none Ty-F.Bool e refl
    by (Ty-F.Number b g min max) e = none (Ty-F.Number b g min max) e refl
    by (Ty-F.String n) e = none (Ty-F.String n) e refl
    by (Ty-F.Octets n) e = none (Ty-F.Octets n) e refl
    by (Ty-F.Bytes n) e = none (Ty-F.Bytes n) e refl
    by (Ty-F.Struct fields) e =
        let at : position (called id) fields ≡ Some i = at_field (position (called id) fields) (sym (struct_place ty fields e v id) ∙ placed) in
        let same : with_child i d v ≡ w = ok_same (with_child i d v) w (sym (ap (λ l. checked_layer l (with_child i d v)) e) ∙ check) in
        subst (λ (u : Value). Level id ty v u t c d) same (struct_level ty fields e id i v t c d at part)
    by (Ty-F.Array entry limit keys) e =
        let at : position (has id) (entries_of v) ≡ Some i = ok_same (position (has id) (entries_of v)) (Some i) (sym (array_place ty entry limit keys e v id) ∙ placed) in
        let f : Found (has id) (entries_of v) i = found (has id) (entries_of v) i at in
        let k : (keys_differ (fields_of entry) keys (entries_of (with_child i d v)) ≡ true) × (entries_of w ≡ entries_of (with_child i d v)) =
        keyed_is (fields_of entry) keys (entries_of (with_child i d v)) w (sym (ap (λ l. checked_layer l (with_child i d v)) e) ∙ check) in
        let set : entries_of w ≡ slice_set (entries_of v) i (f.item.0, d) = k.1 ∙ entries_set v i f.item d f.got in
        let same : (entry, f.item.1) ≡ (t, c) = some_same (entry, f.item.1) (t, c) (sym (array_part ty entry limit keys e v i f.item f.got) ∙ part) in
        subst (λ (z : Ty × Value). Level id ty v w z.0 z.1 d) same
        (array_level ty entry limit keys e id i v w f.item d at f.got f.passes set (ap (keys_differ (fields_of entry) keys) k.1 ∙ k.0))

-- a new entry
pub record Entered (id : ℕ) (bytes : List ℕ) (ty : Ty) (v w : Value) : Type 0 where
  pub changed : Changed id ty v w
  pub part : Ty
  pub new : Value
  pub after : reached (step.Id id) ty w ≡ Ok (id, part, new)
  pub read : full_in part bytes ≡ Ok new

module _ (id : ℕ) (bytes : List ℕ) (ty : Ty) (v w : Value) (entry : Ty) (limit : ℕ) (keys : List KeyDecl) (array : out-Ty ty ≡ Ty-F.Array entry limit keys) where
  put_one : (u : Value) → full_in entry bytes ≡ Ok u → keyed (fields_of entry) keys (put nat_cmp id u (entries_of v)) ≡ Ok w → Entered id bytes ty v w
  put_one u r e =
      let k : (keys_differ (fields_of entry) keys (put nat_cmp id u (entries_of v)) ≡ true) × (entries_of w ≡ put nat_cmp id u (entries_of v)) = keyed_is (fields_of entry) keys (put nat_cmp id u (entries_of v)) w e in
      record {
        changed = record {
          beside = array_beside ty entry limit keys array (λ j. id == j) v w (λ j f. ap (find (has j)) k.1 ∙ find_put_other (entries_of v) id j u f)
              (keys_kept ty entry limit keys array (λ j. id == j) (entries_of v) (entries_of w) (ap (keys_differ (fields_of entry) keys) k.1 ∙ k.0) (λ x f h. subst (In x) (sym k.1) (in_put (entries_of v) id u x h f)));
          kept = array_kept ty entry limit keys array id v w;
        };
        part = entry;
        new = u;
        after = by_subscript ty entry limit keys array w id ∙ ap (one_entry ty entry limit keys array id) (ap (find (has id)) k.1 ∙ find_put_same (entries_of v) id u);
        read = r;
      }

  roomy : (u : Value) → full_in entry bytes ≡ Ok u → (b : Bool) → (if b then Err no_room else Ok (put nat_cmp id u (entries_of v))) >>= keyed (fields_of entry) keys ≡ Ok w → Entered id bytes ty v w
  roomy u r true e = no_ok no_room w e
  roomy u r false e = put_one u r e

  read_one : (r : Result Value ℕ) → full_in entry bytes ≡ r → (r >>= λ u. entered id limit (entries_of v) u) >>= keyed (fields_of entry) keys ≡ Ok w → Entered id bytes ty v w
  read_one (Err c) q e = no_ok c w e
  read_one (Ok u) q e = roomy u q _ e

pub entered_beside : (id : ℕ) (bytes : List ℕ) (ty : Ty) (v w : Value) → created id bytes ty v ≡ Ok w → Entered id bytes ty v w
unfolding created
entered_beside id bytes ty v w made = by (out-Ty ty) refl
  where
    none : (l : Ty-F Ty Field) → out-Ty ty ≡ l → created_layer id bytes l v ≡ Err invalid_path → Entered id bytes ty v w
    none l e p = no_ok invalid_path w (sym p ∙ ap (λ k. created_layer id bytes k v) (sym e) ∙ made)

    by : (l : Ty-F Ty Field) → out-Ty ty ≡ l → Entered id bytes ty v w
    by Ty-F.Bool e = none Ty-F.Bool e refl
    by (Ty-F.Number b g min max) e = none (Ty-F.Number b g min max) e refl
    by (Ty-F.String n) e = none (Ty-F.String n) e refl
    by (Ty-F.Octets n) e = none (Ty-F.Octets n) e refl
    by (Ty-F.Bytes n) e = none (Ty-F.Bytes n) e refl
    by (Ty-F.Struct fields) e = none (Ty-F.Struct fields) e refl
    by (Ty-F.Array entry limit keys) e = read_one id bytes ty v w entry limit keys e (full_in entry bytes) refl (sym (ap (λ l. created_layer id bytes l v) e) ∙ made)
