-- The cells of a value tell it.
use Rattle.std.proofs.Common.{◌≡◌, ℕ, zero, suc, ◌==◌, ◌<◌, nat_eq, Bool, true, false, not, cond, List, [], ◌∷◌, ◌++◌, map, position, find, slice_get, refl, sym, ap, ap₂, ◌∙◌, arith, Option, Some, None, option_map, option_and_then, Result, Ok, Err, if◌then◌else◌, ◌⊎◌, inl, inr, eqb-true}
use Rattle.std.specs.List.{AllByRecursion, list_any}
use Rattle.fc_base.specs.Answers.{◌>>=◌}
use Rattle.fc_path.specs.declared.oper.Step.TheVariants as step
use Rattle.fc_tree.specs.Finding.{entries_of, paired, walked}
use Rattle.fc_types.specs.Ids.{is_distinct}
use Rattle.fc_types.specs.Sound.{IsSound, IsSoundInside, SoundLayer}
use Rattle.fc_types.specs.Types.{field_id, field_ty, is_atom, is_atom_layer}
use Rattle.fc_types.specs.declared.ty.Field.{Field}
use Rattle.fc_types.specs.declared.ty.KeyDecl.{KeyDecl}
use Rattle.fc_types.specs.declared.ty.Ty.{Ty}
use Rattle.fc_types.specs.declared.ty.Ty.TheOpen.{Ty-F}
use Rattle.fc_types.specs.declared.ty.Ty.TheViews.{out-Ty}
use Rattle.fc_types.proofs.Bools.{both, neither, was_false}
use Rattle.fc_types.proofs.Sounds.{level_is_sound}
use Rattle.fc_value.specs.Fits.{EachFits, EntryFits, FitsIn, FitsLayer}
use Rattle.fc_value.specs.FullForm.{AreRising}
use Rattle.fc_value.specs.Keys.{field_with}
use Rattle.fc_value.specs.Nodes.{child, child_layer}
use Rattle.fc_value.specs.declared.value.Value.{Value}
use Rattle.fc_value.specs.declared.value.Value.TheVariants as value
use Rattle.fc_cells.specs.Cells.{Cell, Atom, Node, by_ids, cell, cell_of, some_cell}
use Rattle.fc_cells.proofs.Finds.{Entries, Entry, above_all, has, no_some, position_step, same_test, some_same, turned_test}
use Rattle.fc_cells.proofs.Steps.{Part, by_subscript, called, no_ok, ok_same, one_entry, reached, reached_at, walked_id, went_on}
use Rattle.fc_cells.proofs.Beside.{by_field, entries_again, one_field}
use Rattle.fc_cells.proofs.Placing.{group_again}

-- ---- under a place
pub walked_on : (front ids : List ℕ) (ty : Ty) (v : Value) (y : Ty × Value) → walked (by_ids front) ty v ≡ Ok y → walked (by_ids (front ++ ids)) ty v ≡ walked (by_ids ids) y.0 y.1
walked_on [] ids ty v y e = ap (λ (z : Ty × Value). walked (by_ids ids) z.0 z.1) (ok_same (ty, v) y e)
walked_on (f ∷ front) ids ty v y e = walked_id f (by_ids (front ++ ids)) ty v ∙ by (λ t c q. walked_on front ids t c y q) (reached (step.Id f) ty v) (sym (walked_id f (by_ids front) ty v) ∙ e)
  where
    by : ((t : Ty) (c : Value) → walked (by_ids front) t c ≡ Ok y → walked (by_ids (front ++ ids)) t c ≡ walked (by_ids ids) y.0 y.1)
        → (r : Result Part ℕ) → r >>= went_on (by_ids front) ≡ Ok y → r >>= went_on (by_ids (front ++ ids)) ≡ walked (by_ids ids) y.0 y.1
    by more (Err c) q = no_ok c y q
    by more (Ok x) q = more x.1 x.2 q

pub cell_on : (front ids : List ℕ) (ty : Ty) (v : Value) (y : Ty × Value) → walked (by_ids front) ty v ≡ Ok y → cell (front ++ ids) ty v ≡ cell ids y.0 y.1
cell_on front ids ty v y e = ap some_cell (walked_on front ids ty v y e)

-- ---- the cells one step below
abbrev Alike : Ty → Value → Value → Type 0
Alike ty v w = (ids : List ℕ) → cell ids ty v ≡ cell ids ty w

abbrev Tells : ℕ → Ty → Type 0
Tells n ty = (v w : Value) → FitsIn n ty v → FitsIn n ty w → Alike ty v w → v ≡ w

cell_from : List ℕ → Result Part ℕ → Option Cell
cell_from ids r = some_cell (r >>= went_on (by_ids ids))

cell_below : (j : ℕ) (ids : List ℕ) (ty : Ty) (v : Value) → cell (j ∷ ids) ty v ≡ cell_from ids (reached (step.Id j) ty v)
unfolding cell_from
cell_below j ids ty v = ap some_cell (walked_id j (by_ids ids) ty v)

-- ---- atoms
atom_or : Value → Cell → Value
atom_or v (Atom w) = w
atom_or v Node = v

atoms_same : (ty : Ty) → is_atom ty ≡ true → (v w : Value) → Alike ty v w → v ≡ w
unfolding atom_or
atoms_same ty a v w alike =
    let e : cell_of ty v ≡ cell_of ty w = some_same (cell_of ty v) (cell_of ty w) (alike []) in
    let l : cell_of ty v ≡ Atom v = ap (λ (b : Bool). if b then Atom v else Node) a in
    let r : cell_of ty w ≡ Atom w = ap (λ (b : Bool). if b then Atom w else Node) a in
    ap (atom_or v) (sym l ∙ e ∙ r)

-- ---- arrays
entry_cell : Ty → List ℕ → Option Entry → Option Cell
entry_cell entry ids None = None
entry_cell entry ids (Some e) = cell ids entry e.1

abbrev AlikeEntries : Ty → Entries → Entries → Type 0
AlikeEntries entry es fs = (j : ℕ) (ids : List ℕ) → entry_cell entry ids (find (has j) es) ≡ entry_cell entry ids (find (has j) fs)

some_entry : {X : Type 0} (entry : Ty) (e : Entry) → entry_cell entry [] None ≡ entry_cell entry [] (Some e) → X
unfolding entry_cell
some_entry entry e q = no_some (cell_of entry e.1) q

first_found : (s : ℕ) (e : Entry) (es : Entries) → (e.0 == s) ≡ true → find (has s) (e ∷ es) ≡ Some e
first_found s e es t = ap (λ (b : Bool). cond b (Some e) (find (has s) es)) t

first_passed : (s : ℕ) (e : Entry) (es : Entries) → (e.0 == s) ≡ false → find (has s) (e ∷ es) ≡ find (has s) es
first_passed s e es t = ap (λ (b : Bool). cond b (Some e) (find (has s) es)) t

all_higher : (s t : ℕ) (es : Entries) → s < t → AllByRecursion (λ (f : Entry). t < f.0) es → AllByRecursion (λ (f : Entry). s < f.0) es
all_higher s t [] l a = tt
all_higher s t (e ∷ es) l a = (omega (arith, l, a.0), all_higher s t es l a.1)

compared : (m n : ℕ) → (m < n) ⊎ ((m ≡ n) ⊎ (n < m))
compared m n = grind arith

entries_same : (n : ℕ) (entry : Ty) → Tells n entry → (es fs : Entries) → AllByRecursion (EntryFits (FitsIn n) entry) es → AllByRecursion (EntryFits (FitsIn n) entry) fs → AreRising es → AreRising fs → AlikeEntries entry es fs → es ≡ fs
unfolding entry_cell
entries_same n entry tells [] [] a b up vp alike = refl
entries_same n entry tells [] (f ∷ fs) a b up vp alike = some_entry entry f (alike f.0 [] ∙ ap (entry_cell entry []) (first_found f.0 f fs (same_test f.0 f.0 refl)))
entries_same n entry tells (e ∷ es) [] a b up vp alike = some_entry entry e (sym (alike e.0 []) ∙ ap (entry_cell entry []) (first_found e.0 e es (same_test e.0 e.0 refl)))
entries_same n entry tells (e ∷ es) (f ∷ fs) a b up vp alike = by (entries_same n entry tells es fs a.1 b.1 up.1 vp.1) (compared e.0 f.0)
  where
    less : {X : Type 0} → e.0 < f.0 → X
    less l =
        some_entry entry e (sym (ap (entry_cell entry []) (above_all e.0 (f ∷ fs) (l, all_higher e.0 f.0 fs l vp.0)))
        ∙ sym (alike e.0 []) ∙ ap (entry_cell entry []) (first_found e.0 e es (same_test e.0 e.0 refl)))

    more : {X : Type 0} → f.0 < e.0 → X
    more l =
        some_entry entry f (sym (ap (entry_cell entry []) (above_all f.0 (e ∷ es) (l, all_higher f.0 e.0 es l up.0)))
        ∙ alike f.0 [] ∙ ap (entry_cell entry []) (first_found f.0 f fs (same_test f.0 f.0 refl)))

    heads : e.0 ≡ f.0 → e.1 ≡ f.1
    heads s = tells e.1 f.1 a.0.1 b.0.1 (λ ids. sym (ap (entry_cell entry ids) (first_found e.0 e es (same_test e.0 e.0 refl))) ∙ alike e.0 ids ∙ ap (entry_cell entry ids) (first_found e.0 f fs (same_test f.0 e.0 (sym s))))

    tails : e.0 ≡ f.0 → AlikeEntries entry es fs
    tails s j ids = at (e.0 == j) refl
      where
        at : (b : Bool) → (e.0 == j) ≡ b → entry_cell entry ids (find (has j) es) ≡ entry_cell entry ids (find (has j) fs)
        at true t =
            let k : e.0 ≡ j = eqb-true e.0 j t in
            let l : f.0 ≡ j = sym s ∙ k in
            ap (entry_cell entry ids) (ap (λ (m : ℕ). find (has m) es) (sym k) ∙ above_all e.0 es up.0 ∙ sym (ap (λ (m : ℕ). find (has m) fs) (sym l) ∙ above_all f.0 fs vp.0))
        at false t =
            let u : (f.0 == j) ≡ false = ap (λ (m : ℕ). m == j) (sym s) ∙ t in
            ap (entry_cell entry ids) (sym (first_passed j e es t)) ∙ alike j ids ∙ ap (entry_cell entry ids) (first_passed j f fs u)

    by : (AlikeEntries entry es fs → es ≡ fs) → (e.0 < f.0) ⊎ ((e.0 ≡ f.0) ⊎ (f.0 < e.0)) → e ∷ es ≡ f ∷ fs
    by rest (inl l) = less l
    by rest (inr (inr l)) = more l
    by rest (inr (inl s)) = ap₂ (λ (x : Entry) (xs : Entries). x ∷ xs) (ap₂ (λ (k : ℕ) (x : Value). (k, x)) s (heads s)) (rest (tails s))

array_cells : (ty entry : Ty) (limit : ℕ) (keys : List KeyDecl) (array : out-Ty ty ≡ Ty-F.Array entry limit keys) (v : Value) (es : Entries) → v ≡ value.Table es → (j : ℕ) (ids : List ℕ)
    → cell (j ∷ ids) ty v ≡ entry_cell entry ids (find (has j) es)
unfolding cell_from entry_cell
array_cells ty entry limit keys array v es is j ids =
    cell_below j ids ty v ∙ ap (cell_from ids) (by_subscript ty entry limit keys array v j ∙ ap (λ (xs : Entries). one_entry ty entry limit keys array j (find (has j) xs)) (ap entries_of is ∙ entries_again es)) ∙ by (find (has j) es)
  where
    by : (o : Option Entry) → cell_from ids (one_entry ty entry limit keys array j o) ≡ entry_cell entry ids o
    by None = refl
    by (Some e) = refl

arrays_same : (n : ℕ) (ty entry : Ty) (limit : ℕ) (keys : List KeyDecl) → out-Ty ty ≡ Ty-F.Array entry limit keys → Tells n entry
    → (v w : Value) → FitsLayer (FitsIn n) (Ty-F.Array entry limit keys) v → FitsLayer (FitsIn n) (Ty-F.Array entry limit keys) w → Alike ty v w → v ≡ w
arrays_same n ty entry limit keys array tells v w h k alike =
    let same : h.0 ≡ k.0 =
    entries_same n entry tells h.0 k.0 h.3 k.3 h.2.rising k.2.rising
    (λ j ids. sym (array_cells ty entry limit keys array v h.0 h.1 j ids) ∙ alike (j ∷ ids) ∙ array_cells ty entry limit keys array w k.0 k.1 j ids) in
    h.1 ∙ ap value.Table same ∙ sym k.1

-- ---- structs
field_cell : List ℕ → Option (Ty × Value) → Option Cell
field_cell ids None = None
field_cell ids (Some x) = cell ids x.0 x.1

abbrev pair_at : List Field → List Value → ℕ → Option (Ty × Value)
pair_at fields vs i = paired (option_map field_ty (slice_get fields i)) (slice_get vs i)

no_value : (a : Option Ty) → paired a None ≡ None
no_value None = refl
no_value (Some a) = refl

at_position : (fields : List Field) (vs : List Value) (j : ℕ) → option_and_then (pair_at fields vs) (position (called j) fields) ≡ field_with fields vs j
at_position [] vs j = refl
at_position (f ∷ fs) [] j = by (position (called j) (f ∷ fs))
  where
    by : (o : Option ℕ) → option_and_then (pair_at (f ∷ fs) []) o ≡ None
    by None = refl
    by (Some i) = no_value (option_map field_ty (slice_get (f ∷ fs) i))
at_position (f ∷ fs) (v ∷ vs) j = ap (option_and_then (pair_at (f ∷ fs) (v ∷ vs))) (position_step (called j) f fs) ∙ by (at_position fs vs j) (called j f)
  where
    later : (o : Option ℕ) → option_and_then (pair_at (f ∷ fs) (v ∷ vs)) (option_map suc o) ≡ option_and_then (pair_at fs vs) o
    later None = refl
    later (Some i) = refl

    by : option_and_then (pair_at fs vs) (position (called j) fs) ≡ field_with fs vs j → (b : Bool)
        → option_and_then (pair_at (f ∷ fs) (v ∷ vs)) (cond b (Some zero) (option_map suc (position (called j) fs))) ≡ (if b then Some (field_ty f, v) else field_with fs vs j)
    by more true = refl
    by more false = later (position (called j) fs) ∙ more

struct_cells : (ty : Ty) (fields : List Field) → out-Ty ty ≡ Ty-F.Struct fields → (v : Value) (vs : List Value) → v ≡ value.Group vs → (j : ℕ) (ids : List ℕ) → cell (j ∷ ids) ty v ≡ field_cell ids (field_with fields vs j)
unfolding cell_from field_cell
struct_cells ty fields struct v vs is j ids =
    cell_below j ids ty v ∙ ap (cell_from ids) (by_field ty fields struct v j) ∙ by (position (called j) fields) ∙ ap (field_cell ids) (at_position fields vs j)
  where
    kids : (i : ℕ) → child i v ≡ slice_get vs i
    kids i = ap (child i) is ∙ ap (child_layer i) (group_again vs)

    last : (o : Option (Ty × Value)) → cell_from ids (reached_at j o) ≡ field_cell ids o
    last None = refl
    last (Some x) = refl

    by : (o : Option ℕ) → cell_from ids (one_field ty fields struct v j o) ≡ field_cell ids (option_and_then (pair_at fields vs) o)
    by None = refl
    by (Some i) = ap (λ (c : Option Value). cell_from ids (reached_at j (paired (option_map field_ty (slice_get fields i)) c))) (kids i) ∙ last (pair_at fields vs i)

no_other : (id j : ℕ) (fields : List Field) (vs : List Value) → id ≡ j → list_any (nat_eq id) (map field_id fields) ≡ false → field_with fields vs j ≡ None
no_other id j [] vs s e = refl
no_other id j (f ∷ fs) [] s e = refl
no_other id j (f ∷ fs) (v ∷ vs) s e =
    let parts : ((id == field_id f) ≡ false) × (list_any (nat_eq id) (map field_id fs) ≡ false) = neither _ _ e in
    let t : (field_id f == j) ≡ false = turn (field_id f) parts.0 in
    ap (λ (b : Bool). if b then Some (field_ty f, v) else field_with fs vs j) t ∙ no_other id j fs vs s parts.1
  where
    turn : (m : ℕ) → (id == m) ≡ false → (m == j) ≡ false
    turn m f = turned_test m j ∙ ap (λ (x : ℕ). x == m) (sym s) ∙ f

abbrev AlikeFields : List Field → List Value → List Value → Type 0
AlikeFields fields vs ws = (j : ℕ) (ids : List ℕ) → field_cell ids (field_with fields vs j) ≡ field_cell ids (field_with fields ws j)

fields_same : (n : ℕ) (fields : List Field) → AllByRecursion (λ f. Tells n (field_ty f)) fields → is_distinct nat_eq (map field_id fields) ≡ true
    → (vs ws : List Value) → EachFits (FitsIn n) fields vs → EachFits (FitsIn n) fields ws → AlikeFields fields vs ws → vs ≡ ws
unfolding field_cell
fields_same n [] tells d [] [] h k alike = refl
fields_same n [] tells d (v ∷ vs) ws h k alike = absurd h
fields_same n [] tells d [] (w ∷ ws) h k alike = absurd k
fields_same n (f ∷ fs) tells d [] ws h k alike = absurd h
fields_same n (f ∷ fs) tells d (v ∷ vs) [] h k alike = absurd k
fields_same n (f ∷ fs) tells d (v ∷ vs) (w ∷ ws) h k alike = ap₂ (λ (x : Value) (xs : List Value). x ∷ xs) head (fields_same n fs tells.1 parts.1 vs ws h.1 k.1 tail)
  where
    parts : (not (list_any (nat_eq (field_id f)) (map field_id fs)) ≡ true) × (is_distinct nat_eq (map field_id fs) ≡ true)
    parts = both _ _ d

    own : (x : Value) (xs : List Value) → field_with (f ∷ fs) (x ∷ xs) (field_id f) ≡ Some (field_ty f, x)
    own x xs = ap (λ (b : Bool). if b then Some (field_ty f, x) else field_with fs xs (field_id f)) (same_test (field_id f) (field_id f) refl)

    head : v ≡ w
    head = tells.0 v w h.0 k.0 (λ ids. sym (ap (field_cell ids) (own v vs)) ∙ alike (field_id f) ids ∙ ap (field_cell ids) (own w ws))

    tail : AlikeFields fs vs ws
    tail j ids = at (field_id f == j) refl
      where
        passed : (x : Value) (xs : List Value) → (field_id f == j) ≡ false → field_with (f ∷ fs) (x ∷ xs) j ≡ field_with fs xs j
        passed x xs t = ap (λ (b : Bool). if b then Some (field_ty f, x) else field_with fs xs j) t

        at : (b : Bool) → (field_id f == j) ≡ b → field_cell ids (field_with fs vs j) ≡ field_cell ids (field_with fs ws j)
        at true t =
            let s : field_id f ≡ j = eqb-true (field_id f) j t in
            ap (field_cell ids) (no_other (field_id f) j fs vs s (was_false _ parts.0) ∙ sym (no_other (field_id f) j fs ws s (was_false _ parts.0)))
        at false t = ap (field_cell ids) (sym (passed v vs t)) ∙ alike j ids ∙ ap (field_cell ids) (passed w ws t)

structs_same : (n : ℕ) (ty : Ty) (fields : List Field) → out-Ty ty ≡ Ty-F.Struct fields → AllByRecursion (λ f. Tells n (field_ty f)) fields → is_distinct nat_eq (map field_id fields) ≡ true
    → (v w : Value) → FitsLayer (FitsIn n) (Ty-F.Struct fields) v → FitsLayer (FitsIn n) (Ty-F.Struct fields) w → Alike ty v w → v ≡ w
structs_same n ty fields struct tells d v w h k alike =
    let same : h.0 ≡ k.0 =
    fields_same n fields tells d h.0 k.0 h.2 k.2 (λ j ids. sym (struct_cells ty fields struct v h.0 h.1 j ids) ∙ alike (j ∷ ids) ∙ struct_cells ty fields struct w k.0 k.1 j ids) in
    h.1 ∙ ap value.Group same ∙ sym k.1

-- ---- any type
all_tell : (n : ℕ) → ((ty : Ty) → IsSound ty → Tells n ty) → (fields : List Field) → AllByRecursion (λ f. IsSoundInside (field_ty f)) fields → AllByRecursion (λ f. Tells n (field_ty f)) fields
all_tell n more [] s = tt
all_tell n more (f ∷ fs) s = (more (field_ty f) s.0.sound, all_tell n more fs s.1)

layer_tells : (n : ℕ) → ((ty : Ty) → IsSound ty → Tells n ty) → (ty : Ty) (l : Ty-F Ty Field) → out-Ty ty ≡ l → SoundLayer l → (v w : Value) → FitsLayer (FitsIn n) l v → FitsLayer (FitsIn n) l w → Alike ty v w → v ≡ w
layer_tells n more ty Ty-F.Bool e s v w h k alike = atoms_same ty (ap is_atom_layer e) v w alike
layer_tells n more ty (Ty-F.Number b g min max) e s v w h k alike = atoms_same ty (ap is_atom_layer e) v w alike
layer_tells n more ty (Ty-F.String m) e s v w h k alike = atoms_same ty (ap is_atom_layer e) v w alike
layer_tells n more ty (Ty-F.Octets m) e s v w h k alike = atoms_same ty (ap is_atom_layer e) v w alike
layer_tells n more ty (Ty-F.Bytes m) e s v w h k alike = atoms_same ty (ap is_atom_layer e) v w alike
layer_tells n more ty (Ty-F.Struct fields) e s v w h k alike = structs_same n ty fields e (all_tell n more fields s.each) s.ids v w h k alike
layer_tells n more ty (Ty-F.Array entry limit keys) e s v w h k alike = arrays_same n ty entry limit keys e (more entry s.inner.sound) v w h k alike

pub cells_tell : (n : ℕ) (ty : Ty) → IsSound ty → Tells n ty
cells_tell zero ty s v w h k alike = absurd h
cells_tell (suc n) ty s v w h k alike = layer_tells n (cells_tell n) ty (out-Ty ty) refl (level_is_sound ty s) v w h k alike
