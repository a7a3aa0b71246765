-- What stands beside a spot stays when something is put there.
use Rattle.std.proofs.Common.{◌≡◌, ℕ, zero, suc, ◌≤◌, ◌==◌, cond, Bool, true, false, nat_lt, List, [], ◌∷◌, length, slice_get, slice_set, refl, sym, ap, subst, ◌∙◌, arith, Option, Some, None, option_map, find, position, Result, Ok, Err}
use Rattle.std.specs.List.{position_or_len}
use Rattle.std.specs.FinMap.Entries.{by_order, put}
use Rattle.std.specs.Ordering.{nat_cmp}
use Rattle.std.specs.declared.cmp.Ordering.{Ordering}
use Rattle.std.specs.declared.cmp.Ordering.TheVariants.{Less, Equal, Greater}
use Rattle.std.proofs.lemmas.Bool.Decides.{nat_tests}
use Rattle.std.proofs.lemmas.List.Folds.{find_at}
use Rattle.std.proofs.lemmas.Option.{slice_get_past}
use Rattle.fc_base.specs.Answers.{◌>>=◌}
use Rattle.fc_path.specs.declared.oper.Step.{Step}
use Rattle.fc_path.specs.declared.oper.Step.TheVariants as step
use Rattle.fc_tree.specs.Finding.{entries_layer, entries_of, gone_on, no_component, not_found, or_code, paired, part_at, part_layer, part_type, place_layer, stepped, walked}
use Rattle.fc_tree.specs.Putting.{checked_layer, put_at_place, put_in, put_new, put_part, created_layer}
use Rattle.fc_types.specs.Types.{field_id}
use Rattle.fc_types.specs.declared.ty.Field.{Field}
use Rattle.fc_types.specs.declared.ty.KeyDecl.{KeyDecl}
use Rattle.fc_types.specs.declared.ty.Ty.{Ty}
use Rattle.fc_types.specs.declared.ty.Ty.TheOpen.{Ty-F}
use Rattle.fc_types.specs.declared.ty.Ty.TheViews.{out-Ty}
use Rattle.fc_value.specs.Nodes.{child, child_layer, with_child, with_child_layer, with_entry}
use Rattle.fc_value.specs.Reading.{full_in}
use Rattle.fc_value.specs.declared.value.Value.{Value, out-Value}
use Rattle.fc_value.specs.declared.value.Value.TheOpen.{Value-F}
use Rattle.fc_value.specs.declared.value.Value.TheViews.{out-roll-Value}
use Rattle.fc_instance.specs.Cells.{look_cell, put_cell}
use Rattle.fc_store.specs.Stores.{DoPart}
use Rattle.fc_store.proofs.Lists.{at_position, get_other, none_some, some_is}
use Rattle.fc_store.proofs.Doing.{err_ok, ok_is}
use Rattle.fc_store.proofs.FoundAgain.{Parted, checked_is, child_with, created_is, entered_by, part_is, parted, place_is, stood, table_again}

-- ---- the entry with a subscript
abbrev has : ℕ → ℕ × Value → Bool
has b e = e.0 == b

differ_by : (a b : ℕ) (p q : Bool) → (a == b) ≡ q → cond p Less (cond q Equal Greater) ≡ Equal → a ≡ b
differ_by a b true q e f = absurd (cc)
differ_by a b false true e f = grind (arith, nat_tests, e)
differ_by a b false false e f = absurd (cc)

find_first : (b : ℕ) (e f : ℕ × Value) (es gs : List (ℕ × Value)) → (e.0 == b) ≡ false → (f.0 == b) ≡ false → find (has b) es ≡ find (has b) gs → find (has b) (e ∷ es) ≡ find (has b) (f ∷ gs)
find_first b e f es gs p q r = let s : find (has b) (e ∷ es) ≡ find (has b) es = rw p refl in let t : find (has b) (f ∷ gs) ≡ find (has b) gs = rw q refl in s ∙ r ∙ sym t

find_skip : (b : ℕ) (e : ℕ × Value) (es : List (ℕ × Value)) → (e.0 == b) ≡ false → find (has b) (e ∷ es) ≡ find (has b) es
find_skip b e es p = rw p refl

find_later : (b : ℕ) (e : ℕ × Value) (es gs : List (ℕ × Value)) (t : Bool) → (e.0 == b) ≡ t → find (has b) es ≡ find (has b) gs → find (has b) (e ∷ es) ≡ find (has b) (e ∷ gs)
find_later b e es gs true p r = let s : find (has b) (e ∷ es) ≡ Some e = rw p refl in let t : find (has b) (e ∷ gs) ≡ Some e = rw p refl in s ∙ sym t
find_later b e es gs false p r = find_first b e e es gs p p r

find_set : (b : ℕ) (es : List (ℕ × Value)) (i : ℕ) (e : ℕ × Value) (x : Value) → slice_get es i ≡ Some e → (e.0 == b) ≡ false → find (has b) (slice_set es i (e.0, x)) ≡ find (has b) es
find_set b [] i e x g p = refl
find_set b (f ∷ es) zero e x g p = find_first b (e.0, x) f es es p (ap (λ (h : ℕ × Value). h.0 == b) (some_is f e g) ∙ p) refl
find_set b (f ∷ es) (suc i) e x g p = find_later b f (slice_set es i (e.0, x)) es (f.0 == b) refl (find_set b es i e x g p)

find_put_by : (a b : ℕ) (x : Value) (e : ℕ × Value) (es : List (ℕ × Value)) (o : Ordering) → nat_cmp a e.0 ≡ o → (a == b) ≡ false → find (has b) (put nat_cmp a x es) ≡ find (has b) es
    → find (has b) (by_order o ((a, x) ∷ e ∷ es) ((e.0, x) ∷ es) (e ∷ put nat_cmp a x es)) ≡ find (has b) (e ∷ es)
find_put_by a b x e es Less c p more = find_skip b (a, x) (e ∷ es) p
find_put_by a b x e es Equal c p more =
    let q : (e.0 == b) ≡ false = ap (λ (k : ℕ). k == b) (sym (differ_by a e.0 (nat_lt a e.0) (a == e.0) refl c)) ∙ p in
    find_first b (e.0, x) e es es q q refl
find_put_by a b x e es Greater c p more = find_later b e (put nat_cmp a x es) es (e.0 == b) refl more

find_put : (a b : ℕ) (x : Value) (es : List (ℕ × Value)) → (a == b) ≡ false → find (has b) (put nat_cmp a x es) ≡ find (has b) es
find_put a b x [] p = find_skip b (a, x) [] p
find_put a b x (e ∷ es) p = find_put_by a b x e es (nat_cmp a e.0) refl p (find_put a b x es p)

-- ---- going on from an entry
abbrev from_entry : List Step → Ty → Option (ℕ × Value) → Result (Ty × Value) ℕ
from_entry ts entry None = Err not_found
from_entry ts entry (Some e) = walked ts entry e.1

layer_entry : (l : Value-F Value) (i : ℕ) (e : ℕ × Value) → slice_get (entries_layer l) i ≡ Some e → child_layer i l ≡ Some e.1
layer_entry (Value-F.Truth t) i e h = absurd (none_some e h)
layer_entry (Value-F.Number z) i e h = absurd (none_some e h)
layer_entry (Value-F.Text t) i e h = absurd (none_some e h)
layer_entry (Value-F.Raw bs) i e h = absurd (none_some e h)
layer_entry (Value-F.Group vs) i e h = absurd (none_some e h)
layer_entry (Value-F.Table es) i e h = ap (option_map (λ (q : ℕ × Value). q.1)) h

found_at : (b i : ℕ) (es : List (ℕ × Value)) → position (has b) es ≡ Some i → find (has b) es ≡ slice_get es i
found_at b i es e = let n : position_or_len (has b) es ≡ i = grind (arith, nat_tests, e) in find_at (has b) es ∙ ap (slice_get es) n

missing : (b : ℕ) (es : List (ℕ × Value)) → position (has b) es ≡ None → find (has b) es ≡ None
missing b es e = let n : length es ≤ position_or_len (has b) es = grind (arith, nat_tests, e) in find_at (has b) es ∙ slice_get_past es (position_or_len (has b) es) n

entry_by : (entry : Ty) (limit : ℕ) (keys : List KeyDecl) (b : ℕ) (ts : List Step) (ty : Ty) (u : Value) (o : Option ℕ) → out-Ty ty ≡ Ty-F.Array entry limit keys → position (has b) (entries_of u) ≡ o
    → stepped (walked ts) ty u o ≡ from_entry ts entry (find (has b) (entries_of u))
entry_by entry limit keys b ts ty u None l p = sym (ap (from_entry ts entry) (missing b (entries_of u) p))
entry_by entry limit keys b ts ty u (Some i) l p =
    let n = at_position (has b) (entries_of u) i p in
    ap (gone_on (walked ts)) (part_is i ty u entry n.0.1 (ap (part_layer i) l) (layer_entry (out-Value u) i n.0 n.1))
    ∙ sym (ap (from_entry ts entry) (found_at b i (entries_of u) p ∙ n.1))

entry_is : (entry : Ty) (limit : ℕ) (keys : List KeyDecl) (b : ℕ) (ts : List Step) (ty : Ty) (u : Value) → out-Ty ty ≡ Ty-F.Array entry limit keys
    → stepped (walked ts) ty u (position (has b) (entries_of u)) ≡ from_entry ts entry (find (has b) (entries_of u))
entry_is entry limit keys b ts ty u l = entry_by entry limit keys b ts ty u (position (has b) (entries_of u)) l refl

-- ---- what stands beside stays
abbrev Stays : List Step → List Step → List ℕ → Type 0
Stays ss ts bytes = (ty : Ty) (v w : Value) → put_in ss bytes ty v ≡ Ok w → walked ts ty w ≡ walked ts ty v

same_id : (a b : ℕ) → (a == b) ≡ true → a ≡ b
same_id a b e = grind (arith, nat_tests, e)

other_layer : (l : Value-F Value) (i j : ℕ) (w : Value) → (i == j) ≡ false → child_layer j (with_child_layer i w l) ≡ child_layer j l
other_layer (Value-F.Truth t) i j w e = refl
other_layer (Value-F.Number z) i j w e = refl
other_layer (Value-F.Text t) i j w e = refl
other_layer (Value-F.Raw bs) i j w e = refl
other_layer (Value-F.Group vs) i j w e = get_other vs i j w (λ s. let f : (i == j) ≡ true = grind (arith, nat_tests, s) in cc)
other_layer (Value-F.Table es) i j w e = ap (option_map (λ (q : ℕ × Value). q.1)) (by (slice_get es i))
  where
    by : (o : Option (ℕ × Value)) → slice_get (with_entry i w es o) j ≡ slice_get es j
    by None = refl
    by (Some p) = get_other es i j (p.0, w) (λ s. let f : (i == j) ≡ true = grind (arith, nat_tests, s) in cc)

other_child : (v : Value) (i j : ℕ) (w : Value) → (i == j) ≡ false → child j (with_child i w v) ≡ child j v
other_child v i j w e = ap (child_layer j) (out-roll-Value (with_child_layer i w (out-Value v))) ∙ other_layer (out-Value v) i j w e

-- the same part of both, in one of which another value was put
same_part : (ss ts : List Step) (bytes : List ℕ) (i : ℕ) (ty : Ty) (v w : Value) (m : Parted ss bytes i ty v w) → Stays ss ts bytes → child i w ≡ Some m.x
    → gone_on (walked ts) (part_at i ty w) ≡ gone_on (walked ts) (part_at i ty v)
same_part ss ts bytes i ty v w m stays k =
    ap (gone_on (walked ts)) (part_is i ty w m.t m.x m.typed k) ∙ stays m.t m.c m.x m.below ∙ sym (ap (gone_on (walked ts)) (part_is i ty v m.t m.c m.typed m.part))

beside_struct : (fields : List Field) (a b : ℕ) (ss ts : List Step) (bytes : List ℕ) (ty : Ty) (v w : Value) (i j : ℕ) (same : Bool) → out-Ty ty ≡ Ty-F.Struct fields → (i == j) ≡ same
    → (i ≡ j → Stays ss ts bytes) → put_part (put_in ss bytes) i ty v (part_at i ty v) ≡ Ok w → gone_on (walked ts) (part_at j ty w) ≡ gone_on (walked ts) (part_at j ty v)
beside_struct fields a b ss ts bytes ty v w i j true l q more e =
    let m = parted ss bytes i ty v w e in
    let is : with_child i m.x v ≡ w = ok_is (with_child i m.x v) w (sym (checked_is ty (with_child i m.x v) ∙ ap (λ layer. checked_layer layer (with_child i m.x v)) l) ∙ m.whole) in
    let k : i ≡ j = same_id i j q in
    subst (λ n. gone_on (walked ts) (part_at n ty w) ≡ gone_on (walked ts) (part_at n ty v)) k
    (same_part ss ts bytes i ty v w m (more k) (ap (child i) (sym is) ∙ child_with v i m.x m.c m.part))
beside_struct fields a b ss ts bytes ty v w i j false l q more e =
    let m = parted ss bytes i ty v w e in
    let is : with_child i m.x v ≡ w = ok_is (with_child i m.x v) w (sym (checked_is ty (with_child i m.x v) ∙ ap (λ layer. checked_layer layer (with_child i m.x v)) l) ∙ m.whole) in
    ap (λ c. gone_on (walked ts) (paired (part_type j ty) c)) (ap (child j) (sym is) ∙ other_child v i j m.x q)

struct_beside : (fields : List Field) (a b : ℕ) (ss ts : List Step) (bytes : List ℕ) (ty : Ty) (v w : Value) (o p : Option ℕ) → out-Ty ty ≡ Ty-F.Struct fields → (a ≡ b → Stays ss ts bytes)
    → position (λ f. field_id f == a) fields ≡ o → position (λ f. field_id f == b) fields ≡ p
    → (or_code no_component (option_map Some o) >>= put_at_place (put_in ss bytes) ss (step.Id a) bytes ty v) ≡ Ok w
    → (or_code no_component (option_map Some p) >>= stepped (walked ts) ty w) ≡ (or_code no_component (option_map Some p) >>= stepped (walked ts) ty v)
struct_beside fields a b ss ts bytes ty v w None p l more f g e = absurd (err_ok no_component w e)
struct_beside fields a b ss ts bytes ty v w (Some i) None l more f g e = refl
struct_beside fields a b ss ts bytes ty v w (Some i) (Some j) l more f g e =
    beside_struct fields a b ss ts bytes ty v w i j (i == j) l refl (λ k. more (same_fields k)) e
  where
    same_fields : i ≡ j → a ≡ b
    same_fields k =
        let m = at_position (λ f. field_id f == a) fields i f in
        let n = at_position (λ f. field_id f == b) fields j g in
        let s : m.0 ≡ n.0 = some_is m.0 n.0 (sym m.1 ∙ ap (slice_get fields) k ∙ n.1) in
        sym (same_id (field_id m.0) a m.2) ∙ ap field_id s ∙ same_id (field_id n.0) b n.2

-- an entry that stands
beside_old : (entry : Ty) (limit : ℕ) (keys : List KeyDecl) (a b : ℕ) (ss ts : List Step) (bytes : List ℕ) (ty : Ty) (v w : Value) (i : ℕ) (same : Bool) → out-Ty ty ≡ Ty-F.Array entry limit keys → (a == b) ≡ same
    → (a ≡ b → Stays ss ts bytes) → position (has a) (entries_of v) ≡ Some i → put_part (put_in ss bytes) i ty v (part_at i ty v) ≡ Ok w
    → stepped (walked ts) ty w (position (has b) (entries_of w)) ≡ stepped (walked ts) ty v (position (has b) (entries_of v))
beside_old entry limit keys a b ss ts bytes ty v w i true l q more f e =
    let k : a ≡ b = same_id a b q in
    let o = stood entry limit keys a ss bytes ty v w i l f e in
    subst (λ n. stepped (walked ts) ty w (position (has n) (entries_of w)) ≡ stepped (walked ts) ty v (position (has n) (entries_of v))) k
    (ap (stepped (walked ts) ty w) o.found ∙ same_part ss ts bytes i ty v w o.part (more k) o.child ∙ sym (ap (stepped (walked ts) ty v) f))
beside_old entry limit keys a b ss ts bytes ty v w i false l q more f e =
    let o = stood entry limit keys a ss bytes ty v w i l f e in
    let d : (o.entry.0 == b) ≡ false = ap (λ (k : ℕ). k == b) (same_id o.entry.0 a o.named) ∙ q in
    entry_is entry limit keys b ts ty w l ∙ ap (from_entry ts entry) (ap (find (has b)) o.entries ∙ find_set b (entries_of v) i o.entry o.part.x o.there d)
    ∙ sym (entry_is entry limit keys b ts ty v l)

-- a new entry
beside_new : (entry : Ty) (limit : ℕ) (keys : List KeyDecl) (a b : ℕ) (ss ts : List Step) (bytes : List ℕ) (ty : Ty) (v w : Value) (same : Bool) → out-Ty ty ≡ Ty-F.Array entry limit keys → (a == b) ≡ same
    → (a ≡ b → DoPart ss ts) → put_new ss (step.Id a) bytes ty v ≡ Ok w → stepped (walked ts) ty w (position (has b) (entries_of w)) ≡ stepped (walked ts) ty v (position (has b) (entries_of v))
beside_new entry limit keys a b (s ∷ ss) ts bytes ty v w same l q parts e = absurd (err_ok not_found w e)
beside_new entry limit keys a b [] ts bytes ty v w true l q parts e = absurd (parts (same_id a b q))
beside_new entry limit keys a b [] ts bytes ty v w false l q parts e =
    let m = entered_by entry limit keys bytes a (entries_of v) w (full_in entry bytes) refl (sym (created_is a bytes ty v ∙ ap (λ layer. created_layer a bytes layer v) l) ∙ e) in
    entry_is entry limit keys b ts ty w l
    ∙ ap (from_entry ts entry) (ap (λ u. find (has b) (entries_of u)) m.is ∙ ap (find (has b)) (table_again (put nat_cmp a m.x (entries_of v))) ∙ find_put a b m.x (entries_of v) q)
    ∙ sym (entry_is entry limit keys b ts ty v l)

array_beside : (entry : Ty) (limit : ℕ) (keys : List KeyDecl) (a b : ℕ) (ss ts : List Step) (bytes : List ℕ) (ty : Ty) (v w : Value) (o : Option ℕ) → out-Ty ty ≡ Ty-F.Array entry limit keys → (a ≡ b → DoPart ss ts)
    → (a ≡ b → Stays ss ts bytes) → position (has a) (entries_of v) ≡ o → put_at_place (put_in ss bytes) ss (step.Id a) bytes ty v o ≡ Ok w
    → stepped (walked ts) ty w (position (has b) (entries_of w)) ≡ stepped (walked ts) ty v (position (has b) (entries_of v))
array_beside entry limit keys a b ss ts bytes ty v w None l parts more f e = beside_new entry limit keys a b ss ts bytes ty v w (a == b) l refl parts e
array_beside entry limit keys a b ss ts bytes ty v w (Some i) l parts more f e = beside_old entry limit keys a b ss ts bytes ty v w i (a == b) l refl more f e

layer_beside : (a b : ℕ) (ss ts : List Step) (bytes : List ℕ) (ty : Ty) (v w : Value) (layer : Ty-F Ty Field) → out-Ty ty ≡ layer → (a ≡ b → DoPart ss ts) → (a ≡ b → Stays ss ts bytes)
    → (place_layer layer v (step.Id a) >>= put_at_place (put_in ss bytes) ss (step.Id a) bytes ty v) ≡ Ok w
    → (place_layer layer w (step.Id b) >>= stepped (walked ts) ty w) ≡ (place_layer layer v (step.Id b) >>= stepped (walked ts) ty v)
layer_beside a b ss ts bytes ty v w Ty-F.Bool l parts more e = refl
layer_beside a b ss ts bytes ty v w (Ty-F.Number n signed min max) l parts more e = refl
layer_beside a b ss ts bytes ty v w (Ty-F.String length) l parts more e = refl
layer_beside a b ss ts bytes ty v w (Ty-F.Octets length) l parts more e = refl
layer_beside a b ss ts bytes ty v w (Ty-F.Bytes length) l parts more e = refl
layer_beside a b ss ts bytes ty v w (Ty-F.Struct fields) l parts more e =
    struct_beside fields a b ss ts bytes ty v w (position (λ f. field_id f == a) fields) (position (λ f. field_id f == b) fields) l more refl refl e
layer_beside a b ss ts bytes ty v w (Ty-F.Array entry limit keys) l parts more e = array_beside entry limit keys a b ss ts bytes ty v w (position (has a) (entries_of v)) l parts more refl e

step_beside : (a b : ℕ) (ss ts : List Step) (bytes : List ℕ) → (a ≡ b → DoPart ss ts) → (a ≡ b → Stays ss ts bytes) → Stays (step.Id a ∷ ss) (step.Id b ∷ ts) bytes
step_beside a b ss ts bytes parts more ty v w e =
    ap (λ r. r >>= stepped (walked ts) ty w) (place_is ty w (step.Id b))
    ∙ layer_beside a b ss ts bytes ty v w (out-Ty ty) refl parts more (sym (ap (λ r. r >>= put_at_place (put_in ss bytes) ss (step.Id a) bytes ty v) (place_is ty v (step.Id a))) ∙ e)
    ∙ sym (ap (λ r. r >>= stepped (walked ts) ty v) (place_is ty v (step.Id b)))

beside : (ss ts : List Step) (bytes : List ℕ) → DoPart ss ts → Stays ss ts bytes
beside [] ts bytes p = absurd p
beside (step.Id a ∷ ss) [] bytes p = absurd p
beside (step.Key k key ∷ ss) [] bytes p = absurd p
beside (step.Id a ∷ ss) (step.Id b ∷ ts) bytes p = step_beside a b ss ts bytes p (λ e. beside ss ts bytes (p e))
beside (step.Id a ∷ ss) (step.Key k key ∷ ts) bytes p = absurd p
beside (step.Key k key ∷ ss) (t ∷ ts) bytes p = absurd p

-- ---- the same of a component
beside_by : (ss ts : List Step) (bytes : List ℕ) (ty : Ty) (v : Value) (o : Option Value) (r : Result Value ℕ) → Stays ss ts bytes → put_in ss bytes ty v ≡ r → (r >>= λ w. Ok (Some w)) ≡ Ok o
    → look_cell ts ty o ≡ look_cell ts ty (Some v)
beside_by ss ts bytes ty v o (Err code) stays f e = absurd (err_ok code o e)
beside_by ss ts bytes ty v o (Ok w) stays f e = ap (look_cell ts ty) (sym (ok_is (Some w) o e)) ∙ stays ty v w f

pub cell_beside : (ss ts : List Step) (bytes : List ℕ) (ty : Ty) (v o : Option Value) → DoPart ss ts → put_cell ss bytes ty v ≡ Ok o → look_cell ts ty o ≡ look_cell ts ty v
cell_beside [] ts bytes ty v o p e = absurd p
cell_beside (s ∷ ss) ts bytes ty None o p e = absurd (err_ok not_found o e)
cell_beside (s ∷ ss) ts bytes ty (Some v) o p e = beside_by (s ∷ ss) ts bytes ty v o (put_in (s ∷ ss) bytes ty v) (beside (s ∷ ss) ts bytes p) refl e
