-- What is put at IDs is found there.
use Rattle.std.proofs.Common.{◌≡◌, ℕ, zero, suc, ◌<◌, ◌==◌, cond, Bool, true, false, nat_lt, nat_le, List, [], ◌∷◌, length, slice_get, slice_set, refl, sym, ap, subst, ◌∙◌, arith, Option, Some, None, option_map, position, Result, Ok, Err, if◌then◌else◌}
use Rattle.std.specs.List.{position_or_len}
use Rattle.std.specs.FinMap.Entries.{by_order, put}
use Rattle.std.specs.Ordering.{nat_cmp}
use Rattle.std.specs.declared.cmp.Ordering.{Ordering}
use Rattle.std.specs.declared.cmp.Ordering.TheVariants.{Less, Equal, Greater}
use Rattle.std.proofs.lemmas.Bool.Decides.{nat_tests}
use Rattle.fc_base.specs.Answers.{◌>>=◌}
use Rattle.fc_path.specs.declared.oper.Step.{Step}
use Rattle.fc_path.specs.declared.oper.Step.TheVariants as step
use Rattle.fc_tree.specs.Finding.{entries_layer, entries_of, gone_on, invalid_path, no_component, not_found, or_code, paired, part_at, part_layer, part_type, place_in, place_layer, stepped, walked}
use Rattle.fc_tree.specs.Putting.{already_there, checked, checked_layer, created, created_layer, entered, keyed, no_room, put_at_place, put_in, put_new, put_part}
use Rattle.fc_types.specs.Types.{field_id, fields_of}
use Rattle.fc_types.specs.declared.ty.Field.{Field}
use Rattle.fc_types.specs.declared.ty.KeyDecl.{KeyDecl}
use Rattle.fc_types.specs.declared.ty.Ty.{Ty}
use Rattle.fc_types.specs.declared.ty.Ty.TheOpen.{Ty-F}
use Rattle.fc_types.specs.declared.ty.Ty.TheViews.{out-Ty}
use Rattle.fc_value.specs.Keys.{keys_differ}
use Rattle.fc_value.specs.Nodes.{child, child_layer, with_child, with_child_layer, with_entry}
use Rattle.fc_value.specs.Reading.{full_in}
use Rattle.fc_value.specs.declared.value.Value.{Value, out-Value}
use Rattle.fc_value.specs.declared.value.Value.TheVariants as value
use Rattle.fc_value.specs.declared.value.Value.TheOpen.{Value-F}
use Rattle.fc_value.specs.declared.value.Value.TheViews.{out-roll-Value, rolls-Table}
use Rattle.fc_instance.specs.Cells.{look_cell, put_cell}
use Rattle.fc_store.specs.Stores.{AreIds, Found}
use Rattle.fc_store.proofs.Lists.{at_position, get_set, none_some}
use Rattle.fc_store.proofs.Doing.{err_ok, ok_is}

-- ---- the first that passes a test
abbrev IsFirst : {X : Type 0} → (X → Bool) → List X → ℕ → Type 0
IsFirst p [] i = ⊥
IsFirst p (x ∷ xs) zero = p x ≡ true
IsFirst p (x ∷ xs) (suc i) = (p x ≡ false) × IsFirst p xs i

first_place : {X : Type 0} (p : X → Bool) (xs : List X) (i : ℕ) → IsFirst p xs i → position_or_len p xs ≡ i
first_place p [] i f = absurd f
first_place p (x ∷ xs) zero f = rw f refl
first_place p (x ∷ xs) (suc i) f = let more : position_or_len p xs ≡ i = first_place p xs i f.1 in rw f.0 (omega (arith, more))

first_within : {X : Type 0} (p : X → Bool) (xs : List X) (i : ℕ) → IsFirst p xs i → i < length xs
first_within p [] i f = absurd f
first_within p (x ∷ xs) zero f = omega arith
first_within p (x ∷ xs) (suc i) f = let n : i < length xs = first_within p xs i f.1 in omega (arith, n)

first_position : {X : Type 0} (p : X → Bool) (xs : List X) (i : ℕ) → IsFirst p xs i → position p xs ≡ Some i
first_position p xs i f =
    let e : position_or_len p xs ≡ i = first_place p xs i f in
    let lt : i < length xs = first_within p xs i f in
    grind (arith, nat_tests, e, lt)

is_first_by : {X : Type 0} (p : X → Bool) (x : X) (xs : List X) (i : ℕ) (b : Bool) → p x ≡ b → position_or_len p (x ∷ xs) ≡ i → i < length (x ∷ xs)
    → ((j : ℕ) → position_or_len p xs ≡ j → j < length xs → IsFirst p xs j) → IsFirst p (x ∷ xs) i
is_first_by p x xs i true f e lt more = let n : position_or_len p (x ∷ xs) ≡ 0 = rw f refl in subst (IsFirst p (x ∷ xs)) (sym n ∙ e) f
is_first_by p x xs i false f e lt more =
    let n : position_or_len p (x ∷ xs) ≡ suc (position_or_len p xs) = rw f (omega arith) in
    subst (IsFirst p (x ∷ xs)) (sym n ∙ e) (f, more (position_or_len p xs) refl (omega (arith, n, e, lt)))

is_first : {X : Type 0} (p : X → Bool) (xs : List X) (i : ℕ) → position_or_len p xs ≡ i → i < length xs → IsFirst p xs i
is_first p [] i e lt = absurd (omega arith)
is_first p (x ∷ xs) i e lt = is_first_by p x xs i (p x) refl e lt (is_first p xs)

position_first : {X : Type 0} (p : X → Bool) (xs : List X) (i : ℕ) → position p xs ≡ Some i → IsFirst p xs i
position_first p xs i e =
    let t : (position_or_len p xs ≡ i) × (position_or_len p xs < length xs) = (grind (arith, nat_tests, e), grind (arith, nat_tests, e)) in
    is_first p xs i t.0 (omega (arith, t.0, t.1))

first_set : {X : Type 0} (p : X → Bool) (xs : List X) (i : ℕ) (y : X) → IsFirst p xs i → p y ≡ true → IsFirst p (slice_set xs i y) i
first_set p [] i y f e = absurd f
first_set p (x ∷ xs) zero y f e = e
first_set p (x ∷ xs) (suc i) y f e = (f.0, first_set p xs i y f.1 e)

-- ---- an entry that is put is the first with its subscript
itself : (a : ℕ) → (a == a) ≡ true
itself a = grind (arith, nat_tests)

equal_by : (a b : ℕ) (p q : Bool) → (a == b) ≡ q → cond p Less (cond q Equal Greater) ≡ Equal → (b == a) ≡ true
equal_by a b true q e f = absurd (cc)
equal_by a b false true e f = grind (arith, nat_tests, e)
equal_by a b false false e f = absurd (cc)

above_by : (a b : ℕ) (p q : Bool) → (a == b) ≡ q → cond p Less (cond q Equal Greater) ≡ Greater → (b == a) ≡ false
above_by a b true q e f = absurd (cc)
above_by a b false true e f = absurd (cc)
above_by a b false false e f = grind (arith, nat_tests, e)

-- where an entry stands that was put among others
record PutAt (id : ℕ) (x : Value) (es : List (ℕ × Value)) : Type 0 where
  place : ℕ
  entry : ℕ × Value
  first : IsFirst (λ (e : ℕ × Value). e.0 == id) es place
  there : slice_get es place ≡ Some entry
  value : entry.1 ≡ x

put_at_by : (id : ℕ) (x : Value) (e : ℕ × Value) (es : List (ℕ × Value)) (o : Ordering) → nat_cmp id e.0 ≡ o → PutAt id x (put nat_cmp id x es)
    → PutAt id x (by_order o ((id, x) ∷ e ∷ es) ((e.0, x) ∷ es) (e ∷ put nat_cmp id x es))
put_at_by id x e es Less c more = record { place = 0; entry = (id, x); first = itself id; there = refl; value = refl }
put_at_by id x e es Equal c more = record { place = 0; entry = (e.0, x); first = equal_by id e.0 (nat_lt id e.0) (id == e.0) refl c; there = refl; value = refl }
put_at_by id x e es Greater c more =
    record { place = suc more.place; entry = more.entry; first = (above_by id e.0 (nat_lt id e.0) (id == e.0) refl c, more.first); there = more.there; value = more.value }

put_at : (id : ℕ) (x : Value) (es : List (ℕ × Value)) → PutAt id x (put nat_cmp id x es)
put_at id x [] = record { place = 0; entry = (id, x); first = itself id; there = refl; value = refl }
put_at id x (e ∷ es) = put_at_by id x e es (nat_cmp id e.0) refl (put_at id x es)

-- ---- a part that is put
entry_child : (es : List (ℕ × Value)) (i : ℕ) (w c : Value) (o : Option (ℕ × Value)) → slice_get es i ≡ o → option_map (λ e. e.1) o ≡ Some c
    → option_map (λ e. e.1) (slice_get (with_entry i w es o) i) ≡ Some w
entry_child es i w c None e h = absurd (none_some c h)
entry_child es i w c (Some p) e h = ap (option_map (λ (q : ℕ × Value). q.1)) (get_set es i p (p.0, w) e)

layer_child : (l : Value-F Value) (i : ℕ) (w c : Value) → child_layer i l ≡ Some c → child_layer i (with_child_layer i w l) ≡ Some w
layer_child (Value-F.Truth t) i w c h = absurd (none_some c h)
layer_child (Value-F.Number z) i w c h = absurd (none_some c h)
layer_child (Value-F.Text t) i w c h = absurd (none_some c h)
layer_child (Value-F.Raw bs) i w c h = absurd (none_some c h)
layer_child (Value-F.Group vs) i w c h = get_set vs i c w h
layer_child (Value-F.Table es) i w c h = entry_child es i w c (slice_get es i) refl h

pub child_with : (v : Value) (i : ℕ) (w c : Value) → child i v ≡ Some c → child i (with_child i w v) ≡ Some w
child_with v i w c h = ap (child_layer i) (out-roll-Value (with_child_layer i w (out-Value v))) ∙ layer_child (out-Value v) i w c h

layer_entries : (l : Value-F Value) (i : ℕ) (x : Value) (e : ℕ × Value) → slice_get (entries_layer l) i ≡ Some e → entries_layer (with_child_layer i x l) ≡ slice_set (entries_layer l) i (e.0, x)
layer_entries (Value-F.Truth t) i x e h = absurd (none_some e h)
layer_entries (Value-F.Number z) i x e h = absurd (none_some e h)
layer_entries (Value-F.Text t) i x e h = absurd (none_some e h)
layer_entries (Value-F.Raw bs) i x e h = absurd (none_some e h)
layer_entries (Value-F.Group vs) i x e h = absurd (none_some e h)
layer_entries (Value-F.Table es) i x e h = ap (with_entry i x es) h

pub entries_with : (v : Value) (i : ℕ) (x : Value) (e : ℕ × Value) → slice_get (entries_of v) i ≡ Some e → entries_of (with_child i x v) ≡ slice_set (entries_of v) i (e.0, x)
entries_with v i x e h = ap entries_layer (out-roll-Value (with_child_layer i x (out-Value v))) ∙ layer_entries (out-Value v) i x e h

pub table_again : (es : List (ℕ × Value)) → entries_of (value.Table es) ≡ es
table_again es = ap (λ v. entries_of v) (sym (rolls-Table es)) ∙ ap (λ l. entries_layer l) (out-roll-Value (Value-F.Table es))

table_child : (es : List (ℕ × Value)) (i : ℕ) (e : ℕ × Value) → slice_get es i ≡ Some e → child i (value.Table es) ≡ Some e.1
table_child es i e h = ap (λ v. child i v) (sym (rolls-Table es)) ∙ ap (λ l. child_layer i l) (out-roll-Value (Value-F.Table es)) ∙ ap (option_map (λ (q : ℕ × Value). q.1)) h

-- ---- what the words for a value say of its layer
pub place_is : (ty : Ty) (v : Value) (s : Step) → place_in ty v s ≡ place_layer (out-Ty ty) v s
unfolding place_in
place_is ty v s = refl

pub checked_is : (ty : Ty) (v : Value) → checked ty v ≡ checked_layer (out-Ty ty) v
unfolding checked
checked_is ty v = refl

pub created_is : (id : ℕ) (bytes : List ℕ) (ty : Ty) (v : Value) → created id bytes ty v ≡ created_layer id bytes (out-Ty ty) v
unfolding created
created_is id bytes ty v = refl

keyed_by : (es : List (ℕ × Value)) (w : Value) (b : Bool) → (let r : Result Value ℕ = if b then Ok (value.Table es) else Err already_there in r ≡ Ok w) → w ≡ value.Table es
keyed_by es w true e = sym (ok_is (value.Table es) w e)
keyed_by es w false e = absurd (err_ok already_there w e)

pub keyed_is : (fields : List Field) (keys : List KeyDecl) (es : List (ℕ × Value)) (w : Value) → keyed fields keys es ≡ Ok w → w ≡ value.Table es
keyed_is fields keys es w e = keyed_by es w (keys_differ fields keys es) e

-- ---- what is put is found
abbrev Again : List Step → List ℕ → Type 0
Again ss bytes = (ty : Ty) (v w : Value) → put_in ss bytes ty v ≡ Ok w → Found bytes (walked ss ty w)

pub found_same : (bytes : List ℕ) (q r : Result (Ty × Value) ℕ) → q ≡ r → Found bytes r → Found bytes q
found_same bytes q r e f = subst (Found bytes) (sym e) f

-- a part at a place, and what is put within it
pub record Parted (ss : List Step) (bytes : List ℕ) (i : ℕ) (ty : Ty) (v w : Value) : Type 0 where
  pub t : Ty
  pub c : Value
  pub x : Value
  pub typed : part_type i ty ≡ Some t
  pub part : child i v ≡ Some c
  pub below : put_in ss bytes t c ≡ Ok x
  pub whole : checked ty (with_child i x v) ≡ Ok w

parted_of : (ss : List Step) (bytes : List ℕ) (i : ℕ) (ty : Ty) (v w : Value) (t : Ty) (c : Value) (r : Result Value ℕ) → part_type i ty ≡ Some t → child i v ≡ Some c → put_in ss bytes t c ≡ r
    → (r >>= λ x. checked ty (with_child i x v)) ≡ Ok w → Parted ss bytes i ty v w
parted_of ss bytes i ty v w t c (Err code) p q r e = absurd (err_ok code w e)
parted_of ss bytes i ty v w t c (Ok x) p q r e = record { t = t; c = c; x = x; typed = p; part = q; below = r; whole = e }

parted_by : (ss : List Step) (bytes : List ℕ) (i : ℕ) (ty : Ty) (v w : Value) (t : Option Ty) (c : Option Value) → part_type i ty ≡ t → child i v ≡ c
    → put_part (put_in ss bytes) i ty v (paired t c) ≡ Ok w → Parted ss bytes i ty v w
parted_by ss bytes i ty v w None c p q e = absurd (err_ok invalid_path w e)
parted_by ss bytes i ty v w (Some t) None p q e = absurd (err_ok invalid_path w e)
parted_by ss bytes i ty v w (Some t) (Some c) p q e = parted_of ss bytes i ty v w t c (put_in ss bytes t c) p q refl e

pub parted : (ss : List Step) (bytes : List ℕ) (i : ℕ) (ty : Ty) (v w : Value) → put_part (put_in ss bytes) i ty v (part_at i ty v) ≡ Ok w → Parted ss bytes i ty v w
parted ss bytes i ty v w e = parted_by ss bytes i ty v w (part_type i ty) (child i v) refl refl e

pub part_is : (i : ℕ) (ty : Ty) (w : Value) (t : Ty) (x : Value) → part_type i ty ≡ Some t → child i w ≡ Some x → part_at i ty w ≡ Some (t, x)
part_is i ty w t x p q = ap (λ o. paired o (child i w)) p ∙ ap (paired (Some t)) q

below_found : (ss : List Step) (bytes : List ℕ) (i : ℕ) (ty : Ty) (v w : Value) (m : Parted ss bytes i ty v w) → Again ss bytes → child i w ≡ Some m.x → Found bytes (gone_on (walked ss) (part_at i ty w))
below_found ss bytes i ty v w m again k =
    found_same bytes (gone_on (walked ss) (part_at i ty w)) (walked ss m.t m.x) (ap (gone_on (walked ss)) (part_is i ty w m.t m.x m.typed k)) (again m.t m.c m.x m.below)

struct_by : (fields : List Field) (id : ℕ) (ss : List Step) (bytes : List ℕ) (ty : Ty) (v w : Value) (o : Option ℕ) → out-Ty ty ≡ Ty-F.Struct fields → Again ss bytes
    → (or_code no_component (option_map Some o) >>= put_at_place (put_in ss bytes) ss (step.Id id) bytes ty v) ≡ Ok w → Found bytes (or_code no_component (option_map Some o) >>= stepped (walked ss) ty w)
struct_by fields id ss bytes ty v w None l again e = absurd (err_ok no_component w e)
struct_by fields id ss bytes ty v w (Some i) l again e =
    let m = parted ss bytes i ty v w e in
    let same : with_child i m.x v ≡ w = ok_is (with_child i m.x v) w (sym (checked_is ty (with_child i m.x v) ∙ ap (λ layer. checked_layer layer (with_child i m.x v)) l) ∙ m.whole) in
    below_found ss bytes i ty v w m again (ap (child i) (sym same) ∙ child_with v i m.x m.c m.part)

-- an entry that stands, within which something was put
pub record Stood (id : ℕ) (ss : List Step) (bytes : List ℕ) (ty : Ty) (v w : Value) (i : ℕ) : Type 0 where
  pub part : Parted ss bytes i ty v w
  pub entry : ℕ × Value
  pub named : (entry.0 == id) ≡ true
  pub there : slice_get (entries_of v) i ≡ Some entry
  pub entries : entries_of w ≡ slice_set (entries_of v) i (entry.0, part.x)
  pub child : child i w ≡ Some part.x
  pub found : position (λ (e : ℕ × Value). e.0 == id) (entries_of w) ≡ Some i

pub stood : (entry : Ty) (limit : ℕ) (keys : List KeyDecl) (id : ℕ) (ss : List Step) (bytes : List ℕ) (ty : Ty) (v w : Value) (i : ℕ) → out-Ty ty ≡ Ty-F.Array entry limit keys
    → position (λ (e : ℕ × Value). e.0 == id) (entries_of v) ≡ Some i → put_part (put_in ss bytes) i ty v (part_at i ty v) ≡ Ok w → Stood id ss bytes ty v w i
stood entry limit keys id ss bytes ty v w i l f e =
    let m = parted ss bytes i ty v w e in
    let n = at_position (λ (e : ℕ × Value). e.0 == id) (entries_of v) i f in
    let es = slice_set (entries_of v) i (n.0.0, m.x) in
    let is : w ≡ value.Table es =
    keyed_is (fields_of entry) keys (entries_of (with_child i m.x v)) w (sym (checked_is ty (with_child i m.x v) ∙ ap (λ layer. checked_layer layer (with_child i m.x v)) l) ∙ m.whole)
    ∙ ap (λ (xs : List (ℕ × Value)). value.Table xs) (entries_with v i m.x n.0 n.1) in
    let now : entries_of w ≡ es = ap (λ u. entries_of u) is ∙ table_again es in
    record {
      part = m;
      entry = n.0;
      named = n.2;
      there = n.1;
      entries = now;
      child = ap (child i) is ∙ table_child es i (n.0.0, m.x) (get_set (entries_of v) i n.0 (n.0.0, m.x) n.1);
      found = ap (position (λ (e : ℕ × Value). e.0 == id)) now
          ∙ first_position (λ (e : ℕ × Value). e.0 == id) es i
          (first_set (λ (e : ℕ × Value). e.0 == id) (entries_of v) i (n.0.0, m.x) (position_first (λ (e : ℕ × Value). e.0 == id) (entries_of v) i f) n.2);
    }

old_entry : (entry : Ty) (limit : ℕ) (keys : List KeyDecl) (id : ℕ) (ss : List Step) (bytes : List ℕ) (ty : Ty) (v w : Value) (i : ℕ) → out-Ty ty ≡ Ty-F.Array entry limit keys → Again ss bytes
    → position (λ (e : ℕ × Value). e.0 == id) (entries_of v) ≡ Some i → put_part (put_in ss bytes) i ty v (part_at i ty v) ≡ Ok w
    → Found bytes (stepped (walked ss) ty w (position (λ (e : ℕ × Value). e.0 == id) (entries_of w)))
old_entry entry limit keys id ss bytes ty v w i l again f e =
    let o = stood entry limit keys id ss bytes ty v w i l f e in
    found_same bytes (stepped (walked ss) ty w (position (λ (e : ℕ × Value). e.0 == id) (entries_of w))) (gone_on (walked ss) (part_at i ty w)) (ap (stepped (walked ss) ty w) o.found)
    (below_found ss bytes i ty v w o.part again o.child)

-- a new entry
pub record Entered (entry : Ty) (bytes : List ℕ) (id : ℕ) (es : List (ℕ × Value)) (w : Value) : Type 0 where
  pub x : Value
  pub read : full_in entry bytes ≡ Ok x
  pub is : w ≡ value.Table (put nat_cmp id x es)

entered_if : (entry : Ty) (keys : List KeyDecl) (bytes : List ℕ) (id : ℕ) (es : List (ℕ × Value)) (w x : Value) (b : Bool) → full_in entry bytes ≡ Ok x
    → (let r : Result (List (ℕ × Value)) ℕ = if b then Err no_room else Ok (put nat_cmp id x es) in (r >>= keyed (fields_of entry) keys) ≡ Ok w) → Entered entry bytes id es w
entered_if entry keys bytes id es w x true f e = absurd (err_ok no_room w e)
entered_if entry keys bytes id es w x false f e = record { x = x; read = f; is = keyed_is (fields_of entry) keys (put nat_cmp id x es) w e }

pub entered_by : (entry : Ty) (limit : ℕ) (keys : List KeyDecl) (bytes : List ℕ) (id : ℕ) (es : List (ℕ × Value)) (w : Value) (r : Result Value ℕ) → full_in entry bytes ≡ r
    → ((r >>= λ x. entered id limit es x) >>= keyed (fields_of entry) keys) ≡ Ok w → Entered entry bytes id es w
entered_by entry limit keys bytes id es w (Err code) f e = absurd (err_ok code w e)
entered_by entry limit keys bytes id es w (Ok x) f e = entered_if entry keys bytes id es w x (nat_le limit (length es)) f e

new_entry : (entry : Ty) (limit : ℕ) (keys : List KeyDecl) (id : ℕ) (ss : List Step) (bytes : List ℕ) (ty : Ty) (v w : Value) → out-Ty ty ≡ Ty-F.Array entry limit keys
    → put_new ss (step.Id id) bytes ty v ≡ Ok w → Found bytes (stepped (walked ss) ty w (position (λ (e : ℕ × Value). e.0 == id) (entries_of w)))
new_entry entry limit keys id (t ∷ ts) bytes ty v w l e = absurd (err_ok not_found w e)
new_entry entry limit keys id [] bytes ty v w l e =
    let m = entered_by entry limit keys bytes id (entries_of v) w (full_in entry bytes) refl (sym (created_is id bytes ty v ∙ ap (λ layer. created_layer id bytes layer v) l) ∙ e) in
    let es = put nat_cmp id m.x (entries_of v) in
    let n = put_at id m.x (entries_of v) in
    let p : position (λ (e : ℕ × Value). e.0 == id) (entries_of w) ≡ Some n.place =
    ap (λ u. position (λ (e : ℕ × Value). e.0 == id) (entries_of u)) m.is ∙ ap (position (λ (e : ℕ × Value). e.0 == id)) (table_again es)
    ∙ first_position (λ (e : ℕ × Value). e.0 == id) es n.place n.first in
    let k : child n.place w ≡ Some m.x = ap (child n.place) m.is ∙ table_child es n.place n.entry n.there ∙ ap Some n.value in
    ((entry, m.x), ap (stepped (walked []) ty w) p ∙ ap (gone_on (walked [])) (part_is n.place ty w entry m.x (ap (part_layer n.place) l) k), m.read)

array_by : (entry : Ty) (limit : ℕ) (keys : List KeyDecl) (id : ℕ) (ss : List Step) (bytes : List ℕ) (ty : Ty) (v w : Value) (o : Option ℕ) → out-Ty ty ≡ Ty-F.Array entry limit keys → Again ss bytes
    → position (λ (e : ℕ × Value). e.0 == id) (entries_of v) ≡ o → put_at_place (put_in ss bytes) ss (step.Id id) bytes ty v o ≡ Ok w
    → Found bytes (stepped (walked ss) ty w (position (λ (e : ℕ × Value). e.0 == id) (entries_of w)))
array_by entry limit keys id ss bytes ty v w None l again f e = new_entry entry limit keys id ss bytes ty v w l e
array_by entry limit keys id ss bytes ty v w (Some i) l again f e = old_entry entry limit keys id ss bytes ty v w i l again f e

by_layer : (id : ℕ) (ss : List Step) (bytes : List ℕ) (ty : Ty) (v w : Value) (layer : Ty-F Ty Field) → out-Ty ty ≡ layer → Again ss bytes
    → (place_layer layer v (step.Id id) >>= put_at_place (put_in ss bytes) ss (step.Id id) bytes ty v) ≡ Ok w → Found bytes (place_layer layer w (step.Id id) >>= stepped (walked ss) ty w)
by_layer id ss bytes ty v w Ty-F.Bool l again e = absurd (err_ok invalid_path w e)
by_layer id ss bytes ty v w (Ty-F.Number n signed min max) l again e = absurd (err_ok invalid_path w e)
by_layer id ss bytes ty v w (Ty-F.String length) l again e = absurd (err_ok invalid_path w e)
by_layer id ss bytes ty v w (Ty-F.Octets length) l again e = absurd (err_ok invalid_path w e)
by_layer id ss bytes ty v w (Ty-F.Bytes length) l again e = absurd (err_ok invalid_path w e)
by_layer id ss bytes ty v w (Ty-F.Struct fields) l again e = struct_by fields id ss bytes ty v w (position (λ f. field_id f == id) fields) l again e
by_layer id ss bytes ty v w (Ty-F.Array entry limit keys) l again e =
    array_by entry limit keys id ss bytes ty v w (position (λ (e : ℕ × Value). e.0 == id) (entries_of v)) l again refl e

step_again : (id : ℕ) (ss : List Step) (bytes : List ℕ) → Again ss bytes → Again (step.Id id ∷ ss) bytes
step_again id ss bytes again ty v w e =
    found_same bytes (walked (step.Id id ∷ ss) ty w) (place_layer (out-Ty ty) w (step.Id id) >>= stepped (walked ss) ty w) (ap (λ r. r >>= stepped (walked ss) ty w) (place_is ty w (step.Id id)))
    (by_layer id ss bytes ty v w (out-Ty ty) refl again (sym (ap (λ r. r >>= put_at_place (put_in ss bytes) ss (step.Id id) bytes ty v) (place_is ty v (step.Id id))) ∙ e))

again : (ss : List Step) (bytes : List ℕ) → AreIds ss → Again ss bytes
again [] bytes ids = λ ty v w e. ((ty, w), refl, e)
again (step.Id id ∷ ss) bytes ids = step_again id ss bytes (again ss bytes ids)
again (step.Key id key ∷ ss) bytes ids = absurd ids

-- ---- the same of a component
read_again : (ty : Ty) (bytes : List ℕ) (o : Option Value) (r : Result Value ℕ) → full_in ty bytes ≡ r → (r >>= λ w. Ok (Some w)) ≡ Ok o → Found bytes (look_cell [] ty o)
read_again ty bytes o (Err code) f e = absurd (err_ok code o e)
read_again ty bytes o (Ok w) f e = found_same bytes (look_cell [] ty o) (look_cell [] ty (Some w)) (ap (look_cell [] ty) (sym (ok_is (Some w) o e))) ((ty, w), refl, f)

deep_again : (ss : List Step) (ty : Ty) (bytes : List ℕ) (v : Value) (o : Option Value) (r : Result Value ℕ) → Again ss bytes → put_in ss bytes ty v ≡ r → (r >>= λ w. Ok (Some w)) ≡ Ok o → Found bytes (look_cell ss ty o)
deep_again ss ty bytes v o (Err code) again f e = absurd (err_ok code o e)
deep_again ss ty bytes v o (Ok w) again f e = found_same bytes (look_cell ss ty o) (look_cell ss ty (Some w)) (ap (look_cell ss ty) (sym (ok_is (Some w) o e))) (again ty v w f)

pub cell_again : (ss : List Step) (ty : Ty) (bytes : List ℕ) (v o : Option Value) → AreIds ss → put_cell ss bytes ty v ≡ Ok o → Found bytes (look_cell ss ty o)
cell_again [] ty bytes v o ids e = read_again ty bytes o (full_in ty bytes) refl e
cell_again (s ∷ ss) ty bytes None o ids e = absurd (err_ok not_found o e)
cell_again (s ∷ ss) ty bytes (Some v) o ids e = deep_again (s ∷ ss) ty bytes v o (put_in (s ∷ ss) bytes ty v) (again (s ∷ ss) bytes ids) refl e
