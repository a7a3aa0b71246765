-- The lemmas on entries whose keys rise, for subscripts, as the calls on the entries of an array want them.
use Rattle.std.proofs.Common.{◌≡◌, ℕ, ◌<◌, ◌≤◌, ◌+◌, Bool, true, false, cond, List, [], ◌∷◌, zero, suc, length, sym, ap, subst, ◌∙◌, arith, Option, Some, None, option_map, slice_get, slice_set, slice_index_or, is_some}
use Rattle.std.specs.Bool.{IsTrue}
use Rattle.std.specs.List.{insert, remove}
use Rattle.std.specs.Ordering.{nat_cmp}
use Rattle.std.specs.Cmp.{nat_cmp_total}
use Rattle.std.specs.FinMap as map
use Rattle.std.specs.FinMap.{nat_cmp-IsAntisymmetric, is_sorted, from_sorted, len-entries, len-insert, entries-from_sorted}
use Rattle.fc_tree.specs.Places.{Stands, Belongs}
use Rattle.fc_tree.proofs.Places as places
use Rattle.fc_rows.specs.Rowed.{RowMap, updated}
use Rattle.fc_value.specs.declared.value.Value.{Value}

abbrev Entries : Type 0
Entries = List (ℕ × Value)

got_at : {A : Type 0} (es : List A) (i : ℕ) (x : A) → i < length es → x ≡ slice_index_or es i x → slice_get es i ≡ Some x
got_at [] i x lt e = absurd (omega arith)
got_at (y ∷ es) zero x lt e = ap Some (sym e)
got_at (y ∷ es) (suc i) x lt e = got_at es i x (omega arith) e

-- what is seen of the entries: their map, and for how many there is memory
abbrev pub Seen : Type 0
Seen = RowMap × ℕ

seen_map : (v : Seen) (es : Entries) (cap : ℕ) → ◌≡◌ {A = Seen} (from_sorted es, cap) v → v.0 ≡ from_sorted es
seen_map v es cap e = ap (λ (w : Seen). w.0) (sym e)

-- what the entries become
abbrev Becomes : Entries → Seen → ℕ → Option Value → Type 0
Becomes fs v s o = IsTrue (is_sorted nat_cmp fs) × (from_sorted {R = nat_cmp} fs ≡ updated v.0 s o)

pub found : (v : Seen) (es part : Entries) (cap s i : ℕ) (x : ℕ × Value) → ◌≡◌ {A = Seen} (from_sorted es, cap) v → IsTrue (is_sorted nat_cmp es) → part ≡ es
    → Stands nat_cmp s i part → i < length part → x ≡ slice_index_or es i x → map.get v.0 s ≡ Some x.1
found v es part cap s i x e so p t lt g =
    ap (λ (n : RowMap). map.get n s) (seen_map v es cap e)
    ∙ places.found nat_cmp nat_cmp_total nat_cmp-IsAntisymmetric es s i so (subst (λ (ps : Entries). Stands nat_cmp s i ps) p t)
    ∙ ap (option_map (λ (e : ℕ × Value). e.1)) (got_at es i x (subst (λ (ps : Entries). i < length ps) p lt) g)

pub missing : (v : Seen) (es part : Entries) (cap s i : ℕ) → ◌≡◌ {A = Seen} (from_sorted es, cap) v → IsTrue (is_sorted nat_cmp es) → part ≡ es
    → Belongs nat_cmp s i part → map.get v.0 s ≡ None
missing v es part cap s i e so p b =
    ap (λ (n : RowMap). map.get n s) (seen_map v es cap e) ∙ places.missing nat_cmp nat_cmp_total nat_cmp-IsAntisymmetric es s i so (subst (λ (ps : Entries). Belongs nat_cmp s i ps) p b)

pub put_in_place : (v : Seen) (es part fs : Entries) (cap s i : ℕ) (x : ℕ × Value) (w : Value) → ◌≡◌ {A = Seen} (from_sorted es, cap) v → IsTrue (is_sorted nat_cmp es) → part ≡ es
    → Stands nat_cmp s i part → i < length part → x ≡ slice_index_or es i x → fs ≡ slice_set es i (x.0, w) → Becomes fs v s (Some w)
put_in_place v es part fs cap s i x w e so p t lt g f =
    let r : IsTrue (is_sorted nat_cmp fs) × (from_sorted {R = nat_cmp} fs ≡ map.insert (from_sorted es) s w) =
    places.replaced nat_cmp nat_cmp_total nat_cmp-IsAntisymmetric es fs s w i x so (subst (λ (ps : Entries). Stands nat_cmp s i ps) p t) (got_at es i x (subst (λ (ps : Entries). i < length ps) p lt) g) f in
    (r.0, r.1 ∙ ap (λ (n : RowMap). map.insert n s w) (sym (seen_map v es cap e)))

pub taken_out : (v : Seen) (es part fs : Entries) (cap s i : ℕ) → ◌≡◌ {A = Seen} (from_sorted es, cap) v → IsTrue (is_sorted nat_cmp es) → part ≡ es
    → Stands nat_cmp s i part → fs ≡ remove es i → Becomes fs v s None
taken_out v es part fs cap s i e so p t f =
    let r : IsTrue (is_sorted nat_cmp fs) × (from_sorted {R = nat_cmp} fs ≡ map.remove (from_sorted es) s) =
    places.left nat_cmp nat_cmp_total nat_cmp-IsAntisymmetric es fs s i so (subst (λ (ps : Entries). Stands nat_cmp s i ps) p t) f in
    (r.0, r.1 ∙ ap (λ (n : RowMap). map.remove n s) (sym (seen_map v es cap e)))

pub put_new : (v : Seen) (es part fs : Entries) (cap s i : ℕ) (w : Value) → ◌≡◌ {A = Seen} (from_sorted es, cap) v → IsTrue (is_sorted nat_cmp es) → part ≡ es
    → Belongs nat_cmp s i part → fs ≡ insert es i (s, w) → Becomes fs v s (Some w)
put_new v es part fs cap s i w e so p b f =
    let r : IsTrue (is_sorted nat_cmp fs) × (from_sorted {R = nat_cmp} fs ≡ map.insert (from_sorted es) s w) =
    places.entered nat_cmp nat_cmp_total nat_cmp-IsAntisymmetric es fs s w i so (subst (λ (ps : Entries). Belongs nat_cmp s i ps) p b) f in
    (r.0, r.1 ∙ ap (λ (n : RowMap). map.insert n s w) (sym (seen_map v es cap e)))

pub stays : (v : Seen) (es part : Entries) (cap s i : ℕ) → ◌≡◌ {A = Seen} (from_sorted es, cap) v → IsTrue (is_sorted nat_cmp es) → part ≡ es
    → Belongs nat_cmp s i part → v.0 ≡ updated v.0 s None
stays v es part cap s i e so p b =
    seen_map v es cap e ∙ places.stayed nat_cmp nat_cmp_total nat_cmp-IsAntisymmetric es s i so (subst (λ (ps : Entries). Belongs nat_cmp s i ps) p b) ∙ ap (λ (n : RowMap). map.remove n s) (sym (seen_map v es cap e))

pub count : (v : Seen) (es : Entries) (cap : ℕ) → ◌≡◌ {A = Seen} (from_sorted es, cap) v → IsTrue (is_sorted nat_cmp es) → map.len v.0 ≡ length es
count v es cap e so = ap (λ (n : RowMap). map.len n) (seen_map v es cap e) ∙ len-entries (from_sorted es) ∙ ap (λ (xs : Entries). length xs) (entries-from_sorted nat_cmp es (places.test _ so))

more_than : (b : Bool) (n m : ℕ) → b ≡ false → cond b n (n + 1) ≤ m → n < m
more_than true n m e le = cc
more_than false n m e le = omega arith

-- a new entry for which there is room
pub room_for : (v : Seen) (es part : Entries) (cap s i : ℕ) (w : Value) → ◌≡◌ {A = Seen} (from_sorted es, cap) v → IsTrue (is_sorted nat_cmp es) → part ≡ es
    → Belongs nat_cmp s i part → map.len (updated v.0 s (Some w)) ≤ v.1 → length es < cap
room_for v es part cap s i w e so p b le =
    let gone : map.contains_key v.0 s ≡ false = ap is_some (missing v es part cap s i e so p b) in
    let less : map.len v.0 < v.1 = more_than (map.contains_key v.0 s) (map.len v.0) v.1 gone (subst (λ (n : ℕ). n ≤ v.1) (len-insert nat_cmp_total v.0 s w) le) in
    let c : map.len v.0 ≡ length es = count v es cap e so in
    let d : v.1 ≡ cap = ap (λ (w : Seen). w.1) (sym e) in
    omega arith

-- the entries as they lie in memory
pub listed : (v : Seen) (es : Entries) (cap : ℕ) → ◌≡◌ {A = Seen} (from_sorted es, cap) v → IsTrue (is_sorted nat_cmp es) → es ≡ map.entries v.0
listed v es cap e so = sym (ap (λ (n : RowMap). map.entries n) (seen_map v es cap e) ∙ entries-from_sorted nat_cmp es (places.test _ so))
