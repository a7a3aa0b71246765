-- Entries that are put one after the other, by rising subscript.
use Rattle.std.proofs.Common.{◌≡◌, ℕ, zero, suc, ◌&&◌, ◌||◌, not, Bool, true, false, T, if◌then◌else◌, List, [], ◌∷◌, ◌++◌, length, map, take, slice_get, bytes_eq, refl, sym, ap, subst, ◌∙◌, Some}
use Rattle.std.specs.Bool.{IsTrue}
use Rattle.std.specs.List.{insert, list_any}
use Rattle.std.specs.Ordering.{nat_cmp, is_lt}
use Rattle.std.specs.Cmp.{nat_cmp_total}
use Rattle.std.specs.declared.cmp.Ordering.{Ordering}
use Rattle.std.specs.declared.cmp.Ordering.TheVariants.{Less, Equal, Greater}
use Rattle.std.specs.FinMap as finmap
use Rattle.std.specs.FinMap.{nat_cmp-IsAntisymmetric, is_sorted, from_sorted, entries, entries_sorted, entries-from_sorted}
use Rattle.std.specs.FinMap.Entries.{below_all}
use Rattle.fc_tree.specs.Places.{Belongs}
use Rattle.fc_tree.proofs.Places as places
use Rattle.fc_types.specs.Ids.{is_distinct}
use Rattle.fc_types.specs.declared.ty.Field.{Field}
use Rattle.fc_types.specs.declared.ty.KeyDecl.{KeyDecl}
use Rattle.fc_value.specs.Keys.{differ_in, key_value, key_values, keys_differ}
use Rattle.fc_value.specs.declared.value.Value.{Value}
use Rattle.fc_rows.specs.Columns.{AreIndexes, Column}
use Rattle.fc_rows.specs.Rowed.{RowMap, Seen, Shape, updated}
use Rattle.fc_rows.proofs.ColumnLaws.{indexed, rows_seen}
use Rattle.fc_rows.proofs.Standing.{Entries}
use Rattle.fc_rows.proofs.Updating.{map_again}

halves : (a b : Bool) → T (a && b) → T a × T b
halves true b h = (tt, h)
halves false b h = absurd h

joined : (a b : Bool) → T a → T b → T (a && b)
joined true b p q = q
joined false b p q = absurd p

less : (r : Ordering) → T (is_lt r) → r ≡ Less
less Less p = refl
less Equal p = absurd p
less Greater p = absurd p

-- ---- the order
below_item : (s : ℕ) (es : Entries) (i : ℕ) (x : ℕ × Value) → T (below_all nat_cmp s es) → slice_get es i ≡ Some x → nat_cmp s x.0 ≡ Less
below_item s [] i x b g = cc
below_item s (e ∷ es) zero x b g = let q : e ≡ x = cc g in ap (λ (y : ℕ × Value). nat_cmp s y.0) (sym q) ∙ less _ (halves (is_lt (nat_cmp s e.0)) (below_all nat_cmp s es) b).0
below_item s (e ∷ es) (suc i) x b g = below_item s es i x (halves (is_lt (nat_cmp s e.0)) (below_all nat_cmp s es) b).1 g

at_end : (es : Entries) (i : ℕ) (x : ℕ × Value) → T (is_sorted nat_cmp es) → slice_get es i ≡ Some x → Belongs nat_cmp x.0 i (take i es)
at_end [] i x so g = cc
at_end (e ∷ es) zero x so g = tt
at_end (e ∷ es) (suc i) x so g =
    let h : T (below_all nat_cmp e.0 es) × T (is_sorted nat_cmp es) = halves (below_all nat_cmp e.0 es) (is_sorted nat_cmp es) so in
    (below_item e.0 es i x h.0 g, at_end es i x h.1 g)

insert_end : (es : Entries) (i : ℕ) (x : ℕ × Value) → slice_get es i ≡ Some x → insert (take i es) i (x.0, x.1) ≡ take (suc i) es
insert_end [] i x g = cc
insert_end (e ∷ es) zero x g = let q : e ≡ x = cc g in ap (λ (y : ℕ × Value). y ∷ []) (sym q)
insert_end (e ∷ es) (suc i) x g = ap (λ (ys : Entries). e ∷ ys) (insert_end es i x g)

below_front : (s n : ℕ) (es : Entries) → T (below_all nat_cmp s es) → T (below_all nat_cmp s (take n es))
below_front s zero es b = tt
below_front s (suc n) [] b = tt
below_front s (suc n) (e ∷ es) b =
    let h : T (is_lt (nat_cmp s e.0)) × T (below_all nat_cmp s es) = halves (is_lt (nat_cmp s e.0)) (below_all nat_cmp s es) b in
    joined (is_lt (nat_cmp s e.0)) (below_all nat_cmp s (take n es)) h.0 (below_front s n es h.1)

sorted_front : (n : ℕ) (es : Entries) → T (is_sorted nat_cmp es) → T (is_sorted nat_cmp (take n es))
sorted_front zero es so = tt
sorted_front (suc n) [] so = tt
sorted_front (suc n) (e ∷ es) so =
    let h : T (below_all nat_cmp e.0 es) × T (is_sorted nat_cmp es) = halves (below_all nat_cmp e.0 es) (is_sorted nat_cmp es) so in
    joined (below_all nat_cmp e.0 (take n es)) (is_sorted nat_cmp (take n es)) (below_front e.0 n es h.0) (sorted_front n es h.1)

-- ---- the keys
none_in_front : {X : Type 0} (p : X → Bool) (n : ℕ) (xs : List X) → list_any p xs ≡ false → list_any p (take n xs) ≡ false
none_in_front p zero xs e = refl
none_in_front p (suc n) [] e = refl
none_in_front p (suc n) (x ∷ xs) e = by (p x) e (none_in_front p n xs)
  where
    by : (b : Bool) → (b || list_any p xs) ≡ false → (list_any p xs ≡ false → list_any p (take n xs) ≡ false) → (b || list_any p (take n xs)) ≡ false
    by true f more = cc
    by false f more = more f

distinct_front : {X : Type 0} (same : X → X → Bool) (n : ℕ) (xs : List X) → is_distinct same xs ≡ true → is_distinct same (take n xs) ≡ true
distinct_front same zero xs e = refl
distinct_front same (suc n) [] e = refl
distinct_front same (suc n) (x ∷ xs) e = by (list_any (same x) xs) refl e (none_in_front (same x) n xs) (distinct_front same n xs)
  where
    by : (b : Bool) → list_any (same x) xs ≡ b → (not b && is_distinct same xs) ≡ true → (list_any (same x) xs ≡ false → list_any (same x) (take n xs) ≡ false)
        → (is_distinct same xs ≡ true → is_distinct same (take n xs) ≡ true) → (not (list_any (same x) (take n xs)) && is_distinct same (take n xs)) ≡ true
    by true f g more next = cc
    by false f g more next = rw (more f) (next g)

map_front : {X Y : Type 0} (f : X → Y) (n : ℕ) (xs : List X) → map f (take n xs) ≡ take n (map f xs)
map_front f zero xs = refl
map_front f (suc n) [] = refl
map_front f (suc n) (x ∷ xs) = ap (λ ys. f x ∷ ys) (map_front f n xs)

differ_front : (fields : List Field) (key : KeyDecl) (n : ℕ) (es : Entries) → differ_in fields es key ≡ true → differ_in fields (take n es) key ≡ true
differ_front fields key n es e = ap (is_distinct bytes_eq) (map_front (λ (x : ℕ × Value). key_value fields key x.1) n es) ∙ distinct_front bytes_eq n (key_values fields key es) e

keys_front : (fields : List Field) (keys : List KeyDecl) (n : ℕ) (es : Entries) → keys_differ fields keys es ≡ true → keys_differ fields keys (take n es) ≡ true
keys_front fields [] n es e = refl
keys_front fields (key ∷ keys) n es e = by (differ_in fields es key) refl e (differ_front fields key n es) (keys_front fields keys n es)
  where
    by : (b : Bool) → differ_in fields es key ≡ b → (b && keys_differ fields keys es) ≡ true → (differ_in fields es key ≡ true → differ_in fields (take n es) key ≡ true)
        → (keys_differ fields keys es ≡ true → keys_differ fields keys (take n es) ≡ true) → (differ_in fields (take n es) key && keys_differ fields keys (take n es)) ≡ true
    by true f g own next = rw (own f) (next g)
    by false f g own next = cc

-- ---- one entry more
next_map : (es : Entries) (i : ℕ) (x : ℕ × Value) (m : RowMap) → IsTrue (is_sorted nat_cmp es) → slice_get es i ≡ Some x → m ≡ from_sorted (take i es) → updated m x.0 (Some x.1) ≡ from_sorted (take (suc i) es)
next_map es i x m so g e =
    let front : T (is_sorted nat_cmp (take i es)) = sorted_front i es (places.test _ so) in
    ap (λ (n : RowMap). finmap.insert n x.0 x.1) e
    ∙ sym (places.entered nat_cmp nat_cmp_total nat_cmp-IsAntisymmetric (take i es) (take (suc i) es) x.0 x.1 i (places.tested _ front) (at_end es i x (places.test _ so) g) (sym (insert_end es i x g))).1

next_apart : (fields : List Field) (keys : List KeyDecl) (es : Entries) (n : ℕ) → IsTrue (is_sorted nat_cmp es) → keys_differ fields keys es ≡ true → keys_differ fields keys (entries (from_sorted {R = nat_cmp} (take n es))) ≡ true
next_apart fields keys es n so d = ap (keys_differ fields keys) (entries-from_sorted nat_cmp (take n es) (sorted_front n es (places.test _ so))) ∙ keys_front fields keys n es d

-- what an entry that is put makes of those before it
pub filled_next : (fields : List Field) (keys : List KeyDecl) (es : Entries) (i : ℕ) (x : ℕ × Value) (m new : RowMap) (done : Bool) → IsTrue (is_sorted nat_cmp es) → keys_differ fields keys es ≡ true
    → slice_get es i ≡ Some x → m ≡ from_sorted (take i es) → done ≡ keys_differ fields keys (entries (updated m x.0 (Some x.1))) → new ≡ (if done then updated m x.0 (Some x.1) else m) → new ≡ from_sorted (take (suc i) es)
filled_next fields keys es i x m new done so d g e b n =
    let next : updated m x.0 (Some x.1) ≡ from_sorted (take (suc i) es) = next_map es i x m so g e in
    let yes : done ≡ true = b ∙ ap (λ (k : RowMap). keys_differ fields keys (entries k)) next ∙ next_apart fields keys es (suc i) so d in
    n ∙ ap (λ (c : Bool). if c then updated m x.0 (Some x.1) else m) yes ∙ next

at_seam : (ys : Entries) (x : ℕ × Value) (zs : Entries) → slice_get (ys ++ x ∷ zs) (length ys) ≡ Some x
at_seam [] x zs = refl
at_seam (y ∷ ys) x zs = at_seam ys x zs

front_seam : (ys zs : Entries) → take (length ys) (ys ++ zs) ≡ ys
front_seam [] zs = refl
front_seam (y ∷ ys) zs = ap (λ (xs : Entries). y ∷ xs) (front_seam ys zs)

past_seam : (ys : Entries) (x : ℕ × Value) (zs : Entries) → take (suc (length ys)) (ys ++ x ∷ zs) ≡ ys ++ x ∷ []
past_seam [] x zs = refl
past_seam (y ∷ ys) x zs = ap (λ (xs : Entries). y ∷ xs) (past_seam ys x zs)

over_seam : (ys : Entries) (x : ℕ × Value) (zs : Entries) → (ys ++ x ∷ []) ++ zs ≡ ys ++ x ∷ zs
over_seam [] x zs = refl
over_seam (y ∷ ys) x zs = ap (λ (xs : Entries). y ∷ xs) (over_seam ys x zs)

-- the loop that puts them
pub filled_on : (old now : Shape) (es ys rest left : Entries) (x : ℕ × Value) (m new : RowMap) (done : Bool) → IsTrue (is_sorted nat_cmp es) → keys_differ now.0 now.1 es ≡ true → old ≡ now
    → m ≡ from_sorted ys → ys ++ rest ≡ es → rest ≡ x ∷ left → done ≡ keys_differ old.0 old.1 (entries (updated m x.0 (Some x.1))) → new ≡ (if done then updated m x.0 (Some x.1) else m)
    → (new ≡ from_sorted (ys ++ x ∷ [])) × ((ys ++ x ∷ []) ++ left ≡ es)
filled_on old now es ys rest left x m new done so d sh e f r b n =
    let whole : es ≡ ys ++ x ∷ left = sym f ∙ ap (λ (zs : Entries). ys ++ zs) r in (
      filled_next now.0 now.1 es (length ys) x m new done so d (ap (λ (zs : Entries). slice_get zs (length ys)) whole ∙ at_seam ys x left)
          (e ∙ ap (λ (zs : Entries). from_sorted zs) (sym (ap (take (length ys)) whole ∙ front_seam ys (x ∷ left))))
          (b ∙ ap (λ (k : Shape). keys_differ k.0 k.1 (entries (updated m x.0 (Some x.1)))) sh) n
          ∙ ap (λ (zs : Entries). from_sorted zs) (ap (take (suc (length ys))) whole ∙ past_seam ys x left),
      over_seam ys x left ∙ sym whole,
    )

pub none_filled : (m : RowMap) → m ≡ finmap.empty → m ≡ from_sorted []
none_filled m e = e ∙ sym (places.none nat_cmp Value)

-- ---- a copy
pub copied_rising : (m : RowMap) (es : Entries) → es ≡ entries m → IsTrue (is_sorted nat_cmp es)
copied_rising m es e = places.tested _ (subst (λ (zs : Entries). T (is_sorted nat_cmp zs)) (sym e) (entries_sorted m))

pub copied_apart : (v : Seen) (m : RowMap) (room : ℕ) (shape : Shape) (xs : List Column) (fields : List Field) (keys : List KeyDecl) (es : Entries) → ◌≡◌ {A = Seen} (m, (room, shape)) v
    → AreIndexes shape.0 shape.1 m room xs → fields ≡ shape.0 → keys ≡ shape.1 → es ≡ entries v.0 → keys_differ fields keys es ≡ true
copied_apart v m room shape xs fields keys es w h f k e =
    ap (λ (p : Shape × Entries). keys_differ p.0.0 p.0.1 p.1) (λ i. ((f i, k i), (e ∙ sym (ap (λ (n : RowMap). entries n) (rows_seen v m room shape w))) i)) ∙ indexed shape.0 shape.1 m room xs h

pub copied_rows : (m rows last : RowMap) (es : Entries) → last ≡ rows → rows ≡ from_sorted es → es ≡ entries m → last ≡ m
copied_rows m rows last es l r e = l ∙ r ∙ ap (λ (zs : Entries). from_sorted zs) e ∙ map_again m
