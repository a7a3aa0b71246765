-- Which values are kept as entries.
use Rattle.std.proofs.Common.{◌≡◌, ℕ, nat_lt, ◌<◌, ◌&&◌, Bool, true, false, T, List, [], ◌∷◌, refl, sym, ap, subst, ◌∙◌, arith, Option, Some, None, if◌then◌else◌}
use Rattle.std.specs.Bool.{IsTrue}
use Rattle.std.specs.Ordering.{nat_cmp, is_lt}
use Rattle.std.specs.Cmp.{nat_cmp_is, nat_cmp_total}
use Rattle.std.specs.declared.cmp.Ordering.{Ordering}
use Rattle.std.specs.declared.cmp.Ordering.TheVariants.{Less, Equal, Greater}
use Rattle.std.specs.FinMap.{is_sorted, from_sorted, entries, entries-from_sorted}
use Rattle.std.specs.FinMap.Entries.{below_all}
use Rattle.std.proofs.lemmas.Bool.Decides.{nat_tests}
use Rattle.fc_rows.specs.Rowed.{RowMap, Seen, Shape}
use Rattle.fc_rows.proofs.Standing.{Entries}
use Rattle.fc_tree.proofs.Places as places
use Rattle.fc_types.specs.Types.{fields_of}
use Rattle.fc_types.specs.declared.ty.Field.{Field}
use Rattle.fc_types.specs.declared.ty.KeyDecl.{KeyDecl}
use Rattle.fc_types.specs.declared.ty.Ty.{Ty}
use Rattle.fc_types.specs.declared.ty.Ty.TheViews.{out-Ty}
use Rattle.fc_value.specs.Keys.{keys_differ}
use Rattle.fc_value.specs.declared.value.Value.{Value, out-Value}
use Rattle.fc_value.specs.declared.value.Value.TheOpen.{Value-F}
use Rattle.fc_value.specs.declared.value.Value.TheVariants as value
use Rattle.fc_instance.specs.Cells.{HasShape, IsShaped, shape_layer}
use Rattle.fc_instance.specs.Histories.{Cell}
use Rattle.fc_instance.specs.Keeping.{is_below, is_rising, kept_by, kept_entries, kept_in, kept_layer}
use Rattle.fc_instance.specs.Leading.{array_of}
use Rattle.fc_instance.proofs.Reaching.{array_is}

-- ---- subscripts that rise
halves_of : (a b : Bool) → (a && b) ≡ true → (a ≡ true) × (b ≡ true)
halves_of true true e = (refl, refl)
halves_of true false e = cc
halves_of false b e = cc

halves : (a b : Bool) → T (a && b) → T a × T b
halves true b h = (tt, h)
halves false b h = absurd h

joined : (a b : Bool) → T a → T b → T (a && b)
joined true b p q = q
joined false b p q = absurd p

lower : (r : Ordering) → T (is_lt r) → r ≡ Less
lower Less p = refl
lower Equal p = absurd p
lower Greater p = absurd p

lowest : (r : Ordering) → r ≡ Less → T (is_lt r)
lowest r e = subst (λ (q : Ordering). T (is_lt q)) (sym e) tt

less_than : (a b : ℕ) → nat_lt a b ≡ true → a < b
less_than a b e = grind (arith, nat_tests)

less_cmp : (a b : ℕ) → nat_lt a b ≡ true → nat_cmp a b ≡ Less
less_cmp a b e = sym (nat_cmp_is a b Less (less_than a b e))

below_more : (a b : ℕ) (es : Entries) → nat_cmp a b ≡ Less → T (below_all nat_cmp b es) → T (below_all nat_cmp a es)
below_more a b [] l h = tt
below_more a b (e ∷ es) l h =
    let p : T (is_lt (nat_cmp b e.0)) × T (below_all nat_cmp b es) = halves (is_lt (nat_cmp b e.0)) (below_all nat_cmp b es) h in
    joined (is_lt (nat_cmp a e.0)) (below_all nat_cmp a es) (lowest (nat_cmp a e.0) (nat_cmp_total.trans a b e.0 l (lower (nat_cmp b e.0) p.0))) (below_more a b es l p.1)

first_below : (s : ℕ) (es : Entries) → is_below s es ≡ true → T (is_sorted nat_cmp es) → T (below_all nat_cmp s es)
first_below s [] b so = tt
first_below s (e ∷ es) b so =
    joined (is_lt (nat_cmp s e.0)) (below_all nat_cmp s es) (lowest (nat_cmp s e.0) (less_cmp s e.0 b))
    (below_more s e.0 es (less_cmp s e.0 b) (halves (below_all nat_cmp e.0 es) (is_sorted nat_cmp es) so).0)

rising_sorted : (es : Entries) → is_rising es ≡ true → T (is_sorted nat_cmp es)
rising_sorted [] r = tt
rising_sorted (e ∷ es) r =
    let p : (is_below e.0 es ≡ true) × (is_rising es ≡ true) = halves_of (is_below e.0 es) (is_rising es) r in
    let so : T (is_sorted nat_cmp es) = rising_sorted es p.1 in
    joined (below_all nat_cmp e.0 es) (is_sorted nat_cmp es) (first_below e.0 es p.0 so) so

pub kept_rising : (es part : Entries) (b : Bool) → part ≡ es → b ≡ is_rising part → b ≡ true → IsTrue (is_sorted nat_cmp es)
kept_rising es part b p e t = places.tested _ (rising_sorted es (ap is_rising (sym p) ∙ sym e ∙ t))

-- ---- what is seen of entries that are kept
pub kept_cell : (es part again : Entries) (fields fs gs : List Field) (keys ks ls : List KeyDecl) (rows : Seen) (b d : Bool) → part ≡ es → b ≡ is_rising part → b ≡ true → again ≡ es → ls ≡ keys → d ≡ keys_differ fields ls again
    → d ≡ true → rows.0 ≡ from_sorted es → rows.1.1 ≡ (fs, ks) → fs ≡ fields → ks ≡ keys → ◌≡◌ {A = Option Cell} (Some (value.Table (entries rows.0), Some rows.1.1)) (Some (value.Table es, kept_entries fields keys es))
kept_cell es part again fields fs gs keys ks ls rows b d p e t a l f u m s x y =
    let rise : is_rising es ≡ true = ap is_rising (sym p) ∙ sym e ∙ t in
    let apart : keys_differ fields keys es ≡ true = ap (λ (q : List KeyDecl × Entries). keys_differ fields q.0 q.1) (λ i. (sym l i, sym a i)) ∙ sym f ∙ u in
    let whole : entries rows.0 ≡ es = ap (λ (n : RowMap). entries n) m ∙ entries-from_sorted nat_cmp es (rising_sorted es rise) in
    let shape : rows.1.1 ≡ (fields, keys) = s ∙ (λ i. (x i, y i)) in
    let kept : kept_entries fields keys es ≡ Some (fields, keys) = ap (λ (c : Bool). if c then Some (fields, keys) else None) (ap (λ (c : Bool). c && keys_differ fields keys es) rise ∙ apart) in
    λ i. Some (value.Table (whole i), (ap (λ (z : Shape). Some z) shape ∙ sym kept) i)

-- ---- the shape of what is kept
shaped_in : (ty : Ty) (v : Value) (o : Option (Ty × ℕ × List KeyDecl)) → o ≡ array_of ty → HasShape ty (kept_in o v)
shaped_in ty v None e = tt
shaped_in ty v (Some x) e = by (out-Value v)
  where
    own : (b : Bool) → HasShape ty (if b then Some (fields_of x.0, x.2) else None)
    own true = ap shape_layer (array_is (out-Ty ty) x.0 x.1 x.2 e)
    own false = tt

    by : (l : Value-F Value) → HasShape ty (kept_layer (fields_of x.0) x.2 l)
    by (Value-F.Truth t) = tt
    by (Value-F.Number z) = tt
    by (Value-F.Text t) = tt
    by (Value-F.Raw bytes) = tt
    by (Value-F.Group vs) = tt
    by (Value-F.Table es) = own (is_rising es && keys_differ (fields_of x.0) x.2 es)

pub kept_shaped : (ty : Ty) (v : Value) (cell : Option Cell) → cell ≡ Some (kept_by ty v) → IsShaped ty cell
kept_shaped ty v cell e = subst (IsShaped ty) (sym e) (shaped_in ty v (array_of ty) refl)
