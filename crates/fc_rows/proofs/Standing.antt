-- The place at which a subscript stands among entries that rise.
use Rattle.std.proofs.Common.{◌≡◌, ℕ, zero, suc, ◌<◌, ◌==◌, Bool, true, false, cond, List, [], ◌∷◌, length, slice_get, slice_index_or, refl, sym, ap, ◌∙◌, arith, Some, None, eqb-true}
use Rattle.std.specs.List.{AllWithin, HoldsAt}
use Rattle.std.specs.Ordering.{nat_cmp, eq_by_cmp}
use Rattle.std.specs.Cmp.{nat_cmp_total, unsigned_tied, tied_itself}
use Rattle.std.specs.FinMap.{find}
use Rattle.std.proofs.lemmas.Bool.Decides.{nat_tests}
use Rattle.fc_tree.specs.Places.{Stands}
use Rattle.fc_value.specs.declared.value.Value.{Value}

abbrev pub Entries : Type 0
Entries = List (ℕ × Value)

abbrev pub has : ℕ → ℕ × Value → Bool
has s e = e.0 == s

pub record Stood (s : ℕ) (es : Entries) (v : Value) : Type 0 where
  pub place : ℕ
  pub entry : ℕ × Value
  pub within : place < length es
  pub before : AllWithin (λ e. has s e ≡ false) es 0 place
  pub here : HoldsAt (λ e. has s e ≡ true) es place
  pub got : slice_get es place ≡ Some entry
  pub is : entry.1 ≡ v
  pub stands : Stands nat_cmp s place es

own : (s t : ℕ) → eq_by_cmp nat_cmp s t ≡ true → t ≡ s
own s t e = sym (eqb-true s t (sym (unsigned_tied s t) ∙ e))

is_own : (s t : ℕ) → eq_by_cmp nat_cmp s t ≡ true → (t == s) ≡ true
is_own s t e = let q : t ≡ s = own s t e in grind (arith, nat_tests)

other : (s t : ℕ) → eq_by_cmp nat_cmp s t ≡ false → (t == s) ≡ false
other s t e = let q : (s == t) ≡ false = sym (unsigned_tied s t) ∙ e in grind (arith, nat_tests)

stood_later : (s : ℕ) (e : ℕ × Value) (es : Entries) (v : Value) → has s e ≡ false → Stood s es v → Stood s (e ∷ es) v
stood_later s e es v ne h = record {
  place = suc h.place;
  entry = h.entry;
  within = let l : h.place < length es = h.within in omega arith;
  before = λ j d p q. at j d q;
  here = λ d. h.here d;
  got = h.got;
  is = h.is;
  stands = h.stands;
}
  where
    at : (j : ℕ) (d : ℕ × Value) → j < suc h.place → has s (slice_index_or (e ∷ es) j d) ≡ false
    at zero d q = ne
    at (suc j) d q = h.before j d (omega arith) (omega arith)

pub stood : (s : ℕ) (es : Entries) (v : Value) → find nat_cmp s es ≡ Some v → Stood s es v
stood s [] v e = cc
stood s (x ∷ es) v e = by (λ f. stood s es v f) (eq_by_cmp nat_cmp s x.0) refl e
  where
    by : (find nat_cmp s es ≡ Some v → Stood s es v) → (b : Bool) → eq_by_cmp nat_cmp s x.0 ≡ b → cond b (Some x.1) (find nat_cmp s es) ≡ Some v → Stood s (x ∷ es) v
    by more true t f = record {
      place = zero;
      entry = x;
      within = omega arith;
      before = λ j d p q. absurd (omega arith);
      here = λ d. is_own s x.0 t;
      got = refl;
      is = cc;
      stands = ap (λ n. nat_cmp n s) (own s x.0 t) ∙ tied_itself nat_cmp_total s;
    }
    by more false t f = stood_later s x es v (other s x.0 t) (more f)

nowhere_later : (s : ℕ) (x : ℕ × Value) (es : Entries) → has s x ≡ false → AllWithin (λ e. has s e ≡ false) es 0 (length es) → (j : ℕ) (d : ℕ × Value) → j < suc (length es) → has s (slice_index_or (x ∷ es) j d) ≡ false
nowhere_later s x es n a zero d q = n
nowhere_later s x es n a (suc j) d q = a j d (omega arith) (omega arith)

pub stood_nowhere : (s : ℕ) (es : Entries) → find nat_cmp s es ≡ None → AllWithin (λ e. has s e ≡ false) es 0 (length es)
stood_nowhere s [] e = λ j d p q. absurd (omega arith)
stood_nowhere s (x ∷ es) e = by (λ f. stood_nowhere s es f) (eq_by_cmp nat_cmp s x.0) refl e
  where
    by : (find nat_cmp s es ≡ None → AllWithin (λ e. has s e ≡ false) es 0 (length es)) → (b : Bool) → eq_by_cmp nat_cmp s x.0 ≡ b → cond b (Some x.1) (find nat_cmp s es) ≡ None
        → AllWithin (λ e. has s e ≡ false) (x ∷ es) 0 (suc (length es))
    by more true t f = cc
    by more false t f = λ j d p q. nowhere_later s x es (other s x.0 t) (more f) j d q
