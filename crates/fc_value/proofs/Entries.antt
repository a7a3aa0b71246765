-- Entries in their order: where a new one goes.
use Rattle.std.proofs.Common.{◌≡◌, ℕ, ◌+◌, ◌<◌, true, false, cond, List, [], ◌∷◌, ◌++◌, length, is_some, Some, refl, sym, ap, ◌∙◌, subst, arith, nat_cmp, ◌⊎◌, inl, inr, length-append}
use Rattle.std.specs.List.{AllByRecursion}
use Rattle.std.specs.Map.{lookup}
use Rattle.std.specs.Ordering.{is_eq, match_ordering}
use Rattle.std.specs.declared.cmp.Ordering.TheVariants.{Less, Equal, Greater}
use Rattle.std.specs.BTreeMap.{insert_entry, is_at}
use Rattle.fc_value.specs.Reading.{has_subscript}
use Rattle.fc_value.specs.FullForm.{AreRising, AreJoined}
use Rattle.fc_value.specs.declared.value.Value.{Value}

abbrev Entry : Type 0
Entry = ℕ × Value

abbrev Above : ℕ → List Entry → Type 0
Above s es = AllByRecursion (λ (f : Entry). s < f.0) es

-- what a comparison says
is_less : (m n : ℕ) → m < n → nat_cmp m n ≡ Less
is_less m n h = grind arith

is_greater : (m n : ℕ) → n < m → nat_cmp m n ≡ Greater
is_greater m n h = grind arith

above_without : (s : ℕ) (f b : List Entry) (p : Entry) → Above s (f ++ p ∷ b) → Above s (f ++ b)
above_without s [] b p h = h.1
above_without s (e ∷ f) b p h = (h.0, above_without s f b p h.1)

above_middle : (s : ℕ) (f b : List Entry) (p : Entry) → Above s (f ++ p ∷ b) → s < p.0
above_middle s [] b p h = h.0
above_middle s (e ∷ f) b p h = above_middle s f b p h.1

above_put : (s : ℕ) (f b : List Entry) (p : Entry) → s < p.0 → Above s (f ++ b) → Above s (f ++ p ∷ b)
above_put s [] b p h all = (h, all)
above_put s (e ∷ f) b p h all = (all.0, above_put s f b p h all.1)

above_all : (s t : ℕ) (es : List Entry) → s < t → Above t es → Above s es
above_all s t [] h all = tt
above_all s t (e ∷ es) h all = (omega (arith, h, all.0), above_all s t es h all.1)

pub rising_without : (f b : List Entry) (p : Entry) → AreRising (f ++ p ∷ b) → AreRising (f ++ b)
rising_without [] b p h = h.1
rising_without (e ∷ f) b p h = (above_without e.0 f b p h.0, rising_without f b p h.1)

front_placed : (s : ℕ) (v : Value) (es : List Entry) → Above s es → insert_entry nat_cmp es s v ≡ (s, v) ∷ es
front_placed s v [] h = refl
front_placed s v (e ∷ es) h = ap (λ o. match_ordering o ((s, v) ∷ e ∷ es) ((e.0, v) ∷ es) (e ∷ insert_entry nat_cmp es s v)) (is_less s e.0 h.0)

pub placed : (f b : List Entry) (s : ℕ) (v : Value) → AreRising (f ++ (s, v) ∷ b) → insert_entry nat_cmp (f ++ b) s v ≡ f ++ (s, v) ∷ b
placed [] b s v h = front_placed s v b h.0
placed (e ∷ f) b s v h =
    ap (λ o. match_ordering o ((s, v) ∷ e ∷ (f ++ b)) ((e.0, v) ∷ (f ++ b)) (e ∷ insert_entry nat_cmp (f ++ b) s v)) (is_greater s e.0 (above_middle e.0 f b (s, v) h.0))
    ∙ ap (λ l. e ∷ l) (placed f b s v h.1)

front_absent : (s : ℕ) (es : List Entry) → Above s es → has_subscript es s ≡ false
front_absent s [] h = refl
front_absent s (e ∷ es) h = ap (λ o. is_some (cond (is_eq o) (Some e.1) (lookup (is_at (nat_cmp s)) es))) (is_less s e.0 h.0) ∙ front_absent s es h.1

pub absent : (f b : List Entry) (s : ℕ) (v : Value) → AreRising (f ++ (s, v) ∷ b) → has_subscript (f ++ b) s ≡ false
absent [] b s v h = front_absent s b h.0
absent (e ∷ f) b s v h =
    ap (λ o. is_some (cond (is_eq o) (Some e.1) (lookup (is_at (nat_cmp s)) (f ++ b)))) (is_greater s e.0 (above_middle e.0 f b (s, v) h.0)) ∙ absent f b s v h.1

-- where the insertion puts a new entry
pub record Place (es : List Entry) (s : ℕ) (v : Value) : Type 0 where
  pub front : List Entry
  pub back : List Entry
  pub split : es ≡ front ++ back
  pub put : insert_entry nat_cmp es s v ≡ front ++ (s, v) ∷ back
  pub rising : AreRising (front ++ (s, v) ∷ back)

compared : (m n : ℕ) → (m < n) ⊎ ((m ≡ n) ⊎ (n < m))
compared m n = grind arith

at_equal : (s : ℕ) (e : Entry) (es : List Entry) → s ≡ e.0 → has_subscript (e ∷ es) s ≡ true
at_equal s e es h = ap (λ o. is_some (cond (is_eq o) (Some e.1) (lookup (is_at (nat_cmp s)) es))) (same s e.0 h)
  where
    same : (m n : ℕ) → m ≡ n → nat_cmp m n ≡ Equal
    same m n h = grind arith

past : (s : ℕ) (e : Entry) (es : List Entry) → e.0 < s → has_subscript (e ∷ es) s ≡ has_subscript es s
past s e es h = ap (λ o. is_some (cond (is_eq o) (Some e.1) (lookup (is_at (nat_cmp s)) es))) (is_greater s e.0 h)

behind : (s : ℕ) (v : Value) (e : Entry) (es : List Entry) → e.0 < s → Above e.0 es → Place es s v → Place (e ∷ es) s v
behind s v e es h all p = record {
  front = e ∷ p.front;
  back = p.back;
  split = ap (λ l. e ∷ l) p.split;
  put = ap (λ o. match_ordering o ((s, v) ∷ e ∷ es) ((e.0, v) ∷ es) (e ∷ insert_entry nat_cmp es s v)) (is_greater s e.0 h) ∙ ap (λ l. e ∷ l) p.put;
  rising = (above_put e.0 p.front p.back (s, v) h (subst (Above e.0) p.split all), p.rising);
}

pub place : (es : List Entry) (s : ℕ) (v : Value) → AreRising es → has_subscript es s ≡ false → Place es s v
place [] s v up new = record { front = []; back = []; split = refl; put = refl; rising = (tt, tt) }
place (e ∷ es) s v up new =
    elim (compared s e.0) [
      | inl less ↦ record { front = []; back = e ∷ es; split = refl; put = front_placed s v (e ∷ es) (less, above_all s e.0 es less up.0); rising = ((less, above_all s e.0 es less up.0), up) }
      | inr (inl same) ↦ let t : has_subscript (e ∷ es) s ≡ true = at_equal s e es same in absurd (cc)
      | inr (inr more) ↦ behind s v e es more up.0 (place es s v up.1 (sym (past s e es more) ∙ new))
    ]

-- the old entries are among the joined ones, and rise with them
pub old_rises : (old ps es : List Entry) → AreJoined old ps es → AreRising es → AreRising old
old_rises old [] es h up = subst AreRising h up
old_rises old (p ∷ ps) es h up = subst AreRising (sym h.2) (rising_without h.0 h.1 p (old_rises (h.0 ++ p ∷ h.1) ps es h.3 up))

pub old_fewer : (old ps es : List Entry) → AreJoined old ps es → length es ≡ length old + length ps
old_fewer old [] es h = omega (arith, ap length h)
old_fewer old (p ∷ ps) es h =
    omega (arith, ap length h.2, length-append h.0 h.1, length-append h.0 (p ∷ h.1), old_fewer (h.0 ++ p ∷ h.1) ps es h.3)
