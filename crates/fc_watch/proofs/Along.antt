-- Two rising lists gone along side by side.
use Rattle.std.proofs.Common.{◌≡◌, ℕ, ◌==◌, ◌&&◌, ◌||◌, not, nat_lt, nat_le, Bool, true, false, cond, List, [], ◌∷◌, ◌++◌, drop, map, refl, sym, ap, subst, ◌∙◌, arith, rules, if◌then◌else◌}
use Rattle.std.proofs.lemmas.Bool.Decides.{nat_tests}
use Rattle.std.specs.List.{list_any, list_all}
use Rattle.std.specs.Ordering.{nat_cmp, is_lt}
use Rattle.fc_types.specs.Ids.{is_below, is_rising}
use Rattle.fc_watch.specs.Watching.{without}
use Rattle.fc_watch.specs.declared.watch.Told.{Told}
use Rattle.fc_watch.specs.declared.watch.Told.TheVariants.{Entry}
use Rattle.fc_watch.specs.Merging.{begins_with, from_one_on}

abbrev has : List ℕ → ℕ → Bool
has ys x = list_any (λ y. y == x) ys

abbrev above : ℕ → List ℕ → Bool
above x ys = list_all (λ y. nat_lt x y) ys

-- what is told where the rest of the second list is gone along
abbrev pub along : List ℕ → List ℕ → List ℕ
along [] ys = []
along (x ∷ xs) ys = if begins_with x (from_one_on x ys) then along xs (from_one_on x ys) else x ∷ along xs (from_one_on x ys)

both : (a b : Bool) → (a && b) ≡ true → (a ≡ true) × (b ≡ true)
both true true e = (refl, refl)
both true false e = (refl, e)
both false b e = (e, absurd (subst (λ c. cond c ⊥ (Unit {0})) e tt))

and_both : (a b : Bool) → a ≡ true → b ≡ true → (a && b) ≡ true
and_both a b p q = ap (λ c. c && b) p ∙ q

less_of : (x y : ℕ) → is_lt (nat_cmp x y) ≡ true → nat_lt x y ≡ true
less_of x y e = grind (arith, nat_tests)

through : (x y z : ℕ) → nat_lt x y ≡ true → nat_lt y z ≡ true → nat_lt x z ≡ true
through x y z e f = grind (arith, nat_tests)

above_through : (x y : ℕ) (zs : List ℕ) → nat_lt x y ≡ true → above y zs ≡ true → above x zs ≡ true
above_through x y [] e h = refl
above_through x y (z ∷ zs) e h =
    let p = both (nat_lt y z) (above y zs) h in and_both (nat_lt x z) (above x zs) (through x y z e p.0) (above_through x y zs e p.1)

tail_rises : (x : ℕ) (xs : List ℕ) → is_rising nat_cmp (x ∷ xs) ≡ true → is_rising nat_cmp xs ≡ true
tail_rises x xs h = (both (is_below nat_cmp x xs) (is_rising nat_cmp xs) h).1

-- the first of a rising list is below all others
all_above : (x : ℕ) (xs : List ℕ) → is_rising nat_cmp (x ∷ xs) ≡ true → above x xs ≡ true
all_above x [] h = refl
all_above x (y ∷ ys) h =
    let p = both (is_lt (nat_cmp x y)) (is_rising nat_cmp (y ∷ ys)) h in
    let e = less_of x y p.0 in
    and_both (nat_lt x y) (above x ys) e (above_through x y ys e (all_above y ys p.1))

differs_above : (x y : ℕ) → nat_lt x y ≡ true → (y == x) ≡ false
differs_above x y e = grind (arith, nat_tests)

none_above : (x : ℕ) (ys : List ℕ) → above x ys ≡ true → has ys x ≡ false
none_above x [] h = refl
none_above x (y ∷ ys) h =
    let p = both (nat_lt x y) (above x ys) h in ap (λ b. b || has ys x) (differs_above x y p.0) ∙ none_above x ys p.1

differs_below : (x y z : ℕ) → nat_lt y x ≡ true → nat_lt z x ≡ false → (y == z) ≡ false
differs_below x y z e f = grind (arith, nat_tests)

-- those that are not below a number stay
has_from : (x z : ℕ) (ys : List ℕ) → nat_lt z x ≡ false → has (from_one_on x ys) z ≡ has ys z
has_from x z [] f = refl
has_from x z (y ∷ ys) f = elim (nat_lt y x) as (λ b. nat_lt y x ≡ b → has (cond b (from_one_on x ys) (y ∷ ys)) z ≡ has (y ∷ ys) z) [
  | true ↦ λ e. has_from x z ys f ∙ sym (ap (λ b. b || has ys z) (differs_below x y z e f))
  | false ↦ λ e. refl
] refl

rises_from : (x : ℕ) (ys : List ℕ) → is_rising nat_cmp ys ≡ true → is_rising nat_cmp (from_one_on x ys) ≡ true
rises_from x [] h = h
rises_from x (y ∷ ys) h = elim (nat_lt y x) as (λ b. is_rising nat_cmp (cond b (from_one_on x ys) (y ∷ ys)) ≡ true) [
  | true ↦ rises_from x ys (tail_rises y ys h)
  | false ↦ h
]

above_of : (x y : ℕ) → nat_lt y x ≡ false → (y == x) ≡ false → nat_lt x y ≡ true
above_of x y e f = grind (arith, nat_tests)

not_below_itself : (x y : ℕ) → nat_lt y x ≡ true → (y == x) ≡ false
not_below_itself x y e = grind (arith, nat_tests)

-- among rising ones a number is there exactly where it stands in front of those that are not below it
begins_or_not : (x : ℕ) (ys : List ℕ) → is_rising nat_cmp ys ≡ true → begins_with x (from_one_on x ys) ≡ has ys x
begins_or_not x [] h = refl
begins_or_not x (y ∷ ys) h = elim (nat_lt y x) as (λ b. nat_lt y x ≡ b → begins_with x (cond b (from_one_on x ys) (y ∷ ys)) ≡ has (y ∷ ys) x) [
  | true ↦ λ e. begins_or_not x ys (tail_rises y ys h) ∙ sym (ap (λ b. b || has ys x) (not_below_itself x y e))
  | false ↦ λ e. elim (y == x) as (λ b. (y == x) ≡ b → b ≡ (b || has ys x)) [
    | true ↦ λ f. refl
    | false ↦ λ f. sym (none_above x ys (above_through x y ys (above_of x y e f) (all_above y ys h)))
  ] refl
] refl

not_below : (x z : ℕ) → nat_lt x z ≡ true → nat_lt z x ≡ false
not_below x z e = grind (arith, nat_tests)

-- those above a number do not miss what is below it
without_from : (x : ℕ) (zs ys : List ℕ) → above x zs ≡ true → without zs (from_one_on x ys) ≡ without zs ys
without_from x [] ys h = refl
without_from x (z ∷ zs) ys h =
    let p = both (nat_lt x z) (above x zs) h in
    let rest = from_one_on x ys in
    ap (λ b. cond (not b) (z ∷ without zs rest) (without zs rest)) (has_from x z ys (not_below x z p.0))
    ∙ ap (λ l. cond (not (has ys z)) (z ∷ l) l) (without_from x zs ys p.1)

turned : {A : Type 0} (b : Bool) (l m : A) → cond b l m ≡ cond (not b) m l
turned true l m = refl
turned false l m = refl

pub along_is : (xs ys : List ℕ) → is_rising nat_cmp xs ≡ true → is_rising nat_cmp ys ≡ true → along xs ys ≡ without xs ys
along_is [] ys h k = refl
along_is (x ∷ xs) ys h k =
    let rest = from_one_on x ys in
    let more : along xs rest ≡ without xs ys = along_is xs rest (tail_rises x xs h) (rises_from x ys k) ∙ without_from x xs ys (all_above x xs h) in
    ap (λ l. cond (begins_with x rest) l (x ∷ l)) more ∙ ap (λ b. cond b (without xs ys) (x ∷ without xs ys)) (begins_or_not x ys k)
    ∙ turned (has ys x) (without xs ys) (x ∷ without xs ys)

no_more : {A : Type 0} (xs ys : List A) → xs ++ [] ≡ ys → xs ≡ ys
no_more xs ys e = search rules

-- what is told once all of the first list is gone along
pub told_along : (hits : List Told) (these those rest : List ℕ) (i : ℕ) → hits ++ map Entry (along (drop i these) rest) ≡ map Entry (along these those) → drop i these ≡ [] → is_rising nat_cmp these ≡ true → is_rising nat_cmp those ≡ true → hits ≡ map Entry (without these those)
told_along hits these those rest i e none h k =
    no_more hits (map Entry (without these those)) (sym (ap (λ l. hits ++ map Entry (along l rest)) none) ∙ e ∙ ap (map Entry) (along_is these those h k))
