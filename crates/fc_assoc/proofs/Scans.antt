-- What going along the pairs finds out.
use Rattle.std.proofs.Common.{◌≡◌, ℕ, ◌<◌, ◌≤◌, ◌+◌, suc, List, [], ◌∷◌, ◌++◌, length, take, drop, get_or, refl, sym, ap, subst, ◌∙◌, arith, drop-cons}
use Rattle.std.proofs.lemmas.List.{take-append-drop, take_more, length-take-le, append-nil}
use Rattle.fc_assoc.specs.declared.heard.Heard.{Heard}
use Rattle.fc_assoc.specs.Places.{AreBelow, StandsAt, BelongsAt}

abbrev pub Pairs : Type 0
Pairs = List (ℕ × Heard)

length_front : (place : ℕ) (pairs : Pairs) → place ≤ length pairs → length (take place pairs) ≡ place
length_front place pairs le = length-take-le place pairs le

cut : (pairs : Pairs) (place : ℕ) (x : ℕ × Heard) → place < length pairs → x ≡ get_or pairs place x → pairs ≡ take place pairs ++ x ∷ drop (suc place) pairs
cut pairs place x lt is =
    sym (take-append-drop place pairs) ∙ ap (λ (xs : Pairs). take place pairs ++ xs) (drop-cons pairs place x lt ∙ ap (λ (y : ℕ × Heard). y ∷ drop (suc place) pairs) (sym is))

pub stands : (pairs : Pairs) (ce place : ℕ) (x : ℕ × Heard) → place < length pairs → x ≡ get_or pairs place x → AreBelow ce (take place pairs) → x.0 ≡ ce → StandsAt pairs ce place
stands pairs ce place x lt is below e = record {
  front = take place pairs;
  heard = x.1;
  back = drop (suc place) pairs;
  split = cut pairs place x lt is ∙ ap (λ (n : ℕ). take place pairs ++ (n, x.1) ∷ drop (suc place) pairs) e;
  at = length_front place pairs (omega arith);
  below = below;
}

pub belongs : (pairs : Pairs) (ce place : ℕ) (x : ℕ × Heard) → place < length pairs → x ≡ get_or pairs place x → AreBelow ce (take place pairs) → ce < x.0 → BelongsAt pairs ce place
belongs pairs ce place x lt is below above = record {
  front = take place pairs;
  back = x ∷ drop (suc place) pairs;
  split = cut pairs place x lt is;
  at = length_front place pairs (omega arith);
  below = below;
  above = above;
}

joined : (ce : ℕ) (front : Pairs) (x : ℕ × Heard) → AreBelow ce front → x.0 < ce → AreBelow ce (front ++ x ∷ [])
joined ce [] x below under = (under, tt)
joined ce (p ∷ ps) x below under = (below.0, joined ce ps x below.1 under)

pub below_last : (pairs : Pairs) (ce place : ℕ) (x : ℕ × Heard) → place < length pairs → x ≡ get_or pairs place x → AreBelow ce (take place pairs) → x.0 < ce → AreBelow ce (take (place + 1) pairs)
below_last pairs ce place x lt is below under =
    rw (take_more pairs place x lt) (joined ce (take place pairs) (get_or pairs place x) below (subst (λ (y : ℕ × Heard). y.0 < ce) is under))

take_all : (pairs : Pairs) → take (length pairs) pairs ≡ pairs
take_all [] = refl
take_all (p ∷ ps) = ap (λ (xs : Pairs). p ∷ xs) (take_all ps)

pub belongs_last : (pairs : Pairs) (ce : ℕ) → AreBelow ce (take (length pairs) pairs) → BelongsAt pairs ce (length pairs)
belongs_last pairs ce below = record {
  front = take (length pairs) pairs;
  back = [];
  split = sym (take_all pairs) ∙ sym (append-nil (take (length pairs) pairs));
  at = length_front (length pairs) pairs (omega arith);
  below = below;
  above = tt;
}

pub below_other : (a b : ℕ) → (a ≡ b → ⊥) → a ≤ b → a < b
below_other a b other le = omega arith
