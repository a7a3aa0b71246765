-- Lists in which something is kept by element.
use Rattle.std.proofs.Common.{◌≡◌, ℕ, suc, ◌+◌, ◌<◌, ◌==◌, true, cond, List, ◌∷◌, ◌++◌, length, take, drop, get_or, sym, ap, ◌∙◌, arith}
use Rattle.std.proofs.lemmas.List.{take-append-drop, take-set, drop-set}
use Rattle.std.proofs.Math.ListN.{set}
use Rattle.std.proofs.Math.Seq.{drop-cons}
use Rattle.fc_asks.specs.Tables.{placed}

pub set_parts : {X : Type 0} (xs : List X) (i : ℕ) (y : X) → i < length xs → set xs i y ≡ take i xs ++ y ∷ drop (i + 1) xs
set_parts xs i y l = sym (take-append-drop i (set xs i y)) ∙ (ap (λ ys. ys ++ drop i (set xs i y)) (take-set xs i y) ∙ ap (λ ys. take i xs ++ ys) (drop-set xs i y l))

placed_first : {A : Type 0} (p : ℕ) (v : A) (e : ℕ × A) (es ds : List (ℕ × A)) → ds ≡ e ∷ es → (p == e.0) ≡ true → placed p v ds ≡ (p, v) ∷ es
placed_first p v e es ds d t = ap (placed p v) d ∙ ap (λ b. cond b ((p, v) ∷ es) (e ∷ placed p v es)) t

-- a value that is put where the element's entry is
pub set_placed : {A : Type 0} (p : ℕ) (v : A) (xs : List (ℕ × A)) (i : ℕ) (d : ℕ × A) → i < length xs → (p == (get_or xs i d).0) ≡ true
    → placed p v xs ≡ take i xs ++ placed p v (drop i xs) → set xs i (p, v) ≡ placed p v xs
set_placed p v xs i d l t h =
    let next : suc i ≡ i + 1 = omega arith in
    let first = placed_first p v (get_or xs i d) (drop (i + 1) xs) (drop i xs) (drop-cons xs i d l ∙ ap (λ n. get_or xs i d ∷ drop n xs) next) t in
    set_parts xs i (p, v) l ∙ (ap (λ ys. take i xs ++ ys) (sym first) ∙ sym h)
