-- An array of numbers that is written entry by entry.
use Rattle.std.proofs.Common.{◌≡◌, ℕ, suc, ◌+◌, ◌%◌, ◌^◌, ◌<◌, List, ◌∷◌, ◌++◌, length, drop, get_or, sym, ap, ◌∙◌, arith}
use Rattle.std.proofs.Math.Seq.{drop-cons}
use Rattle.std.proofs.lemmas.List.{append_assoc}
use Rattle.fc_wire.specs.Bytes.{u32_bytes}
use Rattle.fc_asks.specs.Requests.{numbers_from, instances_from}

-- the items from one on
pub drop_at : {X : Type 0} (xs : List X) (i : ℕ) (d : X) → i < length xs → drop i xs ≡ get_or xs i d ∷ drop (i + 1) xs
drop_at xs i d l = let next : suc i ≡ i + 1 = omega arith in drop-cons xs i d l ∙ ap (λ n. get_or xs i d ∷ drop n xs) next

pub numbers_more : (start one two whole ids : List ℕ) (i n d : ℕ) → i < length ids → n ≡ get_or ids i d → one ≡ start ++ u32_bytes ((i + 1) % 2 ^ 32) → two ≡ one ++ u32_bytes n
    → start ++ numbers_from (i + 1) (drop i ids) ≡ whole → two ++ numbers_from (i + 1 + 1) (drop (i + 1) ids) ≡ whole
numbers_more start one two whole ids i n d l e f g h =
    let x = u32_bytes ((i + 1) % 2 ^ 32) in
    let y = u32_bytes n in
    let rest = numbers_from (i + 1 + 1) (drop (i + 1) ids) in
    let turn : numbers_from (i + 1) (drop i ids) ≡ x ++ (y ++ rest) = ap (numbers_from (i + 1)) (drop_at ids i d l) ∙ ap (λ m. x ++ (u32_bytes m ++ rest)) (sym e) in
    ap (λ b. b ++ rest) (g ∙ ap (λ b. b ++ y) f) ∙ (append_assoc (start ++ x) y rest ∙ (append_assoc start x (y ++ rest) ∙ (ap (λ t. start ++ t) (sym turn) ∙ h)))

pub instances_more : (start one two three whole : List ℕ) (scope : List (ℕ × ℕ)) (i n m : ℕ) (d : ℕ × ℕ) → i < length scope → n ≡ (get_or scope i d).0 → m ≡ (get_or scope i d).1 → one ≡ start ++ u32_bytes ((i + 1) % 2 ^ 32) → two ≡ one ++ u32_bytes n → three ≡ two ++ u32_bytes m
    → start ++ instances_from (i + 1) (drop i scope) ≡ whole → three ++ instances_from (i + 1 + 1) (drop (i + 1) scope) ≡ whole
instances_more start one two three whole scope i n m d l e f g h k q =
    let x = u32_bytes ((i + 1) % 2 ^ 32) in
    let y = u32_bytes n in
    let z = u32_bytes m in
    let rest = instances_from (i + 1 + 1) (drop (i + 1) scope) in
    let turn : instances_from (i + 1) (drop i scope) ≡ x ++ (y ++ (z ++ rest)) =
    ap (instances_from (i + 1)) (drop_at scope i d l) ∙ ap (λ v. x ++ (u32_bytes v ++ (u32_bytes (get_or scope i d).1 ++ rest))) (sym e) ∙ ap (λ v. x ++ (y ++ (u32_bytes v ++ rest))) (sym f) in
    ap (λ b. b ++ rest) (k ∙ ap (λ b. b ++ z) (h ∙ ap (λ b. b ++ y) g))
    ∙ (append_assoc ((start ++ x) ++ y) z rest ∙ (append_assoc (start ++ x) y (z ++ rest) ∙ (append_assoc start x (y ++ (z ++ rest)) ∙ (ap (λ t. start ++ t) (sym turn) ∙ q))))
