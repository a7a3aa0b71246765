-- A list that is read into behind its end.
use Rattle.std.proofs.Common.{◌≡◌, ◌≤◌, ◌+◌, ℕ, List, ◌++◌, length, take, arith, ap, sym, ◌∙◌, length-append}
use Rattle.std.proofs.lemmas.List.{length-take-le, take_all, take-append-le, take_at, take-take}
use Rattle.std.proofs.Math.Seq.{take-append-add}

take_of_take : (m size : ℕ) (xs : List ℕ) → m ≤ size → take m (take size xs) ≡ take m xs
take_of_take m size xs le = search (arith, take-take)

-- so many bytes were read behind the first k, in a buffer of some size
read_more : (xs into post more : List ℕ) (size k n : ℕ) → k ≤ length xs → n ≤ length into → k + n ≤ size
    → take (k + n) (take size ((take k xs ++ (into ++ post)) ++ more)) ≡ take k xs ++ take n into
read_more xs into post more size k n le fits room =
    let front : length (take k xs) ≡ k = length-take-le k xs le in
    let all : k + n ≤ length (take k xs ++ (into ++ post)) = omega (arith, front, length-append (take k xs) (into ++ post), length-append into post) in
    take_of_take (k + n) size ((take k xs ++ (into ++ post)) ++ more) room ∙ take-append-le (k + n) (take k xs ++ (into ++ post)) more all
    ∙ ap (λ j. take (j + n) (take k xs ++ (into ++ post))) (sym front) ∙ take-append-add (take k xs) (into ++ post) n
    ∙ ap (λ l. take k xs ++ l) (take-append-le n into post fits)

-- the old bytes stand in front of the room that was made behind them
pub old_front : (bytes room : List ℕ) (k most : ℕ) (xs : List ℕ) → k ≡ length bytes → xs ≡ take (k + most) bytes ++ room → take k xs ≡ bytes
old_front bytes room k most xs size is =
    let le : length bytes ≤ k + most = omega arith in
    ap (take k) (is ∙ ap (λ l. l ++ room) (take_all (k + most) bytes le)) ∙ take_at bytes room k (sym size)

-- so many bytes were read into that room
pub read_behind : (bytes into post more xs : List ℕ) (size k n : ℕ) → take k xs ≡ bytes → k ≤ length xs → n ≤ length into → k + n ≤ size
    → take (k + n) (take size ((take k xs ++ (into ++ post)) ++ more)) ≡ bytes ++ take n into
read_behind bytes into post more xs size k n front le fits room =
    read_more xs into post more size k n le fits room ∙ ap (λ l. l ++ take n into) front
