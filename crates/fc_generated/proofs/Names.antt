-- The names of the transactions of a large run: what is written for their numbers.
use Rattle.std.proofs.Common.{◌≡◌, ◌<◌, ◌≤◌, ◌^◌, ◌==◌, ◌+◌, ℕ, zero, suc, not, ◌||◌, Bool, true, false, List, [], ◌∷◌, map, length, decimal, refl, ap, arith}
use Rattle.std.specs.List.{list_all, list_any, position_or_len}
use Rattle.std.specs.Str.{bytes_eq}
use Rattle.std.specs.Str.Parse.{AllDigits}
use Rattle.std.proofs.lemmas.Fmt.{decimal_injective, decimal_is_IsNumeral}
use Rattle.std.proofs.lemmas.Slice.Eq.{bytes_eq-Decides}
use Rattle.std.proofs.lemmas.Str.Parse.{digit_from_value}
use Rattle.fc_documents.specs.Kept.{name_of}
use Rattle.fc_documents.specs.Rules.{is_name, is_name_byte}
use Rattle.fc_steps.specs.Words as words
use Rattle.fc_types.specs.Ids.{is_distinct}
use Rattle.fc_scripts.specs.Steps.{numbers_from}
use Rattle.fc_generated.specs.Transactions.{transaction}
use Rattle.fc_generated.proofs.Ranges.{both}

-- ---- they are names
digit_named : (b : ℕ) → 48 ≤ b → b ≤ 57 → is_name_byte b ≡ true
digit_named b low high = grind arith

digits_named : (ds : List ℕ) → AllDigits 10 ds → list_all is_name_byte ds ≡ true
digits_named [] all = refl
digits_named (d ∷ ds) (digit, all) = let (low, high) = digit_from_value d digit in both _ _ (digit_named d low high) (digits_named ds all)

name_some : (ds : List ℕ) → 0 < length ds → list_all is_name_byte ds ≡ true → is_name ds ≡ true
name_some [] some all = absurd (omega (arith, some))
name_some (d ∷ ds) some all = all

pub named : (k : ℕ) → k < 2 ^ 64 → is_name (decimal k) ≡ true
named k small = let (some, all) = (decimal_is_IsNumeral k small).0 in name_some (decimal k) some (digits_named (decimal k) all)

-- ---- a step can say them
no_space : (b : ℕ) → 48 ≤ b → (b == 32) ≡ false
no_space b low = grind arith

unmarked : (ds : List ℕ) → AllDigits 10 ds → position_or_len (words.is_mark 32) ds ≡ length ds
unmarked [] all = refl
unmarked (d ∷ ds) (digit, all) = let more = unmarked ds all in rw (no_space d (digit_from_value d digit).0) (omega (arith, more))

is_itself : (n : ℕ) → (n == n) ≡ true
is_itself n = grind arith

uncut : (ds : List ℕ) → position_or_len (words.is_mark 32) ds ≡ length ds → words.is_none (words.cut 32 ds) ≡ true
uncut ds is = rw (is, is_itself (length ds)) refl

not_empty : (n : ℕ) → 0 < n → not (n == 0) ≡ true
not_empty n some = grind arith

pub said : (k : ℕ) → k < 2 ^ 64 → words.is_name (decimal k) ≡ true
said k small =
    let (some, all) = (decimal_is_IsNumeral k small).0 in
    both _ _ (not_empty (length (decimal k)) some) (uncut (decimal k) (unmarked (decimal k) all))

-- ---- no two are the same
is_false : (t : Bool) → (t ≡ true → ⊥) → t ≡ false
is_false true never = absurd (never refl)
is_false false never = refl

neither : (p q : Bool) → p ≡ false → q ≡ false → (p || q) ≡ false
neither false q h k = k
neither true q h k = cc

other_name : (a b : ℕ) → a < b → b < 2 ^ 64 → bytes_eq (decimal a) (decimal b) ≡ false
other_name a b less small =
    is_false _ (λ test. let same = decimal_injective a b (omega (arith, less, small)) small ((bytes_eq-Decides (decimal a) (decimal b)).0 test) in omega (arith, less, same))

not_among : (a b n : ℕ) → a < b → b + n < 2 ^ 64 → list_any (bytes_eq (decimal a)) (map name_of (map transaction (numbers_from b n))) ≡ false
not_among a b zero less small = refl
not_among a b (suc n) less small = neither _ _ (other_name a b less (omega (arith, small))) (not_among a (b + 1) n (omega (arith, less)) (omega (arith, small)))

pub differ : (a n : ℕ) → a + n < 2 ^ 63 → is_distinct bytes_eq (map name_of (map transaction (numbers_from a n))) ≡ true
differ a zero small = refl
differ a (suc n) small = both _ _ (ap not (not_among a (a + 1) n (omega arith) (omega (arith, small)))) (differ (a + 1) n (omega (arith, small)))
