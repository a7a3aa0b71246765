-- Texts that are cut at their first mark.
use Rattle.std.proofs.Common.{◌≡◌, ◌<◌, ℕ, ◌+◌, ◌==◌, ◌&&◌, Bool, true, false, not, List, [], ◌∷◌, ◌++◌, length, get_or, take, drop, Option, Some, None, if◌then◌else◌, refl, sym, ap, ◌∙◌, subst, append_assoc, eqb-true, eq-eqb, arith}
use Rattle.std.specs.List.{position_or_len}
use Rattle.std.specs.Str.Parse.{AllDigits}
use Rattle.std.proofs.lemmas.Bool.{and_parts, eqb-false, ne_eqb}
use Rattle.std.proofs.lemmas.List.{take_at, drop_at, length_push}
use Rattle.std.proofs.lemmas.List.Sums.{prefix_len-le-length, passes_at_first, split_at_first}
use Rattle.std.proofs.lemmas.Option.{same_Some}
use Rattle.std.proofs.lemmas.Str.Parse.{digit_from_value}
use Rattle.fc_steps.specs.Words.{given, is_mark, cut}

-- the mark is nowhere in the text
abbrev pub lacks : ℕ → List ℕ → Bool
lacks mark [] = true
lacks mark (b ∷ bs) = not (is_mark mark b) && lacks mark bs

pub both : (a b : Bool) → a ≡ true → b ≡ true → (a && b) ≡ true
both true b h k = k
both false b h k = h

-- a value behind another one
pub given_some : {A B : Type 0} (o : Option A) (next : A → Option B) (y : B) → given o next ≡ Some y → (x : A) × (o ≡ Some x) × (next x ≡ Some y)
given_some None next y e = cc
given_some (Some x) next y e = (x, refl, e)

-- ---- where the mark stands
first_at : (mark : ℕ) (xs ys : List ℕ) → lacks mark xs ≡ true → position_or_len (is_mark mark) (xs ++ mark ∷ ys) ≡ length xs
first_at mark [] ys h = rw (eq-eqb mark mark refl) refl
first_at mark (x ∷ xs) ys h =
    let (here, there) = and_parts (not (is_mark mark x)) (lacks mark xs) h in
    let more = first_at mark xs ys there in
    rw here (omega (arith, more))

first_none : (mark : ℕ) (xs : List ℕ) → lacks mark xs ≡ true → position_or_len (is_mark mark) xs ≡ length xs
first_none mark [] h = refl
first_none mark (x ∷ xs) h =
    let (here, there) = and_parts (not (is_mark mark x)) (lacks mark xs) h in
    let more = first_none mark xs there in
    rw here (omega (arith, more))

-- ---- cutting
abbrev cut_there : List ℕ → ℕ → Option (List ℕ × List ℕ)
cut_there text n = if n == length text then None else Some (take n text, drop (n + 1) text)

behind : (mark : ℕ) (xs ys : List ℕ) → drop (length xs + 1) (xs ++ mark ∷ ys) ≡ ys
behind mark xs ys = ap (drop (length xs + 1)) (sym (append_assoc xs (mark ∷ []) ys)) ∙ drop_at (xs ++ mark ∷ []) ys (length xs + 1) (length_push xs mark)

longer : (mark : ℕ) (xs ys : List ℕ) → length xs < length (xs ++ mark ∷ ys)
longer mark [] ys = omega arith
longer mark (x ∷ xs) ys = let more = longer mark xs ys in omega (arith, more)

kept_there : (b : Bool) (x y : List ℕ × List ℕ) → b ≡ false → x ≡ y → (if b then None else Some x) ≡ Some y
kept_there true x y h e = cc
kept_there false x y h e = ap Some e

pub cut_at : (mark : ℕ) (xs ys : List ℕ) → lacks mark xs ≡ true → cut mark (xs ++ mark ∷ ys) ≡ Some (xs, ys)
cut_at mark xs ys h =
    let long = longer mark xs ys in
    ap (cut_there (xs ++ mark ∷ ys)) (first_at mark xs ys h)
    ∙ kept_there (length xs == length (xs ++ mark ∷ ys)) (take (length xs) (xs ++ mark ∷ ys), drop (length xs + 1) (xs ++ mark ∷ ys)) (xs, ys)
    (ne_eqb (length xs) (length (xs ++ mark ∷ ys)) (λ e. omega (arith, long, e)))
    (ap (λ (zs : List ℕ). (zs, drop (length xs + 1) (xs ++ mark ∷ ys))) (take_at xs (mark ∷ ys) (length xs) refl) ∙ ap (λ (zs : List ℕ). (xs, zs)) (behind mark xs ys))

none_there : (b : Bool) (x : List ℕ × List ℕ) → b ≡ true → (if b then None else Some x) ≡ None
none_there true x h = refl
none_there false x h = cc

pub cut_none : (mark : ℕ) (xs : List ℕ) → lacks mark xs ≡ true → cut mark xs ≡ None
cut_none mark xs h = none_there (position_or_len (is_mark mark) xs == length xs) _ (eq-eqb (position_or_len (is_mark mark) xs) (length xs) (first_none mark xs h))

kept_else : (b : Bool) (x y : List ℕ × List ℕ) → (if b then None else Some x) ≡ Some y → (b ≡ false) × (x ≡ y)
kept_else true x y e = cc
kept_else false x y e = (refl, same_Some _ _ e)

pub cut_is : (mark : ℕ) (text : List ℕ) (p : List ℕ × List ℕ) → cut mark text ≡ Some p → text ≡ p.0 ++ mark ∷ p.1
cut_is mark text p e =
    let at = position_or_len (is_mark mark) text in
    let (there, same) = kept_else (at == length text) (take at text, drop (at + 1) text) p e in
    let unlike : at ≡ length text → ⊥ = eqb-false at (length text) there in
    let most = prefix_len-le-length (λ x. not (is_mark mark x)) text in
    let inside : at < length text = omega (arith, most, unlike) in
    let is : get_or text at 0 ≡ mark = eqb-true (get_or text at 0) mark (passes_at_first (is_mark mark) text 0 inside) in
    subst (λ (q : List ℕ × List ℕ). text ≡ q.0 ++ mark ∷ q.1) same
    (split_at_first (is_mark mark) text 0 inside ∙ ap (λ (m : ℕ). take at text ++ m ∷ drop (at + 1) text) is)

-- ---- a mark below the digits is in no number
pub digits_lack : (mark : ℕ) (ds : List ℕ) → mark < 48 → AllDigits 10 ds → lacks mark ds ≡ true
digits_lack mark [] low digits = refl
digits_lack mark (d ∷ ds) low digits =
    let (least, most) = digit_from_value d digits.0 in
    both (not (is_mark mark d)) (lacks mark ds) (ap not (ne_eqb d mark (λ e. omega (arith, low, least, e)))) (digits_lack mark ds low digits.1)

-- and where it stands in a text, that one does not lack it
pub has_mark : (mark : ℕ) (xs ys : List ℕ) → lacks mark (xs ++ mark ∷ ys) ≡ true → ⊥
has_mark mark [] ys h = let same = eq-eqb mark mark refl in let (here, there) = and_parts (not (is_mark mark mark)) (lacks mark ys) h in (let k = ap not same in let both = sym here ∙ k in cc)
has_mark mark (x ∷ xs) ys h = has_mark mark xs ys (and_parts (not (is_mark mark x)) (lacks mark (xs ++ mark ∷ ys)) h).1
