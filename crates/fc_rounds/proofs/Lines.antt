-- The lines of a text that is put together from lines.
use Rattle.std.proofs.Common.{◌≡◌, ◌<◌, ◌≤◌, ℕ, zero, suc, ◌+◌, ◌/◌, ◌%◌, ◌==◌, not, nat_lt, Bool, true, false, List, [], ◌∷◌, ◌++◌, decimal, if◌then◌else◌, ◌⊎◌, inl, inr, refl, sym, ap, ◌∙◌, subst, append_assoc, append-nil, arith}
use Rattle.std.specs.Fmt.{digit_glyph, digits, digits_onto}
use Rattle.std.specs.List.{flat_map}
use Rattle.std.proofs.lemmas.Bool.{and_parts}
use Rattle.fc_base.specs.Hex.{hex, hex_digit, hex_text}
use Rattle.fc_base.specs.Ids.{Txn, txn_text}
use Rattle.fc_protocol.specs.Collections.{In}
use Rattle.fc_steps.proofs.Cuts.{both, lacks}
use Rattle.fc_rounds.specs.Lines.{lines_from, lines_of}

-- ---- texts without a mark
pub lacks_more : (mark : ℕ) (xs ys : List ℕ) → lacks mark xs ≡ true → lacks mark ys ≡ true → lacks mark (xs ++ ys) ≡ true
lacks_more mark [] ys h k = k
lacks_more mark (x ∷ xs) ys h k =
    let (here, there) = and_parts (not (x == mark)) (lacks mark xs) h in
    both (not (x == mark)) (lacks mark (xs ++ ys)) here (lacks_more mark xs ys there k)

-- a byte that is not below 48 is no such mark
high : (mark b : ℕ) → mark < 48 → 48 ≤ b → not (b == mark) ≡ true
high mark b low h = let e : (b == mark) ≡ false = grind (arith, h, low) in ap not e

glyph_high : (d : ℕ) → 48 ≤ digit_glyph false d
glyph_high d = by (nat_lt d 10)
  where
    by : (b : Bool) → 48 ≤ (if b then 48 + d else 87 + d)
    by true = omega arith
    by false = omega arith

digits_lack : (mark : ℕ) → mark < 48 → (k n : ℕ) (acc : List ℕ) → lacks mark acc ≡ true → lacks mark (digits_onto k 10 false n acc) ≡ true
digits_lack mark low zero n acc h = h
digits_lack mark low (suc k) n acc h =
    let more = both (not (digit_glyph false (n % 10) == mark)) (lacks mark acc) (high mark (digit_glyph false (n % 10)) low (glyph_high (n % 10))) h in
    by (n / 10 == 0) more (digits_lack mark low k (n / 10) (digit_glyph false (n % 10) ∷ acc) more)
  where
    by : (b : Bool) → lacks mark (digit_glyph false (n % 10) ∷ acc) ≡ true → lacks mark (digits_onto k 10 false (n / 10) (digit_glyph false (n % 10) ∷ acc)) ≡ true
        → lacks mark (if b then digit_glyph false (n % 10) ∷ acc else digits_onto k 10 false (n / 10) (digit_glyph false (n % 10) ∷ acc)) ≡ true
    by true one all = one
    by false one all = all

-- whatever the number is
pub number_lacks : (mark n : ℕ) → mark < 48 → lacks mark (decimal n) ≡ true
unfolding digits
number_lacks mark n low = digits_lack mark low 64 n [] refl

pub decimal_lacks : (n : ℕ) → lacks 10 (decimal n) ≡ true
decimal_lacks n = number_lacks 10 n (omega arith)

hex_high : (d : ℕ) → 48 ≤ hex_digit d
hex_high d = by (nat_lt d 10)
  where
    by : (b : Bool) → 48 ≤ (if b then 48 + d else 55 + d)
    by true = omega arith
    by false = omega arith

pub hex_lacks : (k n : ℕ) → lacks 10 (hex k n) ≡ true
unfolding hex
hex_lacks zero n = refl
hex_lacks (suc k) n = lacks_more 10 (hex k (n / 16)) (hex_digit (n % 16) ∷ []) (hex_lacks k (n / 16)) (both (not (hex_digit (n % 16) == 10)) true (high 10 (hex_digit (n % 16)) (omega arith) (hex_high (n % 16))) refl)

pub hex_text_lacks : (bytes : List ℕ) → lacks 10 (hex_text bytes) ≡ true
hex_text_lacks [] = refl
hex_text_lacks (b ∷ bs) = lacks_more 10 (hex 2 b) (hex_text bs) (hex_lacks 2 b) (hex_text_lacks bs)

pub txn_lacks : (x : Txn) → lacks 10 (txn_text x) ≡ true
txn_lacks x = lacks_more 10 (decimal x.epoch) (46 ∷ decimal x.number) (decimal_lacks x.epoch) (decimal_lacks x.number)

-- nor has it a space
pub txn_close : (x : Txn) → lacks 32 (txn_text x) ≡ true
txn_close x = lacks_more 32 (decimal x.epoch) (46 ∷ decimal x.number) (number_lacks 32 x.epoch (omega arith)) (number_lacks 32 x.number (omega arith))

-- ---- one line
-- the text is this line and its line feed
pub record IsLine (text line : List ℕ) : Type 0 where
  pub whole : text ≡ line ++ 10 ∷ []
  pub one : lacks 10 line ≡ true

-- a text that lacks line feeds, in front of a line
pub in_front : (xs text line : List ℕ) → lacks 10 xs ≡ true → IsLine text line → IsLine (xs ++ text) (xs ++ line)
in_front xs text line h is = record { whole = ap (λ t. xs ++ t) is.whole ∙ sym (append_assoc xs line (10 ∷ [])); one = lacks_more 10 xs line h is.one }

first_line : (before line rest : List ℕ) → lacks 10 line ≡ true → lines_from before (line ++ 10 ∷ rest) ≡ (before ++ line) ∷ lines_from [] rest
first_line before [] rest h = ap (λ l. l ∷ lines_from [] rest) (sym (append-nil before))
first_line before (b ∷ bs) rest h =
    let (here, there) = and_parts (not (b == 10)) (lacks 10 bs) h in
    by (b == 10) here (first_line (before ++ b ∷ []) bs rest there ∙ ap (λ l. l ∷ lines_from [] rest) (append_assoc before (b ∷ []) bs))
  where
    by : (v : Bool) → not v ≡ true → lines_from (before ++ b ∷ []) (bs ++ 10 ∷ rest) ≡ (before ++ b ∷ bs) ∷ lines_from [] rest
        → (if v then before ∷ lines_from [] (bs ++ 10 ∷ rest) else lines_from (before ++ b ∷ []) (bs ++ 10 ∷ rest)) ≡ (before ++ b ∷ bs) ∷ lines_from [] rest
    by true h more = cc
    by false h more = more

-- ---- texts of whole lines
-- a line that stands behind the text stands in both together
abbrev pub Passes : List ℕ → Type 0
Passes text = (line rest : List ℕ) → In line (lines_of rest) → In line (lines_of (text ++ rest))

-- this line stands in it, whatever comes behind
abbrev pub Shows : List ℕ → List ℕ → Type 0
Shows line text = (rest : List ℕ) → In line (lines_of (text ++ rest))

-- whatever comes behind, all lines of the text are so
pub record Adds (P : List ℕ → Type 0) (text : List ℕ) : Type 0 where
  pub only : (line rest : List ℕ) → In line (lines_of (text ++ rest)) → P line ⊎ In line (lines_of rest)
  pub passes : Passes text

pub adds_none : (P : List ℕ → Type 0) → Adds P []
adds_none P = record { only = λ line rest i. inr i; passes = λ line rest i. i }

in_line : (text line rest : List ℕ) → IsLine text line → lines_of (text ++ rest) ≡ line ∷ lines_of rest
in_line text line rest is = ap (λ t. lines_from [] (t ++ rest)) is.whole ∙ ap (lines_from []) (append_assoc line (10 ∷ []) rest) ∙ first_line [] line rest is.one

pub shows_line : (text line : List ℕ) → IsLine text line → Shows line text
shows_line text line is rest = subst (In line) (sym (in_line text line rest is)) (inl refl)

pub adds_line : (P : List ℕ → Type 0) (text line : List ℕ) → IsLine text line → P line → Adds P text
adds_line P text line is so = record {
  only = λ l rest i. by l rest (subst (In l) (in_line text line rest is) i);
  passes = λ l rest i. subst (In l) (sym (in_line text line rest is)) (inr i);
}
  where
    by : (l rest : List ℕ) → In l (line ∷ lines_of rest) → P l ⊎ In l (lines_of rest)
    by l rest (inl e) = inl (subst P (sym e) so)
    by l rest (inr more) = inr more

pub adds_both : (P : List ℕ → Type 0) (a b : List ℕ) → Adds P a → Adds P b → Adds P (a ++ b)
adds_both P a b h k = record {
  only = λ line rest i. by line rest (h.only line (b ++ rest) (subst (λ t. In line (lines_of t)) (append_assoc a b rest) i));
  passes = λ line rest i. subst (λ t. In line (lines_of t)) (sym (append_assoc a b rest)) (h.passes line (b ++ rest) (k.passes line rest i));
}
  where
    by : (line rest : List ℕ) → P line ⊎ In line (lines_of (b ++ rest)) → P line ⊎ In line (lines_of rest)
    by line rest (inl so) = inl so
    by line rest (inr more) = k.only line rest more

pub adds_all : {X : Type 0} (P : List ℕ → Type 0) (f : X → List ℕ) (xs : List X) → ((x : X) → In x xs → Adds P (f x)) → Adds P (flat_map f xs)
adds_all P f [] each = adds_none P
adds_all P f (x ∷ xs) each = adds_both P (f x) (flat_map f xs) (each x (inl refl)) (adds_all P f xs (λ y i. each y (inr i)))

-- ---- a line that stands in a part stands in the whole
pub shows_first : (line a b : List ℕ) → Shows line a → Shows line (a ++ b)
shows_first line a b h rest = subst (λ t. In line (lines_of t)) (sym (append_assoc a b rest)) (h (b ++ rest))

pub shows_second : (P : List ℕ → Type 0) (line a b : List ℕ) → Adds P a → Shows line b → Shows line (a ++ b)
shows_second P line a b h k rest = subst (λ t. In line (lines_of t)) (sym (append_assoc a b rest)) (h.passes line (b ++ rest) (k rest))

pub shows_all : {X : Type 0} (P : List ℕ → Type 0) (f : X → List ℕ) (line : List ℕ) (xs : List X) (x : X) → ((y : X) → In y xs → Adds P (f y)) → In x xs → Shows line (f x) → Shows line (flat_map f xs)
shows_all P f line [] x each i h = absurd i
shows_all P f line (y ∷ ys) x each (inl is) h = shows_first line (f y) (flat_map f ys) (subst (λ z. Shows line (f z)) is h)
shows_all P f line (y ∷ ys) x each (inr more) h = shows_second P line (f y) (flat_map f ys) (each y (inl refl)) (shows_all P f line ys x (λ z i. each z (inr i)) more h)
