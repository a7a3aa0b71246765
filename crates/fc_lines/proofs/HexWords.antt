-- Bytes that are spelled in pairs of digits.
use Rattle.std.proofs.Common.{◌≡◌, ℕ, ◌+◌, ◌*◌, ◌/◌, ◌%◌, ◌^◌, ◌≤◌, ◌<◌, ◌∷◌, ◌++◌, List, [], length, take, drop, Bool, true, false, cond, Option, Some, None, IfSome, refl, sym, ap, subst, ◌∙◌, arith}
use Rattle.fc_lines.specs.WordValues.{Pairs, byte_of, digit_of, digits_of, given, hexadecimal, paired, pairs_of}
use Rattle.fc_wire.specs.Bytes.{u32_bytes}
use Rattle.fc_lines.proofs.DigitValues.{small_digit, whole_word}

pub pairs_go : (pair rest more : List ℕ) (b : ℕ) (whole : Bool) → 2 ≤ length rest → pair ≡ take 2 rest → more ≡ drop 2 rest → Some b ≡ digits_of 2 pair → Pairs more whole → Pairs rest whole
pairs_go pair [] more b whole two is behind d h = absurd (omega (arith, two))
pairs_go pair (x ∷ []) more b whole two is behind d h = absurd (omega (arith, two))
pairs_go pair (x ∷ y ∷ r) more b whole two is behind d h =
    let here : digits_of 2 (x ∷ y ∷ []) ≡ Some b = ap (digits_of 2) (sym is) ∙ sym d in
    ap (λ o. given o (λ b. given (pairs_of r) (λ bs. Some (b ∷ bs)))) here
    ∙ ap (λ o. given o (λ bs. Some (b ∷ bs))) (ap pairs_of (sym behind) ∙ h ∙ ap (λ l. cond whole (Some (paired l)) None) behind)
    ∙ by whole
    ∙ ap (λ o. cond whole (Some (byte_of o ∷ paired r)) None) (sym here)
  where
    by : (whole : Bool) → given (cond whole (Some (paired r)) None) (λ bs. Some (b ∷ bs)) ≡ cond whole (Some (b ∷ paired r)) None
    by true = refl
    by false = refl

pub pairs_stop : (pair rest : List ℕ) → 2 ≤ length rest → pair ≡ take 2 rest → None ≡ digits_of 2 pair → Pairs rest false
pairs_stop pair [] two is d = absurd (omega (arith, two))
pairs_stop pair (x ∷ []) two is d = absurd (omega (arith, two))
pairs_stop pair (x ∷ y ∷ r) two is d = ap (λ o. given o (λ b. given (pairs_of r) (λ bs. Some (b ∷ bs)))) (ap (digits_of 2) (sym is) ∙ sym d)

pub paired_length : (word : List ℕ) → length (paired word) ≡ length word / 2
paired_length [] = refl
paired_length (x ∷ []) = refl
paired_length (x ∷ y ∷ r) = omega (arith, paired_length r)

-- two digits, and those behind them
two_by : (x y : Option ℕ) (n : ℕ) (bytes : List ℕ) → given x (λ d. given y (λ e. hexadecimal ((n * 16 + d) * 16 + e) bytes)) ≡ given (given x (λ d. given y (λ e. Some ((0 * 16 + d) * 16 + e)))) (λ k. hexadecimal (n * 256 + k) bytes)
two_by None y n bytes = refl
two_by (Some d) None n bytes = refl
two_by (Some d) (Some e) n bytes = let same : (n * 16 + d) * 16 + e ≡ n * 256 + ((0 * 16 + d) * 16 + e) = omega arith in ap (λ k. hexadecimal k bytes) same

two_step : (x y n : ℕ) (bytes : List ℕ) → hexadecimal n (x ∷ y ∷ bytes) ≡ given (digits_of 2 (x ∷ y ∷ [])) (λ k. hexadecimal (n * 256 + k) bytes)
two_step x y n bytes = two_by (digit_of x) (digit_of y) n bytes ∙ ap (λ o. given o (λ k. hexadecimal (n * 256 + k) bytes)) (sym (whole_word 2 (x ∷ y ∷ []) refl))

-- a byte in front
record Byte (x y n v : ℕ) (bytes : List ℕ) : Type 0 where
  value : ℕ
  is : digits_of 2 (x ∷ y ∷ []) ≡ Some value
  small : value < 256
  rest : hexadecimal (n * 256 + value) bytes ≡ Some v

small_two : (x y k : ℕ) → digits_of 2 (x ∷ y ∷ []) ≡ Some k → k < 256
small_two x y k e =
    by (digit_of x) (digit_of y) (small_digit x) (small_digit y) (sym (whole_word 2 (x ∷ y ∷ []) refl) ∙ e)
  where
    by : (a b : Option ℕ) → IfSome a (λ d. d < 16) → IfSome b (λ d. d < 16) → given a (λ d. given b (λ e. Some ((0 * 16 + d) * 16 + e))) ≡ Some k → k < 256
    by None b p q e = cc
    by (Some d) None p q e = cc
    by (Some d) (Some f) p q e = omega (arith, p, q, some_is ((0 * 16 + d) * 16 + f) k e)
      where
        some_is : (a b : ℕ) → Some a ≡ Some b → a ≡ b
        some_is a b e = cc

byte_in : (x y n v : ℕ) (bytes : List ℕ) → hexadecimal n (x ∷ y ∷ bytes) ≡ Some v → Byte x y n v bytes
byte_in x y n v bytes e = by (digits_of 2 (x ∷ y ∷ [])) refl (sym (two_step x y n bytes) ∙ e)
  where
    by : (o : Option ℕ) → digits_of 2 (x ∷ y ∷ []) ≡ o → given o (λ k. hexadecimal (n * 256 + k) bytes) ≡ Some v → Byte x y n v bytes
    by None is e = cc
    by (Some k) is e = record { value = k; is = is; small = small_two x y k is; rest = e }

-- four bytes in front
record Four (rest more : List ℕ) (v : ℕ) : Type 0 where
  spelled : paired rest ≡ u32_bytes v ++ paired more
  pairs : (whole : Bool) → Pairs more whole → Pairs rest whole

four_of : (a b c d e f g h v : ℕ) (r : List ℕ) → hexadecimal 0 (a ∷ b ∷ c ∷ d ∷ e ∷ f ∷ g ∷ h ∷ []) ≡ Some v → Four (a ∷ b ∷ c ∷ d ∷ e ∷ f ∷ g ∷ h ∷ r) r v
four_of a b c d e f g h v r is =
    let w = byte_in a b 0 v (c ∷ d ∷ e ∷ f ∷ g ∷ h ∷ []) is in
    let x = byte_in c d (0 * 256 + w.value) v (e ∷ f ∷ g ∷ h ∷ []) w.rest in
    let y = byte_in e f ((0 * 256 + w.value) * 256 + x.value) v (g ∷ h ∷ []) x.rest in
    let z = byte_in g h (((0 * 256 + w.value) * 256 + x.value) * 256 + y.value) v [] y.rest in
    let whole : (((0 * 256 + w.value) * 256 + x.value) * 256 + y.value) * 256 + z.value ≡ v = some_is _ v z.rest in
    let first : w.value ≡ v / 2 ^ 24 = omega (arith, w.small, x.small, y.small, z.small, whole) in
    let second : x.value ≡ v / 2 ^ 16 % 2 ^ 8 = omega (arith, w.small, x.small, y.small, z.small, whole) in
    let third : y.value ≡ v / 2 ^ 8 % 2 ^ 8 = omega (arith, w.small, x.small, y.small, z.small, whole) in
    let last : z.value ≡ v % 2 ^ 8 = omega (arith, w.small, x.small, y.small, z.small, whole) in
    record {
      spelled = four_same _ _ _ _ _ _ _ _ (paired r) (ap byte_of w.is ∙ first) (ap byte_of x.is ∙ second) (ap byte_of y.is ∙ third) (ap byte_of z.is ∙ last);
      pairs = λ t p.
          pairs_go (a ∷ b ∷ []) (a ∷ b ∷ c ∷ d ∷ e ∷ f ∷ g ∷ h ∷ r) (c ∷ d ∷ e ∷ f ∷ g ∷ h ∷ r) w.value t (omega arith) refl refl (sym w.is)
          (pairs_go (c ∷ d ∷ []) (c ∷ d ∷ e ∷ f ∷ g ∷ h ∷ r) (e ∷ f ∷ g ∷ h ∷ r) x.value t (omega arith) refl refl (sym x.is)
          (pairs_go (e ∷ f ∷ []) (e ∷ f ∷ g ∷ h ∷ r) (g ∷ h ∷ r) y.value t (omega arith) refl refl (sym y.is)
          (pairs_go (g ∷ h ∷ []) (g ∷ h ∷ r) r z.value t (omega arith) refl refl (sym z.is) p)));
    }
  where
    some_is : (a b : ℕ) → Some a ≡ Some b → a ≡ b
    some_is a b e = cc

    four_same : (a b c d k l m n : ℕ) (xs : List ℕ) → a ≡ k → b ≡ l → c ≡ m → d ≡ n → a ∷ b ∷ c ∷ d ∷ xs ≡ k ∷ l ∷ m ∷ n ∷ xs
    four_same a b c d k l m n xs p q r s = cc

-- eight bytes in front of others
record Long (rest : List ℕ) : Type 0 where
  a : ℕ
  b : ℕ
  c : ℕ
  d : ℕ
  e : ℕ
  f : ℕ
  g : ℕ
  h : ℕ
  others : List ℕ
  is : rest ≡ a ∷ b ∷ c ∷ d ∷ e ∷ f ∷ g ∷ h ∷ others

long_one : (rest : List ℕ) → 8 ≤ length rest → Long rest
long_one [] long = absurd (omega (arith, long))
long_one (a ∷ []) long = absurd (omega (arith, long))
long_one (a ∷ b ∷ []) long = absurd (omega (arith, long))
long_one (a ∷ b ∷ c ∷ []) long = absurd (omega (arith, long))
long_one (a ∷ b ∷ c ∷ d ∷ []) long = absurd (omega (arith, long))
long_one (a ∷ b ∷ c ∷ d ∷ e ∷ []) long = absurd (omega (arith, long))
long_one (a ∷ b ∷ c ∷ d ∷ e ∷ f ∷ []) long = absurd (omega (arith, long))
long_one (a ∷ b ∷ c ∷ d ∷ e ∷ f ∷ g ∷ []) long = absurd (omega (arith, long))
long_one (a ∷ b ∷ c ∷ d ∷ e ∷ f ∷ g ∷ h ∷ r) long = record { a = a; b = b; c = c; d = d; e = e; f = f; g = g; h = h; others = r; is = refl }

four_in : (digits rest more : List ℕ) (v : ℕ) → 8 ≤ length rest → digits ≡ take 8 rest → more ≡ drop 8 rest → hexadecimal 0 digits ≡ Some v → Four rest more v
four_in digits rest more v long is behind e =
    let l = long_one rest long in
    subst (λ m. Four rest m v) (sym (behind ∙ ap (drop 8) l.is))
    (subst (λ s. Four s l.others v) (sym l.is) (four_of l.a l.b l.c l.d l.e l.f l.g l.h v l.others (ap (hexadecimal 0) (sym (is ∙ ap (take 8) l.is)) ∙ e)))

pub eight_goes : (digits rest more : List ℕ) (v : ℕ) (whole : Bool) → 8 ≤ length rest → digits ≡ take 8 rest → more ≡ drop 8 rest → Some v ≡ hexadecimal 0 digits → Pairs more whole → Pairs rest whole
eight_goes digits rest more v whole long is behind e h = (four_in digits rest more v long is behind (sym e)).pairs whole h

pub next_eight : (digits rest more : List ℕ) (v : ℕ) → 8 ≤ length rest → digits ≡ take 8 rest → more ≡ drop 8 rest → Some v ≡ hexadecimal 0 digits → paired rest ≡ u32_bytes v ++ paired more
next_eight digits rest more v long is behind e = (four_in digits rest more v long is behind (sym e)).spelled

-- Where all of a word are pairs

record Two (x y : ℕ) (rest : List ℕ) : Type 0 where
  value : ℕ
  is : digits_of 2 (x ∷ y ∷ []) ≡ Some value
  behind : Pairs rest true

two_in : (x y : ℕ) (rest : List ℕ) → Pairs (x ∷ y ∷ rest) true → Two x y rest
two_in x y rest p = by (digits_of 2 (x ∷ y ∷ [])) refl p
  where
    same_tail : (b : ℕ) (l m : List ℕ) → Some (b ∷ l) ≡ Some (b ∷ m) → l ≡ m
    same_tail b l m e = cc

    over : (b : ℕ) (o : Option (List ℕ)) → digits_of 2 (x ∷ y ∷ []) ≡ Some b → pairs_of rest ≡ o → given o (λ bs. Some (b ∷ bs)) ≡ Some (b ∷ paired rest) → Two x y rest
    over b None is pairs e = cc
    over b (Some bs) is pairs e = record { value = b; is = is; behind = pairs ∙ ap Some (same_tail b bs (paired rest) e) }

    by : (o : Option ℕ) → digits_of 2 (x ∷ y ∷ []) ≡ o → given o (λ b. given (pairs_of rest) (λ bs. Some (b ∷ bs))) ≡ Some (byte_of o ∷ paired rest) → Two x y rest
    by None is e = cc
    by (Some b) is e = over b (pairs_of rest) is refl e

pub behind_two : (rest more : List ℕ) → 2 ≤ length rest → more ≡ drop 2 rest → Pairs rest true → Pairs more true
behind_two [] more two is p = absurd (omega (arith, two))
behind_two (x ∷ []) more two is p = absurd (omega (arith, two))
behind_two (x ∷ y ∷ r) more two is p = subst (λ m. Pairs m true) (sym is) (two_in x y r p).behind

-- eight digits in front
record Eight (digits rest : List ℕ) : Type 0 where
  value : ℕ
  is : hexadecimal 0 digits ≡ Some value
  behind : Pairs rest true

step_in : (x y n : ℕ) (bytes rest : List ℕ) (t : Two x y rest) → hexadecimal n (x ∷ y ∷ bytes) ≡ hexadecimal (n * 256 + t.value) bytes
step_in x y n bytes rest t = two_step x y n bytes ∙ ap (λ o. given o (λ k. hexadecimal (n * 256 + k) bytes)) t.is

eight_of : (a b c d e f g h : ℕ) (r : List ℕ) → Pairs (a ∷ b ∷ c ∷ d ∷ e ∷ f ∷ g ∷ h ∷ r) true → Eight (a ∷ b ∷ c ∷ d ∷ e ∷ f ∷ g ∷ h ∷ []) r
eight_of a b c d e f g h r p =
    let w = two_in a b (c ∷ d ∷ e ∷ f ∷ g ∷ h ∷ r) p in
    let x = two_in c d (e ∷ f ∷ g ∷ h ∷ r) w.behind in
    let y = two_in e f (g ∷ h ∷ r) x.behind in
    let z = two_in g h r y.behind in
    record {
      value = (((0 * 256 + w.value) * 256 + x.value) * 256 + y.value) * 256 + z.value;
      is =
          step_in a b 0 (c ∷ d ∷ e ∷ f ∷ g ∷ h ∷ []) (c ∷ d ∷ e ∷ f ∷ g ∷ h ∷ r) w
          ∙ step_in c d (0 * 256 + w.value) (e ∷ f ∷ g ∷ h ∷ []) (e ∷ f ∷ g ∷ h ∷ r) x
          ∙ step_in e f ((0 * 256 + w.value) * 256 + x.value) (g ∷ h ∷ []) (g ∷ h ∷ r) y
          ∙ step_in g h (((0 * 256 + w.value) * 256 + x.value) * 256 + y.value) [] r z;
      behind = z.behind;
    }

eight_in : (digits rest more : List ℕ) → 8 ≤ length rest → digits ≡ take 8 rest → more ≡ drop 8 rest → Pairs rest true → Eight digits more
eight_in digits rest more long is behind p =
    let l = long_one rest long in
    subst (λ t. Eight t more) (sym (is ∙ ap (take 8) l.is))
    (subst (λ m. Eight (l.a ∷ l.b ∷ l.c ∷ l.d ∷ l.e ∷ l.f ∷ l.g ∷ l.h ∷ []) m) (sym (behind ∙ ap (drop 8) l.is))
    (eight_of l.a l.b l.c l.d l.e l.f l.g l.h l.others (subst (λ s. Pairs s true) l.is p)))

pub behind_eight : (digits rest more : List ℕ) → 8 ≤ length rest → digits ≡ take 8 rest → more ≡ drop 8 rest → Pairs rest true → Pairs more true
behind_eight digits rest more long is behind p = (eight_in digits rest more long is behind p).behind

-- so eight characters that are no digits do not stand there
pub eight_told : (digits rest more : List ℕ) → 8 ≤ length rest → digits ≡ take 8 rest → more ≡ drop 8 rest → None ≡ hexadecimal 0 digits → Pairs rest true → ⊥
eight_told digits rest more long is behind none p = let e = eight_in digits rest more long is behind p in never e.value (none ∙ e.is)
  where
    never : (n : ℕ) → None ≡ Some n → ⊥
    never n e = cc
