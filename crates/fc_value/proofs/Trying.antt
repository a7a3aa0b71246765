-- The code that reading gives is that of the first test that fails.
use Rattle.std.proofs.Common.{◌≡◌, ◌↔◌, ℕ, ℤ, zero, suc, ◌==◌, nat_lt, nat_le, Bool, true, false, not, ◌&&◌, ◌||◌, cond, List, [], ◌∷◌, ◌++◌, length, take, drop, map, Option, Some, None, Result, Ok, Err, refl, sym, ap, ap₂, ◌∙◌, subst, arith}
use Rattle.std.proofs.lemmas.Bool.Decides.{nat_tests}
use Rattle.std.specs.BTreeMap.{insert_entry}
use Rattle.std.specs.List.{AllByRecursion, list_any}
use Rattle.std.specs.Option.{option_or}
use Rattle.std.specs.Ordering.{nat_cmp, match_ordering}
use Rattle.std.specs.declared.cmp.Ordering.{Ordering}
use Rattle.std.specs.declared.cmp.Ordering.TheVariants as ordering
use Rattle.std.specs.Str.{is_utf8}
use Rattle.fc_types.specs.Types.{field_ty, fields_of}
use Rattle.fc_types.specs.declared.ty.KeyDecl.{KeyDecl}
use Rattle.fc_types.specs.declared.ty.Field.{Field}
use Rattle.fc_types.specs.declared.ty.Ty.{Ty, map-Ty}
use Rattle.fc_types.specs.declared.ty.Ty.TheOpen.{Ty-F, Field-F}
use Rattle.fc_types.specs.declared.ty.Ty.TheViews.{out-Ty, roll-Ty, out-Field, roll-Field, roll-out-Field, out-roll-Field}
use Rattle.fc_types.specs.declared.ty.Ty.TheFolds.{ind-Ty, para-roll-Ty, para-roll-Field}
use Rattle.fc_wire.specs.Bytes.{u16_at, u32_at}
use Rattle.fc_value.specs.Keys.{keys_differ}
use Rattle.fc_value.specs.Numbers.{is_width, number_of}
use Rattle.fc_base.specs.Answers.{◌>>=◌}
use Rattle.fc_value.specs.Outcomes.{invalid_tlv, invalid_parameters, out_of_range}
use Rattle.fc_value.specs.Reading.{Reader, taken, truth_in, ranged, number_in, fixed_in, text_of, octets_of, cut, closed, held, each_in, group_in, has_subscript, entries_by, entries_in, table_of, inside, alone, full_in}
use Rattle.fc_value.specs.Trials.{Trial, IsPassed, FirstFailed, fails, Walk, is_none, truth_walk, is_outside, number_walk, fixed_walk, text_trials, octets_trials, held_in, behind, padding_of, held_walk, each_walk, entries_trials, keys_trial, table_trials, walk_step, walk_field, inside_walk, inside_walk_at, full_trials}
use Rattle.fc_value.specs.declared.value.Value.{Value}
use Rattle.fc_value.specs.declared.value.Value.TheVariants as value
use Rattle.fc_value.proofs.Layers.{in_layer, inside_roll}
use Rattle.fc_value.proofs.OneEntry.{entry_is}
use Rattle.fc_value.proofs.Shrinking.{never, ok_same, bind_ok}

-- the code of the first test that fails
abbrev bad : List Trial → Option ℕ
bad [] = None
bad (t ∷ ts) = option_or t (bad ts)

abbrev code_of : {X : Type 0} → Result X ℕ → Option ℕ
code_of (Ok x) = None
code_of (Err code) = Some code

or_assoc : (a b c : Option ℕ) → option_or (option_or a b) c ≡ option_or a (option_or b c)
or_assoc None b c = refl
or_assoc (Some x) b c = refl

or_none : (a : Option ℕ) → option_or a None ≡ a
or_none None = refl
or_none (Some x) = refl

bad_append : (xs ys : List Trial) → bad (xs ++ ys) ≡ option_or (bad xs) (bad ys)
bad_append [] ys = refl
bad_append (x ∷ xs) ys = ap (option_or x) (bad_append xs ys) ∙ sym (or_assoc x (bad xs) (bad ys))

bad_last : (xs : List Trial) (t : Trial) → bad (xs ++ t ∷ []) ≡ option_or (bad xs) t
bad_last xs t = bad_append xs (t ∷ []) ∙ ap (option_or (bad xs)) (or_none t)

-- a test, and then the rest
if_code : {X : Type 0} (b : Bool) (code : ℕ) (r : Result X ℕ) → code_of (cond b (Err code) r) ≡ option_or (fails b code) (code_of r)
if_code true code r = refl
if_code false code r = refl

else_code : {X : Type 0} (b : Bool) (code : ℕ) (r : Result X ℕ) → code_of (cond b r (Err code)) ≡ option_or (fails (not b) code) (code_of r)
else_code true code r = refl
else_code false code r = refl

bind_code : {A B : Type 0} (r : Result A ℕ) (f : A → Result B ℕ) (o : Option ℕ) → ((x : A) → r ≡ Ok x → code_of (f x) ≡ o) → code_of (r >>= f) ≡ option_or (code_of r) o
bind_code (Ok x) f o h = h x refl
bind_code (Err code) f o h = refl

keeps : {A B : Type 0} (r : Result A ℕ) (g : A → B) → code_of (r >>= λ x. Ok (g x)) ≡ code_of r
keeps (Ok x) g = refl
keeps (Err code) g = refl

test_code : {A B : Type 0} (b : Bool) (code : ℕ) (x : A) (f : A → Result B ℕ) → code_of (cond b (Err code) (Ok x) >>= f) ≡ option_or (fails b code) (code_of (f x))
test_code true code x f = refl
test_code false code x f = refl

-- reading gives the code of the first test that fails, and leaves what the walk leaves
record Agrees (read : Reader) (walk : Walk) : Type 0 where
  code : (bytes : List ℕ) → code_of (read bytes) ≡ bad (walk bytes).0
  left : (bytes : List ℕ) (x : Value × List ℕ) → read bytes ≡ Ok x → x.1 ≡ (walk bytes).1

-- truth values
bits_code : (p q : Bool) (x y : Value × List ℕ) → code_of (cond p (Ok x) (cond q (Ok y) (Err out_of_range))) ≡ option_or (fails (not p && not q) out_of_range) None
bits_code true q x y = refl
bits_code false true x y = refl
bits_code false false x y = refl

bits_left : (p q : Bool) (v w : Value) (rest : List ℕ) (x : Value × List ℕ) → cond p (Ok (v, rest)) (cond q (Ok (w, rest)) (Err out_of_range)) ≡ Ok x → x.1 ≡ rest
bits_left true q v w rest x e = ap (λ (y : Value × List ℕ). y.1) (sym (ok_same (v, rest) x e))
bits_left false true v w rest x e = ap (λ (y : Value × List ℕ). y.1) (sym (ok_same (w, rest) x e))
bits_left false false v w rest x e = never out_of_range x e

truth_code : (bytes : List ℕ) → code_of (truth_in bytes) ≡ bad (truth_walk bytes).0
truth_code [] = refl
truth_code (b ∷ bytes) = bits_code (b == 0) (b == 1) _ _

truth_left : (bytes : List ℕ) (x : Value × List ℕ) → truth_in bytes ≡ Ok x → x.1 ≡ (truth_walk bytes).1
truth_left [] x e = never invalid_tlv x e
truth_left (b ∷ bytes) x e = bits_left (b == 0) (b == 1) _ _ bytes x e

-- numbers
number_code : (w : ℕ) (s : Bool) (min max : ℤ) (bytes : List ℕ) → code_of (number_in w s min max bytes) ≡ bad (number_walk w s min max bytes).0
number_code w s min max bytes =
    else_code (is_width w) out_of_range (taken w bytes >>= λ x. ranged min max (number_of s x.0) x.1)
    ∙ ap (option_or (fails (not (is_width w)) out_of_range))
    (test_code (nat_lt (length bytes) w) invalid_tlv (take w bytes, drop w bytes) (λ x. ranged min max (number_of s x.0) x.1)
    ∙ ap (option_or (fails (nat_lt (length bytes) w) invalid_tlv)) (if_code (is_outside min max (number_of s (take w bytes))) out_of_range (Ok (value.Number (number_of s (take w bytes)), drop w bytes))))

last_left : (c : Bool) (code : ℕ) (v : Value) (rest : List ℕ) (x : Value × List ℕ) → cond c (Err code) (Ok (v, rest)) ≡ Ok x → x.1 ≡ rest
last_left true code v rest x e = never code x e
last_left false code v rest x e = ap (λ (y : Value × List ℕ). y.1) (sym (ok_same (v, rest) x e))

taken_left : (b : Bool) (code : ℕ) (front rest : List ℕ) (f : List ℕ × List ℕ → Result (Value × List ℕ) ℕ) (x : Value × List ℕ)
    → ((y : Value × List ℕ) → f (front, rest) ≡ Ok y → y.1 ≡ rest) → (cond b (Err code) (Ok (front, rest)) >>= f) ≡ Ok x → x.1 ≡ rest
taken_left true code front rest f x h e = never code x e
taken_left false code front rest f x h e = h x e

width_left : (b : Bool) (code : ℕ) (r : Result (Value × List ℕ) ℕ) (rest : List ℕ) (x : Value × List ℕ) → (r ≡ Ok x → x.1 ≡ rest) → cond b r (Err code) ≡ Ok x → x.1 ≡ rest
width_left true code r rest x h e = h e
width_left false code r rest x h e = never code x e

number_left : (w : ℕ) (s : Bool) (min max : ℤ) (bytes : List ℕ) (x : Value × List ℕ) → number_in w s min max bytes ≡ Ok x → x.1 ≡ (number_walk w s min max bytes).1
number_left w s min max bytes x e =
    width_left (is_width w) out_of_range (taken w bytes >>= λ y. ranged min max (number_of s y.0) y.1) (drop w bytes) x
    (taken_left (nat_lt (length bytes) w) invalid_tlv (take w bytes) (drop w bytes) (λ y. ranged min max (number_of s y.0) y.1) x
    (λ y. last_left (is_outside min max (number_of s (take w bytes))) out_of_range (value.Number (number_of s (take w bytes))) (drop w bytes) y)) e

-- bytes of a fixed number
fixed_code : (n : ℕ) (bytes : List ℕ) → code_of (fixed_in n bytes) ≡ bad (fixed_walk n bytes).0
fixed_code n bytes = test_code (nat_lt (length bytes) n) invalid_tlv (take n bytes, drop n bytes) (λ x. Ok (value.Raw x.0, x.1))

fixed_left : (n : ℕ) (bytes : List ℕ) (x : Value × List ℕ) → fixed_in n bytes ≡ Ok x → x.1 ≡ (fixed_walk n bytes).1
fixed_left n bytes x e =
    taken_left (nat_lt (length bytes) n) invalid_tlv (take n bytes) (drop n bytes) (λ y. Ok (value.Raw y.0, y.1)) x
    (λ y f. ap (λ (z : Value × List ℕ). z.1) (sym (ok_same (value.Raw (take n bytes), drop n bytes) y f))) e

-- texts and octets
text_code : (limit : ℕ) (bytes : List ℕ) → code_of (text_of limit bytes) ≡ bad (text_trials limit bytes)
text_code limit bytes =
    else_code (is_utf8 bytes) invalid_parameters (cond (nat_lt limit (length bytes)) (Err out_of_range) (Ok (value.Text bytes)))
    ∙ ap (option_or (fails (not (is_utf8 bytes)) invalid_parameters)) (if_code (nat_lt limit (length bytes)) out_of_range (Ok (value.Text bytes)))

octets_code : (limit : ℕ) (bytes : List ℕ) → code_of (octets_of limit bytes) ≡ bad (octets_trials limit bytes)
octets_code limit bytes = if_code (nat_lt limit (length bytes)) out_of_range (Ok (value.Raw bytes))

-- a FULLDATA
three_code : {A B : Type 0} (a b c : Bool) (k l m : ℕ) (x : A) (f : A → Result B ℕ)
    → code_of (cond a (Err k) (cond b (Err l) (cond c (Err m) (Ok x))) >>= f) ≡ option_or (fails a k) (option_or (fails b l) (option_or (fails c m) (code_of (f x))))
three_code true b c k l m x f = refl
three_code false true c k l m x f = refl
three_code false false true k l m x f = refl
three_code false false false k l m x f = refl

three_ok : {A B : Type 0} (a b c : Bool) (k l m : ℕ) (x : A) (f : A → Result B ℕ) (y : B)
    → (cond a (Err k) (cond b (Err l) (cond c (Err m) (Ok x))) >>= f) ≡ Ok y → f x ≡ Ok y
three_ok true b c k l m x f y e = never k y e
three_ok false true c k l m x f y e = never l y e
three_ok false false true k l m x f y e = never m y e
three_ok false false false k l m x f y e = e

abbrev valued : Value → List ℕ → Result (Value × List ℕ) ℕ
valued v rest = Ok (v, rest)

closed_by : (b : Bool) (v : Value) (y : List ℕ × List ℕ) → code_of ((cond b (Err invalid_tlv) (Ok y) >>= λ x. Ok x.1) >>= valued v) ≡ fails b invalid_tlv
closed_by true v y = refl
closed_by false v y = refl

closed_left : (b : Bool) (v : Value) (y : List ℕ × List ℕ) (x : Value × List ℕ) → ((cond b (Err invalid_tlv) (Ok y) >>= λ z. Ok z.1) >>= valued v) ≡ Ok x → x.1 ≡ y.1
closed_left true v y x e = never invalid_tlv x e
closed_left false v y x e = ap (λ (z : Value × List ℕ). z.1) (sym (ok_same (v, y.1) x e))

module _ (one : List ℕ → Result Value ℕ) (inner : List ℕ → List Trial) (agrees : (body : List ℕ) → code_of (one body) ≡ bad (inner body)) where
  held_code : (bytes : List ℕ) → code_of (held one bytes) ≡ bad (held_walk inner bytes).0
  unfolding cut
  held_code bytes =
      let body = held_in bytes in
      let rest = behind bytes in
      let last = fails (nat_lt (length rest) (padding_of body)) invalid_tlv in
      three_code (nat_lt (length bytes) 4) (not (u16_at bytes 0 == 274) || nat_lt (u16_at bytes 2) 4) (nat_lt (length bytes) (u16_at bytes 2)) invalid_tlv invalid_tlv invalid_tlv
      (body, rest) (λ x. one x.0 >>= λ v. closed v (length x.0) x.1)
      ∙ ap (λ o. option_or (fails (nat_lt (length bytes) 4) invalid_tlv) (option_or (fails (not (u16_at bytes 0 == 274) || nat_lt (u16_at bytes 2) 4) invalid_tlv) (option_or (fails (nat_lt (length bytes) (u16_at bytes 2)) invalid_tlv) o)))
      (bind_code (one body) (λ v. closed v (length body) rest) last
      (λ v e. closed_by (nat_lt (length rest) (padding_of body)) v (take (padding_of body) rest, drop (padding_of body) rest))
      ∙ ap (λ o. option_or o last) (agrees body) ∙ sym (bad_last (inner body) last))

  held_left : (bytes : List ℕ) (x : Value × List ℕ) → held one bytes ≡ Ok x → x.1 ≡ (held_walk inner bytes).1
  unfolding cut
  held_left bytes x e =
      let body = held_in bytes in
      let rest = behind bytes in
      let inside_is : (one body >>= λ v. closed v (length body) rest) ≡ Ok x =
      three_ok (nat_lt (length bytes) 4) (not (u16_at bytes 0 == 274) || nat_lt (u16_at bytes 2) 4) (nat_lt (length bytes) (u16_at bytes 2)) invalid_tlv invalid_tlv invalid_tlv
      (body, rest) (λ y. one y.0 >>= λ v. closed v (length y.0) y.1) x e in
      let p : (v : Value) × (one body ≡ Ok v) × (closed v (length body) rest ≡ Ok x) = bind_ok (one body) (λ v. closed v (length body) rest) x inside_is in
      closed_left (nat_lt (length rest) (padding_of body)) p.0 (take (padding_of body) rest, drop (padding_of body) rest) x p.2

  held_agrees : Agrees (held one) (held_walk inner)
  held_agrees = record { code = held_code; left = held_left }

-- one value after the other
abbrev AllAgree : List Reader → List Walk → Type 0
AllAgree [] [] = Unit {0}
AllAgree [] (w ∷ ws) = ⊥
AllAgree (r ∷ rs) [] = ⊥
AllAgree (r ∷ rs) (w ∷ ws) = Agrees r w × AllAgree rs ws

each_left : (rs : List Reader) (ws : List Walk) → AllAgree rs ws → (bytes : List ℕ) (x : List Value × List ℕ) → each_in rs bytes ≡ Ok x → x.1 ≡ (each_walk ws bytes).1
each_left [] [] all bytes x e = ap (λ (y : List Value × List ℕ). y.1) (sym (ok_same ([], bytes) x e))
each_left [] (w ∷ ws) all bytes x e = absurd all
each_left (r ∷ rs) [] all bytes x e = absurd all
each_left (r ∷ rs) (w ∷ ws) all bytes x e =
    let p : (y : Value × List ℕ) × (r bytes ≡ Ok y) × ((each_in rs y.1 >>= λ z. Ok (y.0 ∷ z.0, z.1)) ≡ Ok x) =
    bind_ok (r bytes) (λ y. each_in rs y.1 >>= λ z. Ok (y.0 ∷ z.0, z.1)) x e in
    let q : (z : List Value × List ℕ) × (each_in rs p.0.1 ≡ Ok z) × (Ok (p.0.0 ∷ z.0, z.1) ≡ Ok x) =
    bind_ok (each_in rs p.0.1) (λ z. Ok (p.0.0 ∷ z.0, z.1)) x p.2 in
    ap (λ (y : List Value × List ℕ). y.1) (sym (ok_same (p.0.0 ∷ q.0.0, q.0.1) x q.2))
    ∙ each_left rs ws all.1 p.0.1 q.0 q.1 ∙ ap (λ rest. (each_walk ws rest).1) (all.0.left bytes p.0 p.1)

each_code : (rs : List Reader) (ws : List Walk) → AllAgree rs ws → (bytes : List ℕ) → code_of (each_in rs bytes) ≡ bad (each_walk ws bytes).0
each_code [] [] all bytes = refl
each_code [] (w ∷ ws) all bytes = absurd all
each_code (r ∷ rs) [] all bytes = absurd all
each_code (r ∷ rs) (w ∷ ws) all bytes =
    bind_code (r bytes) (λ x. each_in rs x.1 >>= λ y. Ok (x.0 ∷ y.0, y.1)) (bad (each_walk ws (w bytes).1).0)
    (λ x e. keeps (each_in rs x.1) (λ y. (x.0 ∷ y.0, y.1)) ∙ each_code rs ws all.1 x.1 ∙ ap (λ rest. bad (each_walk ws rest).0) (all.0.left bytes x e))
    ∙ ap (λ o. option_or o (bad (each_walk ws (w bytes).1).0)) (all.0.code bytes) ∙ sym (bad_append (w bytes).0 (each_walk ws (w bytes).1).0)

group_agrees : (rs : List Reader) (ws : List Walk) → AllAgree rs ws → Agrees (group_in rs) (each_walk ws)
group_agrees rs ws all = record { code = λ bytes. keeps (each_in rs bytes) (λ x. (value.Group x.0, x.1)) ∙ each_code rs ws all bytes; left = left }
  where
    left : (bytes : List ℕ) (x : Value × List ℕ) → group_in rs bytes ≡ Ok x → x.1 ≡ (each_walk ws bytes).1
    left bytes x e =
        let p : (y : List Value × List ℕ) × (each_in rs bytes ≡ Ok y) × (Ok (value.Group y.0, y.1) ≡ Ok x) = bind_ok (each_in rs bytes) (λ y. Ok (value.Group y.0, y.1)) x e in
        ap (λ (y : Value × List ℕ). y.1) (sym (ok_same (value.Group p.0.0, p.0.1) x p.2)) ∙ each_left rs ws all bytes p.0 p.1

-- subscripts of the entries
record SameSubscripts (es : List (ℕ × Value)) (seen : List ℕ) : Type 0 where
  any : (q : ℕ) → has_subscript es q ≡ list_any (λ s. q == s) seen
  long : length es ≡ length seen

at_first : (q : ℕ) (e : ℕ × Value) (es : List (ℕ × Value)) → has_subscript (e ∷ es) q ≡ ((q == e.0) || has_subscript es q)
at_first q e es = grind (arith, nat_tests)

swapped : (a b c : Bool) → (a || (b || c)) ≡ (b || (a || c))
swapped true true c = refl
swapped true false c = refl
swapped false true c = refl
swapped false false c = refl

module _ (s : ℕ) (v : Value) where
  inserted : (es : List (ℕ × Value)) (q : ℕ) → has_subscript es s ≡ false → has_subscript (insert_entry nat_cmp es s v) q ≡ ((q == s) || has_subscript es q)
  inserted [] q new = at_first q (s, v) []
  inserted (e ∷ es) q new = by_order (λ h. inserted es q h) (nat_cmp s e.0) refl
    where
      not_here : (a b : Bool) → (a || b) ≡ false → (a ≡ false) × (b ≡ false)
      not_here true b f = absurd (cc)
      not_here false b f = (refl, f)

      apart : ((s == e.0) ≡ false) × (has_subscript es s ≡ false)
      apart = not_here (s == e.0) (has_subscript es s) (sym (at_first s e es) ∙ new)

      equal_is : nat_cmp s e.0 ≡ ordering.Equal → (s == e.0) ≡ true
      equal_is f = grind (arith, nat_tests)

      by_order : (has_subscript es s ≡ false → has_subscript (insert_entry nat_cmp es s v) q ≡ ((q == s) || has_subscript es q)) → (o : Ordering) → nat_cmp s e.0 ≡ o
          → has_subscript (match_ordering o ((s, v) ∷ e ∷ es) ((e.0, v) ∷ es) (e ∷ insert_entry nat_cmp es s v)) q ≡ ((q == s) || has_subscript (e ∷ es) q)
      by_order again ordering.Less f = at_first q (s, v) (e ∷ es)
      by_order again ordering.Equal f = let here : (s == e.0) ≡ true = equal_is f in let there : (s == e.0) ≡ false = apart.0 in absurd (cc)
      by_order again ordering.Greater f =
          at_first q e (insert_entry nat_cmp es s v) ∙ ap (λ b. (q == e.0) || b) (again apart.1) ∙ swapped (q == e.0) (q == s) (has_subscript es q)
          ∙ ap (λ b. (q == s) || b) (sym (at_first q e es))

  longer : (es : List (ℕ × Value)) → has_subscript es s ≡ false → length (insert_entry nat_cmp es s v) ≡ suc (length es)
  longer [] new = refl
  longer (e ∷ es) new = by_order (λ h. longer es h) (nat_cmp s e.0) refl
    where
      not_here : (a b : Bool) → (a || b) ≡ false → (a ≡ false) × (b ≡ false)
      not_here true b f = absurd (cc)
      not_here false b f = (refl, f)

      apart : ((s == e.0) ≡ false) × (has_subscript es s ≡ false)
      apart = not_here (s == e.0) (has_subscript es s) (sym (at_first s e es) ∙ new)

      equal_is : nat_cmp s e.0 ≡ ordering.Equal → (s == e.0) ≡ true
      equal_is f = grind (arith, nat_tests)

      by_order : (has_subscript es s ≡ false → length (insert_entry nat_cmp es s v) ≡ suc (length es)) → (o : Ordering) → nat_cmp s e.0 ≡ o → length (match_ordering o ((s, v) ∷ e ∷ es) ((e.0, v) ∷ es) (e ∷ insert_entry nat_cmp es s v)) ≡ suc (suc (length es))
      by_order again ordering.Less f = refl
      by_order again ordering.Equal f = let here : (s == e.0) ≡ true = equal_is f in let there : (s == e.0) ≡ false = apart.0 in absurd (cc)
      by_order again ordering.Greater f = ap suc (again apart.1)

  more_same : (es : List (ℕ × Value)) (seen : List ℕ) → SameSubscripts es seen → has_subscript es s ≡ false → SameSubscripts (insert_entry nat_cmp es s v) (s ∷ seen)
  more_same es seen same new = record {
    any = λ q. inserted es q new ∙ ap (λ b. (q == s) || b) (same.any q);
    long = longer es new ∙ ap suc same.long;
  }

-- entries
tests_code : {A B : Type 0} (a b c : Bool) (k l m : ℕ) (r : Result A ℕ) (f : A → Result B ℕ) (o : Option ℕ) → (b ≡ false → code_of (r >>= f) ≡ o)
    → code_of (cond a (Err k) (cond b (Err l) (cond c (Err m) r)) >>= f) ≡ option_or (fails a k) (option_or (fails b l) (option_or (fails c m) o))
tests_code true b c k l m r f o h = refl
tests_code false true c k l m r f o h = refl
tests_code false false true k l m r f o h = refl
tests_code false false false k l m r f o h = h refl

module _ (one : Reader) (walk : Walk) (agrees : Agrees one walk) (limit : ℕ) where
  abbrev put_in : List (ℕ × Value) → ℕ → Value × List ℕ → Result (List (ℕ × Value) × List ℕ) ℕ
  put_in es s x = Ok (insert_entry nat_cmp es s x.0, x.1)

  abbrev Again : ℕ → Type 0
  Again fuel = (fs : List (ℕ × Value)) (tr : List ℕ) → SameSubscripts fs tr → (rest : List ℕ) → code_of (entries_by one limit fuel fs rest) ≡ bad (entries_trials walk limit fuel tr rest)

  entries_code : (fuel : ℕ) (es : List (ℕ × Value)) (seen : List ℕ) → SameSubscripts es seen → (bytes : List ℕ) → code_of (entries_by one limit fuel es bytes) ≡ bad (entries_trials walk limit fuel seen bytes)
  entries_code fuel es seen same [] = none fuel
    where
      none : (n : ℕ) → code_of (entries_by one limit n es []) ≡ bad (entries_trials walk limit n seen [])
      none zero = refl
      none (suc n) = refl
  entries_code zero es seen same (b ∷ bytes) = refl
  entries_code (suc fuel) es seen same (b ∷ bytes) =
      let s = u32_at (b ∷ bytes) 0 in
      let next = walk (drop 4 (b ∷ bytes)) in
      let more = entries_trials walk limit fuel (s ∷ seen) next.1 in
      ap (λ (r : Result (List (ℕ × Value) × List ℕ) ℕ). code_of (r >>= λ x. entries_by one limit fuel x.0 x.1)) (entry_is one limit es (b ∷ bytes))
      ∙ tests_code (nat_lt (length (b ∷ bytes)) 4) (has_subscript es (u32_at (b ∷ bytes) 0)) (nat_le limit (length es)) invalid_tlv invalid_tlv out_of_range
      (one (drop 4 (b ∷ bytes)) >>= put_in es (u32_at (b ∷ bytes) 0)) (λ x. entries_by one limit fuel x.0 x.1) (bad (next.0 ++ more))
      (λ new. value_code (λ fs tr same_more rest. entries_code fuel fs tr same_more rest) new)
      ∙ ap₂ (λ (t : Bool) (n : ℕ). option_or (fails (nat_lt (length (b ∷ bytes)) 4) invalid_tlv) (option_or (fails t invalid_tlv) (option_or (fails (nat_le limit n) out_of_range) (bad (next.0 ++ more)))))
      (same.any s) same.long
    where
      value_by : Again fuel → (r : Result (Value × List ℕ) ℕ) → one (drop 4 (b ∷ bytes)) ≡ r → has_subscript es (u32_at (b ∷ bytes) 0) ≡ false
          → code_of ((r >>= put_in es (u32_at (b ∷ bytes) 0)) >>= λ x. entries_by one limit fuel x.0 x.1)
          ≡ option_or (code_of r) (bad (entries_trials walk limit fuel (u32_at (b ∷ bytes) 0 ∷ seen) (walk (drop 4 (b ∷ bytes))).1))
      value_by again (Err code) e new = refl
      value_by again (Ok x) e new =
          again (insert_entry nat_cmp es (u32_at (b ∷ bytes) 0) x.0) (u32_at (b ∷ bytes) 0 ∷ seen) (more_same (u32_at (b ∷ bytes) 0) x.0 es seen same new) x.1
          ∙ ap (λ rest. bad (entries_trials walk limit fuel (u32_at (b ∷ bytes) 0 ∷ seen) rest)) (agrees.left (drop 4 (b ∷ bytes)) x e)

      value_code : Again fuel → has_subscript es (u32_at (b ∷ bytes) 0) ≡ false
          → code_of ((one (drop 4 (b ∷ bytes)) >>= put_in es (u32_at (b ∷ bytes) 0)) >>= λ x. entries_by one limit fuel x.0 x.1)
          ≡ bad ((walk (drop 4 (b ∷ bytes))).0 ++ entries_trials walk limit fuel (u32_at (b ∷ bytes) 0 ∷ seen) (walk (drop 4 (b ∷ bytes))).1)
      value_code again new =
          value_by again (one (drop 4 (b ∷ bytes))) refl new
          ∙ ap (λ o. option_or o (bad (entries_trials walk limit fuel (u32_at (b ∷ bytes) 0 ∷ seen) (walk (drop 4 (b ∷ bytes))).1))) (agrees.code (drop 4 (b ∷ bytes)))
          ∙ sym (bad_append (walk (drop 4 (b ∷ bytes))).0 (entries_trials walk limit fuel (u32_at (b ∷ bytes) 0 ∷ seen) (walk (drop 4 (b ∷ bytes))).1))

  table_code : (fields : List Field) (keys : List KeyDecl) (bytes : List ℕ) → code_of (table_of one fields limit keys bytes) ≡ bad (table_trials one walk fields limit keys bytes)
  unfolding entries_in
  table_code fields keys bytes =
      by_entries (entries_by one limit (length bytes) [] bytes)
      ∙ ap (λ o. option_or o (keys_trial fields keys (entries_by one limit (length bytes) [] bytes))) (entries_code (length bytes) [] [] (record { any = λ q. refl; long = refl }) bytes)
      ∙ sym (bad_last (entries_trials walk limit (length bytes) [] bytes) (keys_trial fields keys (entries_by one limit (length bytes) [] bytes)))
    where
      by_keys : (b : Bool) (es : List (ℕ × Value)) → code_of (cond b (Ok (value.Table es)) (Err invalid_parameters)) ≡ fails (not b) invalid_parameters
      by_keys true es = refl
      by_keys false es = refl

      by_entries : (r : Result (List (ℕ × Value)) ℕ) → code_of (r >>= λ es. cond (keys_differ fields keys es) (Ok (value.Table es)) (Err invalid_parameters)) ≡ option_or (code_of r) (keys_trial fields keys r)
      by_entries (Ok es) = by_keys (keys_differ fields keys es) es
      by_entries (Err code) = refl

-- one level of `inside_walk`
abbrev walk_layer : Ty-F Ty Field → Walk
walk_layer Ty-F.Bool = truth_walk
walk_layer (Ty-F.Number width signed min max) = number_walk width signed min max
walk_layer (Ty-F.String limit) = held_walk (text_trials limit)
walk_layer (Ty-F.Octets limit) = held_walk (octets_trials limit)
walk_layer (Ty-F.Bytes n) = fixed_walk n
walk_layer (Ty-F.Struct fields) = each_walk (map (λ f. inside_walk (field_ty f)) fields)
walk_layer (Ty-F.Array entry limit keys) = held_walk (table_trials (inside entry) (inside_walk entry) (fields_of entry) limit keys)

walk_field_rolled : (l : Field-F Ty Field) → inside_walk_at (roll-Field l) ≡ inside_walk l.ty
unfolding inside_walk inside_walk_at
walk_field_rolled l = para-roll-Field Walk Walk walk_step walk_field l

walk_field_is : (f : Field) → inside_walk_at f ≡ inside_walk (field_ty f)
walk_field_is f = ap inside_walk_at (sym (roll-out-Field f)) ∙ walk_field_rolled (out-Field f)

walk_fields : (fields : List Field) → map (λ (x : Field × Walk). x.1) (map (λ y. (y, inside_walk_at y)) fields) ≡ map (λ f. inside_walk (field_ty f)) fields
walk_fields [] = refl
walk_fields (f ∷ fields) = ap₂ (λ a b. a ∷ b) (walk_field_is f) (walk_fields fields)

walk_roll : (l : Ty-F Ty Field) → inside_walk (roll-Ty l) ≡ walk_layer l
unfolding inside_walk inside_walk_at
walk_roll Ty-F.Bool = para-roll-Ty Walk Walk walk_step walk_field _
walk_roll (Ty-F.Number b s min max) = para-roll-Ty Walk Walk walk_step walk_field _
walk_roll (Ty-F.String length) = para-roll-Ty Walk Walk walk_step walk_field _
walk_roll (Ty-F.Octets length) = para-roll-Ty Walk Walk walk_step walk_field _
walk_roll (Ty-F.Bytes length) = para-roll-Ty Walk Walk walk_step walk_field _
walk_roll (Ty-F.Struct fields) = para-roll-Ty Walk Walk walk_step walk_field (Ty-F.Struct fields) ∙ ap each_walk (walk_fields fields)
walk_roll (Ty-F.Array entry entries keys) = para-roll-Ty Walk Walk walk_step walk_field _

-- every type
abbrev AgreesAt : Ty → Type 0
AgreesAt ty = Agrees (inside ty) (inside_walk ty)

abbrev Agreeing : Type 0
Agreeing = (ty : Ty) × AgreesAt ty

abbrev AgreeingField : Type 0
AgreeingField = (f : Field) × AgreesAt (field_ty f)

abbrev bare : Ty-F Agreeing AgreeingField → Ty-F Ty Field
bare y = map-Ty Agreeing AgreeingField Ty Field (λ e. e.0) (λ e. e.0) y

fields_agree : (fs : List AgreeingField) → AllAgree (map (λ f. inside (field_ty f)) (map (λ e. e.0) fs)) (map (λ f. inside_walk (field_ty f)) (map (λ e. e.0) fs))
fields_agree [] = tt
fields_agree (e ∷ fs) = (e.1, fields_agree fs)

layer_agrees : (y : Ty-F Agreeing AgreeingField) → Agrees (in_layer (bare y)) (walk_layer (bare y))
layer_agrees Ty-F.Bool = record { code = truth_code; left = truth_left }
layer_agrees (Ty-F.Number w s min max) = record { code = number_code w s min max; left = number_left w s min max }
layer_agrees (Ty-F.String limit) = held_agrees (text_of limit) (text_trials limit) (text_code limit)
layer_agrees (Ty-F.Octets limit) = held_agrees (octets_of limit) (octets_trials limit) (octets_code limit)
layer_agrees (Ty-F.Bytes n) = record { code = fixed_code n; left = fixed_left n }
layer_agrees (Ty-F.Struct fields) = group_agrees _ _ (fields_agree fields)
layer_agrees (Ty-F.Array entry limit keys) =
    held_agrees (table_of (inside entry.0) (fields_of entry.0) limit keys) (table_trials (inside entry.0) (inside_walk entry.0) (fields_of entry.0) limit keys)
    (table_code (inside entry.0) (inside_walk entry.0) entry.1 limit (fields_of entry.0) keys)

inside_agrees : (ty : Ty) → AgreesAt ty
inside_agrees = ind-Ty AgreesAt (λ f. AgreesAt (field_ty f))
    (λ x y is. subst (λ (r : Reader). Agrees r (inside_walk (roll-Ty x))) (sym (inside_roll x))
    (subst (Agrees (in_layer x)) (sym (walk_roll x)) (subst (λ l. Agrees (in_layer l) (walk_layer l)) is (layer_agrees y))))
    (λ x y is. subst AgreesAt (ap (λ (z : Field-F Ty Field). z.ty) is ∙ sym (ap (λ (z : Field-F Ty Field). z.ty) (out-roll-Field x))) y.ty.1)

-- a value that stands by itself
alone_code : (x : Value × List ℕ) → code_of (alone x) ≡ fails (not (is_none x.1)) invalid_tlv
alone_code (v, []) = refl
alone_code (v, b ∷ bytes) = refl

whole_code : (ty : Ty) (bytes : List ℕ) → code_of (inside ty bytes >>= alone) ≡ bad ((inside_walk ty bytes).0 ++ fails (not (is_none (inside_walk ty bytes).1)) invalid_tlv ∷ [])
whole_code ty bytes =
    let a = inside_agrees ty in
    let last = fails (not (is_none (inside_walk ty bytes).1)) invalid_tlv in
    bind_code (inside ty bytes) alone last (λ x e. alone_code x ∙ ap (λ rest. fails (not (is_none rest)) invalid_tlv) (a.left bytes x e))
    ∙ ap (λ o. option_or o last) (a.code bytes) ∙ sym (bad_last (inside_walk ty bytes).0 last)

full_code_at : (ty : Ty) (bytes : List ℕ) (l : Ty-F Ty Field) → out-Ty ty ≡ l → code_of (full_in ty bytes) ≡ bad (full_trials ty bytes)
unfolding full_in full_trials
full_code_at ty bytes (Ty-F.String limit) e = rw e (text_code limit bytes)
full_code_at ty bytes (Ty-F.Octets limit) e = rw e (octets_code limit bytes)
full_code_at ty bytes (Ty-F.Array entry limit keys) e = rw e (table_code (inside entry) (inside_walk entry) (inside_agrees entry) limit (fields_of entry) keys bytes)
full_code_at ty bytes Ty-F.Bool e = rw e (whole_code ty bytes)
full_code_at ty bytes (Ty-F.Number w s min max) e = rw e (whole_code ty bytes)
full_code_at ty bytes (Ty-F.Bytes n) e = rw e (whole_code ty bytes)
full_code_at ty bytes (Ty-F.Struct fields) e = rw e (whole_code ty bytes)

full_code : (ty : Ty) (bytes : List ℕ) → code_of (full_in ty bytes) ≡ bad (full_trials ty bytes)
full_code ty bytes = full_code_at ty bytes (out-Ty ty) refl

-- the first test that fails
first_of : (ts : List Trial) (code : ℕ) → bad ts ≡ Some code → FirstFailed code ts
first_of [] code e = absurd (cc)
first_of (None ∷ ts) code e = let f = first_of ts code e in (None ∷ f.0, f.1, ap (λ xs. None ∷ xs) f.2, (refl, f.3))
first_of (Some c ∷ ts) code e = ([], ts, ap (λ t. t ∷ ts) e, tt)

bad_of : (before rest : List Trial) (code : ℕ) → AllByRecursion IsPassed before → bad (before ++ Some code ∷ rest) ≡ Some code
bad_of [] rest code all = refl
bad_of (t ∷ before) rest code all = ap (λ u. option_or u (bad (before ++ Some code ∷ rest))) all.0 ∙ bad_of before rest code all.1

none_bad : (ts : List Trial) → bad ts ≡ None → AllByRecursion IsPassed ts
none_bad [] e = tt
none_bad (None ∷ ts) e = (refl, none_bad ts e)
none_bad (Some c ∷ ts) e = absurd (cc)

passed_none : (ts : List Trial) → AllByRecursion IsPassed ts → bad ts ≡ None
passed_none [] all = refl
passed_none (t ∷ ts) all = ap (λ u. option_or u (bad ts)) all.0 ∙ passed_none ts all.1

err_of : {X : Type 0} (r : Result X ℕ) (code : ℕ) → code_of r ≡ Some code → r ≡ Err code
err_of (Ok x) code e = absurd (cc)
err_of (Err c) code e = ap Err (inner e)
  where
    inner : ◌≡◌ {A = Option ℕ} (Some c) (Some code) → c ≡ code
    inner f = cc

ok_of : {X : Type 0} (r : Result X ℕ) → code_of r ≡ None → (x : X) × (r ≡ Ok x)
ok_of (Ok x) e = (x, refl)
ok_of (Err c) e = absurd (cc)

pub codes_first : (ty : Ty) (bytes : List ℕ) (code : ℕ) → (full_in ty bytes ≡ Err code) ↔ FirstFailed code (full_trials ty bytes)
codes_first ty bytes code = (
  λ e. first_of (full_trials ty bytes) code (sym (full_code ty bytes) ∙ ap code_of e),
  λ f. err_of (full_in ty bytes) code (full_code ty bytes ∙ ap bad f.2 ∙ bad_of f.0 f.1 code f.3),
)

pub codes_read : (ty : Ty) (bytes : List ℕ) → ((v : Value) × (full_in ty bytes ≡ Ok v)) ↔ AllByRecursion IsPassed (full_trials ty bytes)
codes_read ty bytes = (
  λ p. none_bad (full_trials ty bytes) (sym (full_code ty bytes) ∙ ap code_of p.1),
  λ all. ok_of (full_in ty bytes) (full_code ty bytes ∙ passed_none (full_trials ty bytes) all),
)
