-- How many bytes the response of results alone has.
use Rattle.std.proofs.Common.{◌≡◌, ℕ, zero, suc, ◌+◌, ◌-◌, ◌*◌, ◌/◌, ◌%◌, ◌<◌, ◌≤◌, ◌&&◌, Bool, true, false, nat_lt, List, [], ◌∷◌, ◌++◌, length, take, map, get_or, Option, Some, None, refl, sym, ap, ◌∙◌, subst, arith, rules, length-append, append-nil}
use Rattle.std.proofs.lemmas.List.{take_more, map-append, length-replicate}
use Rattle.std.specs.List.{flat_map}
use Rattle.fc_wire.specs.Bytes.{u16_bytes, u32_bytes}
use Rattle.fc_wire.specs.Writing.{tlv_bytes, padding}
use Rattle.fc_wire.specs.declared.ilvs.Ilv.{Ilv}
use Rattle.fc_wire.proofs.ItemLaws.{tlv_length}
use Rattle.fc_path.specs.Kinds.{number_of}
use Rattle.fc_path.specs.Canon.{Written, plain, after, joined, wrapped, result_written, key_written, key_flags, body_written, path_written, path_step, oper_written, select_written}
use Rattle.fc_path.specs.Results.{path_results, body_results, oper_results, select_with, select_results, results_fit, response_kind, Sized, Held}
use Rattle.fc_path.specs.declared.oper.OperKind.{OperKind}
use Rattle.fc_path.specs.declared.oper.Oper.{Oper}
use Rattle.fc_path.specs.declared.oper.Oper.TheVariants as oper
use Rattle.fc_path.specs.declared.oper.Select.{Select}
use Rattle.fc_path.specs.declared.path.Key.{Key}
use Rattle.fc_path.specs.declared.path.PathData.{PathData, roll-PathData}
use Rattle.fc_path.specs.declared.path.Body.{Body, the_lemmas}
use Rattle.fc_path.specs.declared.path.Body.TheVariants as v
use Rattle.fc_path.proofs.Closing.{and_left, and_right, both_true, path_is, nested_is, joined_fails, joined_after, joined_fits}
use Rattle.fc_path.proofs.Complete.{ids_length}
use Rattle.fc_path.proofs.InGrammar.{joined_whole, path_whole, oper_whole, key_whole, body_whole, outcome_is}

pub padding_length : (n : ℕ) → length (padding n) ≡ (4 - n % 4) % 4
unfolding padding
padding_length n = length-replicate ((4 - n % 4) % 4) 0

-- the bytes of a TLV
pub tlv_size : (kind : ℕ) (value : List ℕ) → length (tlv_bytes kind value) ≡ 4 + (length value + 3) / 4 * 4
unfolding tlv_bytes
tlv_size kind value = omega (arith, padding_length (length value), length-append value (padding (length value)))

pub lt_yes : (m n : ℕ) → m < n → nat_lt m n ≡ true
lt_yes m n h = grind arith

pub lt_no : (m n : ℕ) → n ≤ m → nat_lt m n ≡ false
lt_no m n h = grind arith

-- what is held in a TLV whose value needs no padding
pub in_tlv : (kind n : ℕ) (w : Written) → length w.text % 4 ≡ 0 → Held 65532 (Some n) w → Sized (Some (n + 4)) (wrapped kind w)
in_tlv kind n w whole h = (both_true _ _ (lt_yes (length w.text) 65532 (omega (arith, h.1, h.2))) h.0, omega (arith, tlv_size kind w.text, h.1))

pub over_tlv : (kind : ℕ) (w : Written) → 65532 ≤ length w.text → Sized None (wrapped kind w)
over_tlv kind w h = and_left _ _ (lt_no (length w.text) 65532 h)

result_size : Held 65532 (Some 8) (result_written 0)
result_size = (refl, tlv_size 276 (0 ∷ 0 ∷ 0 ∷ 0 ∷ []), omega arith)

module _ {A : Type 0} (f : A → Written) where
  more_is : (xs : List A) (i : ℕ) (x : A) → i < length xs → x ≡ get_or xs i x → map f (take (i + 1) xs) ≡ map f (take i xs) ++ f x ∷ []
  more_is xs i x less is =
      let more : take (i + 1) xs ≡ take i xs ++ x ∷ [] = take_more xs i x less ∙ ap (λ y. take i xs ++ y ∷ []) (sym is) in
      ap (map f) more ∙ map-append f (take i xs) (x ∷ [])

  more_size : (xs : List A) (i : ℕ) (x : A) (s n : ℕ) → i < length xs → x ≡ get_or xs i x → length (joined (map f (take i xs))).text ≡ s → length (f x).text ≡ n → length (joined (map f (take (i + 1) xs))).text ≡ s + n
  more_size xs i x s n less is a b =
      ap (λ ws. length (joined ws).text) (more_is xs i x less is) ∙ ap length (joined_after (map f (take i xs)) (f x ∷ []))
      ∙ omega (arith, length-append (joined (map f (take i xs))).text ((f x).text ++ []), length-append (f x).text [], a, b)

  -- one more
  pub held_more : (limit : ℕ) (xs : List A) (i : ℕ) (x : A) (s n : ℕ) → i < length xs → x ≡ get_or xs i x → Held limit (Some s) (joined (map f (take i xs))) → Sized (Some n) (f x) → s + n < limit
      → Held limit (Some (s + n)) (joined (map f (take (i + 1) xs)))
  held_more limit xs i x s n less is h k small = (
    ap (λ ws. (joined ws).fits) (more_is xs i x less is) ∙ joined_fits (map f (take i xs)) (f x ∷ []) ∙ both_true _ _ h.0 (both_true _ _ k.0 refl),
    more_size xs i x s n less is h.1 k.1,
    small,
  )

  -- one that does not fit
  pub held_fails : (limit : ℕ) (xs : List A) (i : ℕ) (x : A) → i < length xs → x ≡ get_or xs i x → Sized None (f x) → Held limit None (joined (map f xs))
  held_fails limit xs i x less is h = and_right _ _ (joined_fails f xs i x less is h)

  front_size : (n : ℕ) (xs : List A) → length (joined (map f (take n xs))).text ≤ length (joined (map f xs)).text
  front_size zero [] = omega arith
  front_size zero (x ∷ xs) = omega arith
  front_size (suc n) [] = omega arith
  front_size (suc n) (x ∷ xs) = omega (arith, front_size n xs, length-append (f x).text (joined (map f (take n xs))).text, length-append (f x).text (joined (map f xs)).text)

  -- one too many
  pub held_over : (limit : ℕ) (xs : List A) (i : ℕ) (x : A) (s n : ℕ) → i < length xs → x ≡ get_or xs i x → Held limit (Some s) (joined (map f (take i xs))) → Sized (Some n) (f x) → limit ≤ s + n
      → Held limit None (joined (map f xs))
  held_over limit xs i x s n less is h k large =
      and_left _ _ (lt_no (length (joined (map f xs)).text) limit (omega (arith, front_size (i + 1) xs, more_size xs i x s n less is h.1 k.1)))

-- one level of the response
path_results_is : (p : PathData) → path_results p ≡ roll-PathData (record { ids = p.ids; key = p.key; body = body_results p.body })
path_results_is p = search (rules, the_lemmas)

path_response : (p : PathData) → path_written (path_results p) ≡ path_step (record { ids = p.ids; key = p.key; body = body_written (body_results p.body) })
path_response p = ap path_written (path_results_is p) ∙ path_is (roll-PathData (record { ids = p.ids; key = p.key; body = body_results p.body }))

abbrev value_text : PathData → List ℕ
value_text p = u16_bytes (key_flags p.key) ++ u16_bytes (length p.ids) ++ flat_map u32_bytes p.ids ++ ((key_written p.key).text ++ (body_written (body_results p.body)).text)

value_size : (p : PathData) → length (value_text p) ≡ 4 + 4 * length p.ids + length (key_written p.key).text + length (body_written (body_results p.body)).text
value_size p = omega (arith, ids_length p.ids, length-append (flat_map u32_bytes p.ids) ((key_written p.key).text ++ (body_written (body_results p.body)).text), length-append (key_written p.key).text (body_written (body_results p.body)).text)

abbrev value_fits : PathData → Bool
value_fits p = nat_lt (length p.ids) 65536 && ((key_written p.key).fits && (body_written (body_results p.body)).fits)

path_fits : (p : PathData) → (path_written (path_results p)).fits ≡ (nat_lt (length (value_text p)) 65532 && value_fits p)
path_fits p = ap (λ w. w.fits) (path_response p)

pub path_many : (p : PathData) → 65531 < length p.ids → Sized None (path_written (path_results p))
path_many p h = path_fits p ∙ and_left _ _ (lt_no (length (value_text p)) 65532 (omega (arith, value_size p)))

pub path_key_fails : (p : PathData) → Sized None (key_written p.key) → Sized None (path_written (path_results p))
path_key_fails p h = path_fits p ∙ and_right _ _ (and_right (nat_lt (length p.ids) 65536) _ (and_left _ _ h))

pub held_cases : (limit n : ℕ) (f : Bool) (P : Type 0) → (nat_lt n limit && f) ≡ false → (limit ≤ n → P) → (f ≡ false → P) → P
held_cases limit n true P h a b = a (grind arith)
held_cases limit n false P h a b = b refl

pub path_body_fails : (p : PathData) → Held 65532 None (body_written (body_results p.body)) → Sized None (path_written (path_results p))
path_body_fails p h =
    let body = body_written (body_results p.body) in
    path_fits p ∙ held_cases 65532 (length body.text) body.fits ((nat_lt (length (value_text p)) 65532 && value_fits p) ≡ false) h
    (λ (large : 65532 ≤ length body.text). and_left _ _ (lt_no (length (value_text p)) 65532 (omega (arith, value_size p, large))))
    (λ no. and_right _ _ (and_right (nat_lt (length p.ids) 65536) _ (and_right (key_written p.key).fits _ no)))

pub path_over : (p : PathData) (k b : ℕ) → Sized (Some k) (key_written p.key) → Held 65532 (Some b) (body_written (body_results p.body)) → 65531 < 4 + 4 * length p.ids + k + b → Sized None (path_written (path_results p))
path_over p k b key body large = path_fits p ∙ and_left _ _ (lt_no (length (value_text p)) 65532 (omega (arith, value_size p, key.1, body.1)))

pub path_sized : (p : PathData) (k b : ℕ) → Sized (Some k) (key_written p.key) → Held 65532 (Some b) (body_written (body_results p.body)) → 4 + 4 * length p.ids + k + b ≤ 65531
    → Sized (Some (4 + 4 * length p.ids + k + b + 4)) (path_written (path_results p))
path_sized p k b key body small =
    let size : length (value_text p) ≡ 4 + 4 * length p.ids + k + b = omega (arith, value_size p, key.1, body.1) in
    let text : (path_written (path_results p)).text ≡ tlv_bytes 272 (value_text p) = ap (λ w. w.text) (path_response p) in (
      path_fits p ∙ both_true _ _ (lt_yes (length (value_text p)) 65532 (omega arith)) (both_true _ _ (lt_yes (length p.ids) 65536 (omega arith)) (both_true _ _ key.0 body.0)),
      omega (arith, ap length text, tlv_size 272 (value_text p), key_whole p.key, body_whole (body_results p.body), key.1, body.1),
    )

-- a key
pub key_long : (key : Key) → 65531 < length key.value → Sized None (key_written (Some key))
key_long key h = and_right _ _ (and_left _ _ (lt_no (length key.value) 65532 h))

abbrev key_value : Key → List ℕ
key_value key = u32_bytes key.ident ++ tlv_bytes 274 key.value

key_value_size : (key : Key) → length (key_value key) ≡ 4 + (4 + (length key.value + 3) / 4 * 4)
key_value_size key = omega (arith, tlv_size 274 key.value)

pub key_over : (key : Key) → 65531 < 4 + (4 + (length key.value + 3) / 4 * 4) → Sized None (key_written (Some key))
key_over key h = and_left _ _ (lt_no (length (key_value key)) 65532 (omega (arith, key_value_size key)))

pub key_sized : (key : Key) → 4 + (4 + (length key.value + 3) / 4 * 4) ≤ 65531 → Sized (Some (4 + (4 + (length key.value + 3) / 4 * 4) + 4)) (key_written (Some key))
key_sized key h =
    (both_true _ _ (lt_yes (length (key_value key)) 65532 (omega (arith, key_value_size key))) (both_true _ _ (lt_yes (length key.value) 65532 (omega arith)) refl), omega (arith, tlv_size 273 (key_value key), key_value_size key))

-- bodies
nothing_result : body_results v.Nothing ≡ v.Outcome 0
nothing_result = search (rules, the_lemmas)

full_result : (value : List ℕ) → body_results (v.Full value) ≡ v.Outcome 0
full_result value = search (rules, the_lemmas)

outcome_result : (code : ℕ) → body_results (v.Outcome code) ≡ v.Outcome 0
outcome_result code = search (rules, the_lemmas)

nested_result : (ps : List PathData) → body_results (v.Nested ps) ≡ v.Nested (map path_results ps)
nested_result ps = search (rules, the_lemmas)

map_twice : (ps : List PathData) → map path_written (map path_results ps) ≡ map (λ p. path_written (path_results p)) ps
map_twice [] = refl
map_twice (p ∷ ps) = ap (λ l. path_written (path_results p) ∷ l) (map_twice ps)

pub leaf_held : (b : Body) → body_results b ≡ v.Outcome 0 → Held 65532 (Some 8) (body_written (body_results b))
leaf_held b e = subst (λ x. Held 65532 (Some 8) (body_written x)) (sym e) (subst (Held 65532 (Some 8)) (sym (outcome_is 0)) result_size)

pub nested_held : (ps : List PathData) (r : Option ℕ) → Held 65532 r (joined (map (λ p. path_written (path_results p)) ps)) → Held 65532 r (body_written (body_results (v.Nested ps)))
nested_held ps r h = subst (Held 65532 r) (sym (ap body_written (nested_result ps) ∙ nested_is (map path_results ps) ∙ ap joined (map_twice ps))) h

same_written : (a b : Written) → a.text ≡ b.text → a.fits ≡ b.fits → a ≡ b
same_written a b t f = let same : ◌≡◌ {A = Written} (record { text = a.text; fits = a.fits }) (record { text = b.text; fits = b.fits }) = cc in same

joined_both : (xs ys : List Written) → joined (xs ++ ys) ≡ after (joined xs) (joined ys)
joined_both xs ys = let text = joined_after xs ys in let fits = joined_fits xs ys in same_written (joined (xs ++ ys)) (after (joined xs) (joined ys)) text fits

-- one after the other, in parts
pub joined_flat : {A B : Type 0} (f : B → Written) (g : A → List B) (xs : List A) → joined (map f (flat_map g xs)) ≡ joined (map (λ x. joined (map f (g x))) xs)
joined_flat f g [] = refl
joined_flat f g (x ∷ xs) =
    ap joined (map-append f (g x) (flat_map g xs)) ∙ joined_both (map f (g x)) (map f (flat_map g xs)) ∙ ap (after (joined (map f (g x)))) (joined_flat f g xs)

-- one alone
sized_alone : (r : Option ℕ) (w : Written) → Sized r w → Sized r (after w (plain []))
sized_alone None w h = and_left _ _ h
sized_alone (Some n) w h = (both_true _ _ h.0 refl, ap length (append-nil w.text) ∙ h.1)

-- operations
abbrev pub oper_part : Oper → Written
oper_part o = joined (map oper_written (oper_results o))

pub paths_part : (kind : OperKind) (ps : List PathData) (n : ℕ) → Held 65532 (Some n) (joined (map (λ p. path_written (path_results p)) ps)) → Sized (Some (n + 4)) (oper_part (oper.Paths kind ps))
paths_part kind ps n h =
    sized_alone (Some (n + 4)) _ (in_tlv (number_of (response_kind kind)) n (joined (map path_written (map path_results ps))) (joined_whole path_written path_whole (map path_results ps))
    (subst (Held 65532 (Some n)) (sym (ap joined (map_twice ps))) h))

pub paths_part_fails : (kind : OperKind) (ps : List PathData) → Held 65532 None (joined (map (λ p. path_written (path_results p)) ps)) → Sized None (oper_part (oper.Paths kind ps))
paths_part_fails kind ps h = and_left _ _ (subst (Held 65532 None) (sym (ap joined (map_twice ps))) h)

pub commit_part : Sized (Some 12) (oper_part oper.Commit)
commit_part = sized_alone (Some 12) _ (in_tlv 13 8 (result_written 0) (tlv_length 276 (0 ∷ 0 ∷ 0 ∷ 0 ∷ [])) result_size)

oper_some : (o : Oper) → 4 ≤ length (oper_written o).text
oper_some (oper.Paths kind paths) = omega (arith, tlv_size (number_of kind) (joined (map path_written paths)).text)
oper_some oper.Commit = omega (arith, tlv_size 12 [])
oper_some oper.Trcomp = omega (arith, tlv_size 14 [])
oper_some (oper.CommitResponse code) = omega (arith, tlv_size 13 (result_written code).text)

-- selects
abbrev pub select_part : Select → Written
select_part s = joined (map select_written (select_results s))

abbrev opers_of : Select → Written
opers_of s = joined (map oper_part s.opers)

flat_opers : (s : Select) → joined (map oper_written (flat_map oper_results s.opers)) ≡ opers_of s
flat_opers s = joined_flat oper_written oper_results s.opers

with_none : (s : Select) (os : List Oper) → Held 65532 None (joined (map oper_written os)) → Sized None (joined (map select_written (select_with s os)))
with_none s [] h = cc
with_none s (o ∷ os) h =
    let inner = joined (map oper_written (o ∷ os)) in
    let value = u32_bytes s.class ++ u32_bytes s.instance ++ inner.text in
    and_left (nat_lt (length value) 65532 && (true && inner.fits)) true
    (held_cases 65532 (length inner.text) inner.fits ((nat_lt (length value) 65532 && (true && inner.fits)) ≡ false) h
    (λ (large : 65532 ≤ length inner.text). and_left _ _ (lt_no (length value) 65532 (omega arith))) (λ no. and_right (nat_lt (length value) 65532) _ no))

with_zero : (s : Select) (os : List Oper) → Held 65532 (Some 0) (joined (map oper_written os)) → Sized (Some 0) (joined (map select_written (select_with s os)))
with_zero s [] h = (refl, refl)
with_zero s (o ∷ os) h = absurd (omega (arith, h.1, oper_some o, length-append (oper_written o).text (joined (map oper_written os)).text))

with_over : (s : Select) (os : List Oper) (n : ℕ) → Held 65532 (Some n) (joined (map oper_written os)) → 0 < n → 65531 < n + 8 → Sized None (joined (map select_written (select_with s os)))
with_over s [] n h some large = absurd (omega (arith, h.1))
with_over s (o ∷ os) n h some large =
    let value = u32_bytes s.class ++ u32_bytes s.instance ++ (joined (map oper_written (o ∷ os))).text in
    and_left _ _ (and_left _ _ (lt_no (length value) 65532 (omega (arith, h.1))))

with_some : (s : Select) (os : List Oper) (n : ℕ) → Held 65532 (Some n) (joined (map oper_written os)) → 0 < n → n + 8 ≤ 65531 → Sized (Some (n + 12)) (joined (map select_written (select_with s os)))
with_some s [] n h some small = absurd (omega (arith, h.1))
with_some s (o ∷ os) n h some small =
    let value = u32_bytes s.class ++ u32_bytes s.instance ++ (joined (map oper_written (o ∷ os))).text in
    sized_alone (Some (n + 12)) (select_written (record { class = s.class; instance = s.instance; opers = o ∷ os }))
    (both_true _ _ (lt_yes (length value) 65532 (omega (arith, h.1))) h.0, omega (arith, tlv_size 4096 value, h.1, joined_whole oper_written oper_whole (o ∷ os)))

pub select_none : (s : Select) → Held 65532 None (opers_of s) → Sized None (select_part s)
select_none s h = with_none s (flat_map oper_results s.opers) (subst (Held 65532 None) (sym (flat_opers s)) h)

pub select_zero : (s : Select) → Held 65532 (Some 0) (opers_of s) → Sized (Some 0) (select_part s)
select_zero s h = with_zero s (flat_map oper_results s.opers) (subst (Held 65532 (Some 0)) (sym (flat_opers s)) h)

pub select_over : (s : Select) (n : ℕ) → Held 65532 (Some n) (opers_of s) → 0 < n → 65531 < n + 8 → Sized None (select_part s)
select_over s n h some large = with_over s (flat_map oper_results s.opers) n (subst (Held 65532 (Some n)) (sym (flat_opers s)) h) some large

pub select_some : (s : Select) (n : ℕ) → Held 65532 (Some n) (opers_of s) → 0 < n → n + 8 ≤ 65531 → Sized (Some (n + 12)) (select_part s)
select_some s n h some small = with_some s (flat_map oper_results s.opers) n (subst (Held 65532 (Some n)) (sym (flat_opers s)) h) some small

-- all of them
pub fit_is : (selects : List Select) → results_fit selects ≡ (nat_lt (length (joined (map select_part selects)).text) 262117 && (joined (map select_part selects)).fits)
fit_is selects = ap (λ w. nat_lt (length w.text) 262117 && w.fits) (joined_flat select_written select_results selects)

pub fit_not : (selects : List Select) → Held 262117 None (joined (map select_part selects)) → false ≡ results_fit selects
fit_not selects h = sym (fit_is selects ∙ h)

pub fit_yes : (selects : List Select) (n : ℕ) → Held 262117 (Some n) (joined (map select_part selects)) → true ≡ results_fit selects
fit_yes selects n h = sym (fit_is selects ∙ both_true _ _ (lt_yes (length (joined (map select_part selects)).text) 262117 (omega (arith, h.1, h.2))) h.0)

sparse_result : (ilvs : List Ilv) → body_results (v.Sparse ilvs) ≡ v.Outcome 0
sparse_result ilvs = search (rules, the_lemmas)

pub nothing_held : Held 65532 (Some 8) (body_written (body_results v.Nothing))
nothing_held = leaf_held v.Nothing nothing_result

pub full_held : (value : List ℕ) → Held 65532 (Some 8) (body_written (body_results (v.Full value)))
full_held value = leaf_held (v.Full value) (full_result value)

pub sparse_held : (ilvs : List Ilv) → Held 65532 (Some 8) (body_written (body_results (v.Sparse ilvs)))
sparse_held ilvs = leaf_held (v.Sparse ilvs) (sparse_result ilvs)

pub outcome_held : (code : ℕ) → Held 65532 (Some 8) (body_written (body_results (v.Outcome code)))
outcome_held code = leaf_held (v.Outcome code) (outcome_result code)

pub positive : (n : ℕ) → (n ≡ 0 → ⊥) → 0 < n
positive zero h = absurd (h refl)
positive (suc n) h = omega arith
