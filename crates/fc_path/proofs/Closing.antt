-- What writing appends, step by step.
use Rattle.std.proofs.Common.{◌≡◌, ◌↔◌, ℕ, zero, suc, ◌+◌, ◌-◌, ◌<◌, ◌≤◌, ◌&&◌, Bool, true, false, nat_lt, List, [], ◌∷◌, ◌++◌, length, take, map, get_or, Some, Result, Ok, Err, OnOk, refl, sym, ap, ◌∙◌, subst, arith, rules, inl, inr, length-append, append_assoc, append-nil}
use Rattle.std.proofs.lemmas.List.{take_more, map-append}
use Rattle.std.proofs.lemmas.Bool.{cases_lt}
use Rattle.std.specs.Result.{IsErrOf}
use Rattle.std.specs.List.{flat_map}
use Rattle.fc_base.specs.declared.faults.WriteFault.{WriteFault}
use Rattle.fc_base.specs.declared.faults.WriteFault.TheVariants as faults
use Rattle.fc_wire.specs.Bytes.{u16_bytes, u32_bytes}
use Rattle.fc_wire.specs.Writing.{Writing, writing, head_bytes, tlv_bytes, ilv_bytes, padding}
use Rattle.fc_path.specs.Canon.{Written, Pushed, plain, joined, wrapped, key_written, key_flags, body_written, path_written, path_step, oper_written, select_written}
use Rattle.fc_path.specs.declared.oper.Select.{Select}
use Rattle.fc_path.specs.declared.path.Key.{Key}
use Rattle.fc_path.specs.declared.path.PathData.{PathData}
use Rattle.fc_path.specs.declared.path.Body.{the_lemmas}
use Rattle.fc_path.specs.declared.path.Body.TheVariants as v

pub fits_yes : (n : ℕ) (f : Bool) → n < 65532 → f ≡ true → (nat_lt n 65532 && f) ≡ true
fits_yes n f h e = grind arith

fits_not : (n : ℕ) (f : Bool) → 65532 ≤ n → (nat_lt n 65532 && f) ≡ false
fits_not n f h = grind arith

pub and_left : (a b : Bool) → a ≡ false → (a && b) ≡ false
and_left true b e = cc
and_left false b e = refl

pub and_right : (a b : Bool) → b ≡ false → (a && b) ≡ false
and_right true b e = e
and_right false b e = refl

pub both_true : (a b : Bool) → a ≡ true → b ≡ true → (a && b) ≡ true
both_true true b h k = k
both_true false b h k = cc

pub and_assoc : (a b c : Bool) → ((a && b) && c) ≡ (a && (b && c))
and_assoc true b c = refl
and_assoc false b c = refl

-- a TLV that ends
pub closing : (old mid new : Writing) (value : List ℕ) (kind begun : ℕ) (fits : Bool) (r : Result (Unit {0}) WriteFault) → begun ≡ length old.text
    → mid ≡ writing (old.text ++ (head_bytes kind ++ value)) (old.places ++ length old.text ∷ []) → fits ≡ true
    → ((base value outer : List ℕ) (kind : ℕ) → mid ≡ writing (base ++ (head_bytes kind ++ value)) (outer ++ length base ∷ []) → OnOk r (new ≡ writing (base ++ tlv_bytes kind value) outer))
    → IsErrOf r faults.TooLong ↔ (65535 < length mid.text - begun) → Pushed r old new (wrapped kind (record { text = value; fits = fits }))
closing old mid new value kind begun fits (Ok x) b m f ok long =
    let size : length mid.text ≡ length old.text + (4 + length value) = omega (arith, ap (λ w. length w.text) m, length-append old.text (head_bytes kind ++ value)) in
    elim (cases_lt (length value) 65532) [
      | inl less ↦ (fits_yes (length value) fits less f, ok old.text value old.places kind m)
      | inr more ↦ let over : 65535 < length mid.text - begun = omega arith in cc (long.1 over)
    ]
closing old mid new value kind begun fits (Err faults.TooLong) b m f ok long =
    let size : length mid.text ≡ length old.text + (4 + length value) = omega (arith, ap (λ w. length w.text) m, length-append old.text (head_bytes kind ++ value)) in
    let over : 65535 < length mid.text - begun = long.0 refl in
    fits_not (length value) fits (omega arith)
closing old mid new value kind begun fits (Err faults.Memory) b m f ok long = tt

-- what stands behind a head grows
pub grow : (t head v ps : List ℕ) (w x : Writing) → w ≡ writing (t ++ head) ps → x ≡ writing (w.text ++ v) w.places → x ≡ writing (t ++ (head ++ v)) ps
grow t head v ps w x e f = f ∙ ap (λ (w : Writing). writing (w.text ++ v) w.places) e ∙ ap (λ l. writing l ps) (append_assoc t head v)

-- a part that does not fit
pub fails_to : (e : WriteFault) (w v : Written) (a b c d : Writing) → (w.fits ≡ false → v.fits ≡ false) → Pushed (Err e) a b w → Pushed (Err e) c d v
fails_to faults.TooLong w v a b c d f h = f h
fails_to faults.Memory w v a b c d f h = tt

pub joined_after : (xs ys : List Written) → (joined (xs ++ ys)).text ≡ (joined xs).text ++ (joined ys).text
joined_after [] ys = refl
joined_after (x ∷ xs) ys = ap (λ l. x.text ++ l) (joined_after xs ys) ∙ sym (append_assoc x.text (joined xs).text (joined ys).text)

pub joined_fits : (xs ys : List Written) → (joined (xs ++ ys)).fits ≡ ((joined xs).fits && (joined ys).fits)
joined_fits [] ys = refl
joined_fits (x ∷ xs) ys = ap (λ b. x.fits && b) (joined_fits xs ys) ∙ sym (and_assoc x.fits (joined xs).fits (joined ys).fits)

module _ {A : Type 0} (f : A → Written) where
  -- one more of them
  pub joined_more : (xs : List A) (i : ℕ) (x : A) (old mid new : Writing) → i < length xs → x ≡ get_or xs i x → Pushed (Ok tt) old mid (joined (map f (take i xs))) → Pushed (Ok tt) mid new (f x)
      → Pushed (Ok tt) old new (joined (map f (take (i + 1) xs)))
  joined_more xs i x old mid new less is m n =
      let more : take (i + 1) xs ≡ take i xs ++ x ∷ [] = take_more xs i x less ∙ ap (λ y. take i xs ++ y ∷ []) (sym is) in
      let all : map f (take (i + 1) xs) ≡ map f (take i xs) ++ f x ∷ [] = ap (map f) more ∙ map-append f (take i xs) (x ∷ []) in
      let text : (joined (map f (take (i + 1) xs))).text ≡ (joined (map f (take i xs))).text ++ (f x).text =
      ap (λ ws. (joined ws).text) all ∙ joined_after (map f (take i xs)) (f x ∷ []) ∙ ap (λ l. (joined (map f (take i xs))).text ++ l) (append-nil (f x).text) in (
        ap (λ ws. (joined ws).fits) all ∙ joined_fits (map f (take i xs)) (f x ∷ []) ∙ both_true _ _ m.0 (both_true _ _ n.0 refl),
        n.1 ∙ ap (λ (w : Writing). writing (w.text ++ (f x).text) w.places) m.1 ∙ ap (λ l. writing l old.places) (append_assoc old.text _ (f x).text)
            ∙ ap (λ l. writing (old.text ++ l) old.places) (sym text),
      )

  -- one of them is too long
  pub joined_fails : (xs : List A) (i : ℕ) (x : A) → i < length xs → x ≡ get_or xs i x → (f x).fits ≡ false → (joined (map f xs)).fits ≡ false
  joined_fails [] i x less is h = absurd (omega arith)
  joined_fails (y ∷ xs) zero x less is h = ap (λ z. (f z).fits && (joined (map f xs)).fits) (sym is) ∙ ap (λ b. b && (joined (map f xs)).fits) h
  joined_fails (y ∷ xs) (suc i) x less is h = and_right (f y).fits _ (joined_fails xs i x (omega arith) is h)

-- one level of what is written
pub path_is : (p : PathData) → path_written p ≡ path_step (record { ids = p.ids; key = p.key; body = body_written p.body })
path_is p = search (rules, the_lemmas)

pub nested_is : (ps : List PathData) → body_written (v.Nested ps) ≡ joined (map path_written ps)
nested_is ps = search (rules, the_lemmas)

few_fits : (n : ℕ) (f : Bool) → n < 65536 → f ≡ true → (nat_lt n 65536 && f) ≡ true
few_fits n f h e = grind arith

pub many_fail : (n : ℕ) → 65535 < n → nat_lt n 65536 ≡ false
many_fail n h = grind arith

-- a PATH-DATA, in the words of its parts
abbrev path_value : PathData → List ℕ
path_value p = u16_bytes (key_flags p.key) ++ u16_bytes (length p.ids) ++ flat_map u32_bytes p.ids ++ ((key_written p.key).text ++ (body_written p.body).text)

pub path_closing : (p : PathData) (old w0 w1 w2 w3 w4 w5 new : Writing) (begun : ℕ) (r : Result (Unit {0}) WriteFault) → begun ≡ length old.text → length p.ids < 65536
    → w0 ≡ writing (old.text ++ head_bytes 272) (old.places ++ length old.text ∷ [])
    → w1 ≡ writing (w0.text ++ u16_bytes (key_flags p.key)) w0.places → w2 ≡ writing (w1.text ++ u16_bytes (length p.ids)) w1.places → w3 ≡ writing (w2.text ++ flat_map u32_bytes p.ids) w2.places
    → Pushed (Ok tt) w3 w4 (key_written p.key) → Pushed (Ok tt) w4 w5 (body_written p.body)
    → ((base value outer : List ℕ) (kind : ℕ) → w5 ≡ writing (base ++ (head_bytes kind ++ value)) (outer ++ length base ∷ []) → OnOk r (new ≡ writing (base ++ tlv_bytes kind value) outer))
    → IsErrOf r faults.TooLong ↔ (65535 < length w5.text - begun) → Pushed r old new (path_written p)
path_closing p old w0 w1 w2 w3 w4 w5 new begun r b few e0 e1 e2 e3 k l ok long =
    let t = old.text in
    let ps = old.places ++ length old.text ∷ [] in
    let h = head_bytes 272 in
    let flags = u16_bytes (key_flags p.key) in
    let count = u16_bytes (length p.ids) in
    let ids = flat_map u32_bytes p.ids in
    let key = (key_written p.key).text in
    let body = (body_written p.body).text in
    let f1 = grow t h flags ps w0 w1 e0 e1 in
    let f2 = grow t (h ++ flags) count ps w1 w2 f1 e2 in
    let f3 = grow t (h ++ flags ++ count) ids ps w2 w3 f2 e3 in
    let f4 = grow t (h ++ flags ++ count ++ ids) key ps w3 w4 f3 k.1 in
    let f5 = grow t (h ++ flags ++ count ++ ids ++ key) body ps w4 w5 f4 l.1 in
    let all = f5 ∙ ap (λ l. writing (t ++ (h ++ (flags ++ count ++ l))) ps) (append_assoc ids key body) in
    subst (Pushed r old new) (sym (path_is p))
    (closing old w5 new (path_value p) 272 begun (nat_lt (length p.ids) 65536 && ((key_written p.key).fits && (body_written p.body).fits)) r b all (few_fits (length p.ids) _ few (both_true _ _ k.0 l.0)) ok long)

pub path_too_long : (p : PathData) → ((key_written p.key).fits && (body_written p.body).fits) ≡ false → (path_written p).fits ≡ false
path_too_long p h = ap (λ w. w.fits) (path_is p) ∙ and_right _ _ (and_right (nat_lt (length p.ids) 65536) _ h)

pub path_too_many : (p : PathData) → 65535 < length p.ids → (path_written p).fits ≡ false
path_too_many p h = ap (λ w. w.fits) (path_is p) ∙ and_right _ _ (and_left _ _ (many_fail (length p.ids) h))

-- a TLV that holds what was written into it
pub holder : (old w0 w1 new : Writing) (inner : Written) (kind begun : ℕ) (r : Result (Unit {0}) WriteFault) → begun ≡ length old.text → w0 ≡ writing (old.text ++ head_bytes kind) (old.places ++ length old.text ∷ [])
    → Pushed (Ok tt) w0 w1 inner → ((base value outer : List ℕ) (kind : ℕ) → w1 ≡ writing (base ++ (head_bytes kind ++ value)) (outer ++ length base ∷ []) → OnOk r (new ≡ writing (base ++ tlv_bytes kind value) outer))
    → IsErrOf r faults.TooLong ↔ (65535 < length w1.text - begun) → Pushed r old new (wrapped kind inner)
holder old w0 w1 new inner kind begun r b e h ok long =
    closing old w1 new inner.text kind begun inner.fits r b (grow old.text (head_bytes kind) inner.text (old.places ++ length old.text ∷ []) w0 w1 e h.1) h.0 ok long

pub key_closing : (key : Key) (old w0 w1 w2 new : Writing) (begun : ℕ) (r : Result (Unit {0}) WriteFault) → begun ≡ length old.text → w0 ≡ writing (old.text ++ head_bytes 273) (old.places ++ length old.text ∷ [])
    → w1 ≡ writing (w0.text ++ u32_bytes key.ident) w0.places → Pushed (Ok tt) w1 w2 (wrapped 274 (plain key.value))
    → ((base value outer : List ℕ) (kind : ℕ) → w2 ≡ writing (base ++ (head_bytes kind ++ value)) (outer ++ length base ∷ []) → OnOk r (new ≡ writing (base ++ tlv_bytes kind value) outer))
    → IsErrOf r faults.TooLong ↔ (65535 < length w2.text - begun) → Pushed r old new (key_written (Some key))
key_closing key old w0 w1 w2 new begun r b e0 e1 h ok long =
    let t = old.text in
    let ps = old.places ++ length old.text ∷ [] in
    let f1 = grow t (head_bytes 273) (u32_bytes key.ident) ps w0 w1 e0 e1 in
    let f2 = grow t (head_bytes 273 ++ u32_bytes key.ident) (tlv_bytes 274 key.value) ps w1 w2 f1 h.1 in
    closing old w2 new (u32_bytes key.ident ++ tlv_bytes 274 key.value) 273 begun (nat_lt (length key.value) 65532 && true) r b f2 h.0 ok long

pub select_closing : (s : Select) (old w0 w1 w2 w3 new : Writing) (begun : ℕ) (r : Result (Unit {0}) WriteFault) → begun ≡ length old.text → w0 ≡ writing (old.text ++ head_bytes 4096) (old.places ++ length old.text ∷ [])
    → w1 ≡ writing (w0.text ++ u32_bytes s.class) w0.places → w2 ≡ writing (w1.text ++ u32_bytes s.instance) w1.places → Pushed (Ok tt) w2 w3 (joined (map oper_written s.opers))
    → ((base value outer : List ℕ) (kind : ℕ) → w3 ≡ writing (base ++ (head_bytes kind ++ value)) (outer ++ length base ∷ []) → OnOk r (new ≡ writing (base ++ tlv_bytes kind value) outer))
    → IsErrOf r faults.TooLong ↔ (65535 < length w3.text - begun) → Pushed r old new (select_written s)
select_closing s old w0 w1 w2 w3 new begun r b e0 e1 e2 h ok long =
    let t = old.text in
    let ps = old.places ++ length old.text ∷ [] in
    let f1 = grow t (head_bytes 4096) (u32_bytes s.class) ps w0 w1 e0 e1 in
    let f2 = grow t (head_bytes 4096 ++ u32_bytes s.class) (u32_bytes s.instance) ps w1 w2 f1 e2 in
    let f3 = grow t (head_bytes 4096 ++ u32_bytes s.class ++ u32_bytes s.instance) (joined (map oper_written s.opers)).text ps w2 w3 f2 h.1 in
    closing old w3 new (u32_bytes s.class ++ u32_bytes s.instance ++ (joined (map oper_written s.opers)).text) 4096 begun (joined (map oper_written s.opers)).fits r b f3 h.0 ok long

ilv_fits : (n : ℕ) → n ≤ 4294967287 → nat_lt (n + 8) 4294967296 ≡ true
ilv_fits n h = grind arith

pub ilv_closing : (ident m : ℕ) (value : List ℕ) (old w0 w1 w2 w3 : Writing) → length value ≤ 4294967287 → m ≡ length value + 8
    → w0 ≡ writing (old.text ++ u32_bytes ident) old.places → w1 ≡ writing (w0.text ++ u32_bytes m) w0.places → w2 ≡ writing (w1.text ++ value) w1.places → w3 ≡ writing (w2.text ++ padding (length value)) w2.places
    → (nat_lt (length value + 8) 4294967296 ≡ true) × (w3 ≡ writing (old.text ++ ilv_bytes ident value) old.places)
unfolding ilv_bytes
ilv_closing ident m value old w0 w1 w2 w3 small e e0 e1 e2 e3 =
    let t = old.text in
    let ps = old.places in
    let f1 = grow t (u32_bytes ident) (u32_bytes m) ps w0 w1 e0 e1 in
    let f2 = grow t (u32_bytes ident ++ u32_bytes m) value ps w1 w2 f1 e2 in
    let f3 = grow t (u32_bytes ident ++ u32_bytes m ++ value) (padding (length value)) ps w2 w3 f2 e3 in
    (ilv_fits (length value) small, f3 ∙ ap (λ n. writing (t ++ (u32_bytes ident ++ u32_bytes n ++ value ++ padding (length value))) ps) e)
