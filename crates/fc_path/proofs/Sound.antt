-- What is read is spelled so.
use Rattle.std.proofs.Common.{◌≡◌, ℕ, zero, suc, ◌+◌, ◌*◌, ◌/◌, ◌%◌, ◌<◌, ◌≤◌, ◌^◌, List, [], ◌∷◌, ◌++◌, length, drop, map, Bool, true, false, ◌==◌, ◌&&◌, ◌||◌, not, cond, nat_lt, Option, Some, None, Result, Ok, Err, IfOk, refl, sym, ap, ◌∙◌, subst, arith, ◌⊎◌, inl, inr, ⊎_elim, slice_index, eqb-true, length-append, append-nil}
use Rattle.std.proofs.lemmas.List.{length-drop}
use borrow.Author.Tests.{ltb-false}
use Rattle.std.specs.List.{flat_map}
use Rattle.fc_wire.specs.Bytes.{u16_at, u16_bytes, u32_at, u32_bytes, AreBytes}
use Rattle.fc_wire.specs.Tiling.{IsTiling}
use Rattle.fc_wire.specs.Tlvs.{TlvItem, IsTlv, IsTlvAt, tlvs, tlv_fault}
use Rattle.fc_wire.specs.Ilvs.{IlvItem, IsIlvAt, ilvs, ilv_fault}
use Rattle.fc_wire.specs.declared.header.WireFault.{WireFault}
use Rattle.fc_wire.specs.declared.ilvs.Ilv.{Ilv}
use Rattle.fc_wire.proofs.ItemLaws.{tlvs_described, ilvs_described}
use Rattle.fc_wire.proofs.Spelled.{bytes_drop}
use Rattle.fc_path.specs.Kinds.{is_known, operation_of, holds_selects, takes_nothing, takes_full, takes_sparse, takes_outcome}
use Rattle.fc_base.specs.Answers.{◌>>=◌}
use Rattle.fc_path.specs.Stray.{Gives, misplaced, beside, trailing, shut}
use Rattle.fc_path.specs.Reading.{each_in, some_in, single, full_at, outcome_at, own, sparse_in, sparse_at, key_at, leaf_at, path_or, nested_in, body_in, content_in, numbers, path_at, operation_at, oper_by, oper_at, select_at, end_of}
use Rattle.fc_path.specs.Grammar.{Each, IsResult, IsOwnIlv, IsKey, IsPathBy, IsBody, IsKeyed, IsValue, IsValueIn, IsPath, IsOper, IsSelectOf}
use Rattle.fc_path.specs.declared.fault.PathFault.{PathFault}
use Rattle.fc_path.specs.declared.kinds.Operation.{Operation}
use Rattle.fc_path.specs.declared.kinds.Operation.TheVariants as operation
use Rattle.fc_path.specs.declared.oper.OperKind.{OperKind}
use Rattle.fc_path.specs.declared.oper.Oper.{Oper}
use Rattle.fc_path.specs.declared.oper.Oper.TheVariants as oper
use Rattle.fc_path.specs.declared.oper.Select.{Select}
use Rattle.fc_path.specs.declared.path.Key.{Key}
use Rattle.fc_path.specs.declared.path.PathData.{PathData, roll-PathData}
use Rattle.fc_path.specs.declared.path.Body.{Body, out-Body, roll-Body}
use Rattle.fc_path.specs.declared.path.Body.TheOpen.{Body-F}
use Rattle.fc_path.specs.declared.path.Body.TheVariants as v
use Rattle.fc_path.specs.declared.path.Body.TheViews.{out-roll-Body}
use Rattle.fc_path.proofs.Steps.{or_path}

pub ok_same : {A E : Type 0} (x y : A) → ◌≡◌ {A = Result A E} (Ok x) (Ok y) → x ≡ y
ok_same x y e = cc

pub never : {A E : Type 0} {P : Type 0} (d : E) (y : A) → ◌≡◌ {A = Result A E} (Err d) (Ok y) → P
never d y e = cc

pub else_ok : {A E : Type 0} (b : Bool) (d : E) (y : Result A E) (x : A) → cond b (Err d) y ≡ Ok x → (b ≡ false) × (y ≡ Ok x)
else_ok true d y x e = never d x e
else_ok false d y x e = (refl, e)

pub then_ok : {A E : Type 0} (b : Bool) (d : E) (y : Result A E) (x : A) → cond b y (Err d) ≡ Ok x → (b ≡ true) × (y ≡ Ok x)
then_ok true d y x e = (refl, e)
then_ok false d y x e = never d x e

pub chosen : {A : Type 0} (b : Bool) (x y z : A) → cond b x y ≡ z → ((b ≡ true) × (x ≡ z)) ⊎ ((b ≡ false) × (y ≡ z))
chosen true x y z e = inl (refl, e)
chosen false x y z e = inr (refl, e)

pub bind_ok : {A B : Type 0} (r : Result A PathFault) (f : A → Result B PathFault) (y : B) → (r >>= f) ≡ Ok y → (x : A) × (r ≡ Ok x) × (f x ≡ Ok y)
bind_ok (Ok x) f y e = (x, refl, e)
bind_ok (Err d) f y e = never d y e

pub both : (a b : Bool) → (a && b) ≡ true → (a ≡ true) × (b ≡ true)
both true b e = (refl, e)
both false b e = cc

pub neither : (a b : Bool) → (a || b) ≡ false → (a ≡ false) × (b ≡ false)
neither true b e = cc
neither false b e = (refl, e)

not_false : (a : Bool) → not a ≡ false → a ≡ true
not_false true e = refl
not_false false e = cc

length_zero : {A : Type 0} (xs : List A) → length xs ≡ 0 → xs ≡ []
length_zero [] h = refl
length_zero (x ∷ xs) h = absurd (omega arith)

-- bytes in bytes
bytes_front : (xs ys : List ℕ) → AreBytes (xs ++ ys) → AreBytes xs
bytes_front [] ys h = tt
bytes_front (x ∷ xs) ys h = (h.0, bytes_front xs ys h.1)

bytes_back : (xs ys : List ℕ) → AreBytes (xs ++ ys) → AreBytes ys
bytes_back [] ys h = h
bytes_back (x ∷ xs) ys h = bytes_back xs ys h.1

pub bytes_split : (bytes xs ys : List ℕ) → bytes ≡ xs ++ ys → AreBytes bytes → AreBytes xs × AreBytes ys
bytes_split bytes xs ys e h = let all = subst AreBytes e h in (bytes_front xs ys all, bytes_back xs ys all)

pub bytes_padded : (kind : ℕ) (body padded bytes : List ℕ) → IsTlv kind body padded bytes → AreBytes bytes → AreBytes padded
bytes_padded kind body padded bytes t h = let all = subst AreBytes t.spelled h in all.1.1.1.1

front_all : (bytes front rest : List ℕ) → bytes ≡ front ++ rest → rest ≡ [] → front ≡ bytes
front_all bytes front rest e r = sym (e ∙ ap (λ x. front ++ x) r ∙ append-nil front)

abbrev pub Tiles : ℕ → List TlvItem → Option WireFault → List ℕ → Type 0
Tiles place ts fault bytes = IsTiling IsTlvAt tlv_fault place ts fault bytes

-- nothing stands behind
pub shut_ok : (stray : TlvItem → PathFault) (ts : List TlvItem) (fault : Option WireFault) (place : ℕ) (bytes : List ℕ) → Tiles place ts fault bytes → shut stray ts fault ≡ Ok tt → bytes ≡ []
shut_ok stray [] None place bytes h e = h
shut_ok stray [] (Some f) place bytes h e = never _ tt e
shut_ok stray (t ∷ ts) fault place bytes h e = never _ tt e

module _ {X : Type 0} (Is : X → List ℕ → Type 0) (one : TlvItem → Result X PathFault) (spells : (t : TlvItem) (bytes : List ℕ) (x : X) → IsTlv t.kind t.body t.padded bytes → AreBytes bytes → one t ≡ Ok x → Is x bytes) where
  pub each_spelled : (ts : List TlvItem) (fault : Option WireFault) (place : ℕ) (bytes : List ℕ) (xs : List X) → AreBytes bytes → Tiles place ts fault bytes → each_in one ts fault ≡ Ok xs → Each Is xs bytes
  each_spelled [] None place bytes xs fine h e = subst (λ l. Each Is l bytes) (ok_same [] xs e) h
  each_spelled [] (Some f) place bytes xs fine h e = never _ xs e
  each_spelled (t ∷ ts) fault place bytes xs fine h e =
      let first : (x : X) × (one t ≡ Ok x) × ((each_in one ts fault >>= λ ys. Ok (x ∷ ys)) ≡ Ok xs) = bind_ok (one t) (λ x. each_in one ts fault >>= λ ys. Ok (x ∷ ys)) xs e in
      let more : (ys : List X) × (each_in one ts fault ≡ Ok ys) × (Ok (first.0 ∷ ys) ≡ Ok xs) = bind_ok (each_in one ts fault) (λ ys. Ok (first.0 ∷ ys)) xs first.2 in
      let split = bytes_split bytes h.0 h.1 h.2 fine in
      subst (λ l. Each Is l bytes) (ok_same (first.0 ∷ more.0) xs more.2)
      (h.0, h.1, h.2, spells t h.0 first.0 h.3.1 split.0 first.1, each_spelled ts fault (place + length h.0) h.1 more.0 split.1 h.4 more.1)

  each_some : (t : TlvItem) (ts : List TlvItem) (fault : Option WireFault) (xs : List X) → each_in one (t ∷ ts) fault ≡ Ok xs → 0 < length xs
  each_some t ts fault xs e =
      let first : (x : X) × (one t ≡ Ok x) × ((each_in one ts fault >>= λ ys. Ok (x ∷ ys)) ≡ Ok xs) = bind_ok (one t) (λ x. each_in one ts fault >>= λ ys. Ok (x ∷ ys)) xs e in
      let more : (ys : List X) × (each_in one ts fault ≡ Ok ys) × (Ok (first.0 ∷ ys) ≡ Ok xs) = bind_ok (each_in one ts fault) (λ ys. Ok (first.0 ∷ ys)) xs first.2 in
      omega (arith, ap length (ok_same (first.0 ∷ more.0) xs more.2))

  pub some_spelled : (end : ℕ) (ts : List TlvItem) (fault : Option WireFault) (place : ℕ) (bytes : List ℕ) (xs : List X) → AreBytes bytes → Tiles place ts fault bytes → some_in one end ts fault ≡ Ok xs
      → (0 < length xs) × Each Is xs bytes
  some_spelled end [] None place bytes xs fine h e = never _ xs e
  some_spelled end [] (Some f) place bytes xs fine h e = never _ xs e
  some_spelled end (t ∷ ts) fault place bytes xs fine h e = (each_some t ts fault xs e, each_spelled (t ∷ ts) fault place bytes xs fine h e)

-- the one TLV that stands alone
pub single_spelled : {X : Type 0} (kind : ℕ) (one : TlvItem → Result X PathFault) (end : ℕ) (ts : List TlvItem) (fault : Option WireFault) (place : ℕ) (bytes : List ℕ) (x : X)
    → Tiles place ts fault bytes → single kind one end ts fault ≡ Ok x → (t : TlvItem) × IsTlv kind t.body t.padded bytes × (one t ≡ Ok x)
single_spelled kind one end [] None place bytes x h e = never _ x e
single_spelled kind one end [] (Some f) place bytes x h e = never _ x e
single_spelled {X = X} kind one end (t ∷ ts) fault place bytes x h e =
    let is : ((t.kind == kind) ≡ true) × (_ ≡ Ok x) = then_ok _ _ _ x e in
    let found : (y : X) × (one t ≡ Ok y) × ((shut trailing ts fault >>= λ _. Ok y) ≡ Ok x) = bind_ok (one t) (λ y. shut trailing ts fault >>= λ _. Ok y) x is.1 in
    let ends : (u : Unit {0}) × (shut trailing ts fault ≡ Ok u) × (Ok found.0 ≡ Ok x) = bind_ok (shut trailing ts fault) (λ _. Ok found.0) x found.2 in
    let whole = front_all bytes h.0 h.1 h.2 (shut_ok trailing ts fault (place + length h.0) h.1 h.4 ends.1) in
    (t, subst (λ n. IsTlv n t.body t.padded bytes) (eqb-true _ _ is.0) (subst (IsTlv t.kind t.body t.padded) whole h.3.1), found.1 ∙ ap Ok (ok_same found.0 x ends.2))

-- a value of four bytes has no padding
four_spelled : (body padded front : List ℕ) (code : ℕ) → length body ≡ 4 → slice_index body 0 ≡ code → IsTlv 276 body padded front → IsResult code front
four_spelled [] padded front code four e h = absurd (omega arith)
four_spelled (x ∷ xs) padded front code four e h =
    let few = h.few in
    let whole = h.whole in
    let none : length h.padding ≡ 0 = omega (arith, ap length h.value, length-append (x ∷ xs) h.padding) in
    let same : padded ≡ x ∷ xs = h.value ∙ ap (λ l. (x ∷ xs) ++ l) (length_zero h.padding none) ∙ append-nil (x ∷ xs) in
    subst (λ n. IsResult n front) e (xs, omega arith, subst (λ q. IsTlv 276 (x ∷ xs) q front) same h)

outcome_spelled : (t : TlvItem) (bytes : List ℕ) (code : ℕ) → IsTlv 276 t.body t.padded bytes → outcome_at t ≡ Ok code → IsResult code bytes
outcome_spelled t bytes code h e =
    let four : ((length t.body == 4) ≡ true) × (Ok (slice_index t.body 0) ≡ Ok code) = then_ok _ _ _ code e in
    four_spelled t.body t.padded bytes code (eqb-true _ _ four.0) (ok_same _ code four.1) h

own_spelled : (is : List IlvItem) (place : ℕ) (bytes : List ℕ) → IsTiling IsIlvAt ilv_fault place is None bytes → Each IsOwnIlv (map own is) bytes
own_spelled [] place bytes h = h
own_spelled (i ∷ is) place bytes h = (h.0, h.1, h.2, h.3.1, own_spelled is (place + length h.0) h.1 h.4)

sparse_in_spelled : (is : List IlvItem) (fault : Option WireFault) (place : ℕ) (bytes : List ℕ) (xs : List Ilv) → IsTiling IsIlvAt ilv_fault place is fault bytes → sparse_in is fault ≡ Ok xs → Each IsOwnIlv xs bytes
sparse_in_spelled is None place bytes xs h e = subst (λ l. Each IsOwnIlv l bytes) (ok_same (map own is) xs e) (own_spelled is place bytes h)
sparse_in_spelled is (Some f) place bytes xs h e = never _ xs e

sparse_spelled : (t : TlvItem) (xs : List Ilv) → AreBytes t.padded → length t.padded % 4 ≡ 0 → sparse_at t ≡ Ok xs → Each IsOwnIlv xs t.padded
sparse_spelled t xs fine whole e =
    sparse_in_spelled (ilvs (t.place + 4) t.padded).items (ilvs (t.place + 4) t.padded).fault (t.place + 4) t.padded xs (ilvs_described (t.place + 4) t.padded fine whole) e

same4 : (p q r s a b c d : ℕ) (w : List ℕ) → p ≡ a → q ≡ b → r ≡ c → s ≡ d → ◌≡◌ {A = List ℕ} (p ∷ q ∷ r ∷ s ∷ w) (a ∷ b ∷ c ∷ d ∷ w)
same4 p q r s a b c d w e f g h = cc

-- four bytes and their number
four_cells : (a b c d : ℕ) (w : List ℕ) → AreBytes (a ∷ b ∷ c ∷ d ∷ w) → a ∷ b ∷ c ∷ d ∷ w ≡ u32_bytes (2 ^ 24 * a + 2 ^ 16 * b + 2 ^ 8 * c + d) ++ w
four_cells a b c d w fine =
    let a_byte : a < 256 = fine.0 in
    let b_byte : b < 256 = fine.1.0 in
    let c_byte : c < 256 = fine.1.1.0 in
    let d_byte : d < 256 = fine.1.1.1.0 in
    sym (same4 _ _ _ _ a b c d w (omega arith) (omega arith) (omega arith) (omega arith))

u32_front : (bytes : List ℕ) → AreBytes bytes → 4 ≤ length bytes → bytes ≡ u32_bytes (u32_at bytes 0) ++ drop 4 bytes
u32_front [] fine long = absurd (omega arith)
u32_front (a ∷ []) fine long = absurd (omega arith)
u32_front (a ∷ b ∷ []) fine long = absurd (omega arith)
u32_front (a ∷ b ∷ c ∷ []) fine long = absurd (omega arith)
u32_front (a ∷ b ∷ c ∷ d ∷ w) fine long = four_cells a b c d w fine

key_spelled : (t : TlvItem) (bytes : List ℕ) (key : Key) → IsTlv 273 t.body t.padded bytes → AreBytes bytes → key_at t ≡ Ok key → IsKey key bytes
key_spelled t bytes key h fine e =
    let some : (nat_lt (length t.body) 4 ≡ false) × (_ ≡ Ok key) = else_ok _ _ _ key e in
    let inner = drop 4 t.padded in
    let place = t.place + 8 in
    let found : (value : List ℕ) × (single 274 full_at (end_of t) (tlvs place inner).items (tlvs place inner).fault ≡ Ok value) × (Ok (record { ident = u32_at t.padded 0; value = value }) ≡ Ok key) =
    bind_ok (single 274 full_at (end_of t) (tlvs place inner).items (tlvs place inner).fault) (λ value. Ok (record { ident = u32_at t.padded 0; value = value })) key some.1 in
    let padded_bytes = bytes_padded 273 t.body t.padded bytes h fine in
    let long : 4 ≤ length t.padded = omega (arith, ltb-false _ _ some.0, ap length h.value, length-append t.body h.padding) in
    let whole = h.whole in
    let tiles = tlvs_described place inner (bytes_drop 4 t.padded padded_bytes) (omega (arith, length-drop 4 t.padded)) in
    let one = single_spelled 274 full_at (end_of t) (tlvs place inner).items (tlvs place inner).fault place inner found.0 tiles found.1 in
    let value : one.0.body ≡ found.0 = ok_same _ found.0 one.2 in
    let is : IsKey (record { ident = u32_at t.padded 0; value = found.0 }) bytes =
    (t.body, t.padded, inner, one.0.padded, h, u32_front t.padded padded_bytes long, subst (λ b. IsTlv 274 b one.0.padded inner) value one.1) in
    subst (λ k. IsKey k bytes) (ok_same _ key found.2) is

-- what stands behind the IDs
abbrev Content : OperKind → (PathData → List ℕ → Type 0) → Bool → Option Key → Body → List ℕ → Type 0
Content kind V keyed key b bytes =
    (front : List ℕ) × (rest : List ℕ) × (bytes ≡ front ++ rest) × (((keyed ≡ true) × (k : Key) × (key ≡ Some k) × IsKey k front) ⊎ ((keyed ≡ false) × (key ≡ None) × (front ≡ []))) × IsBody kind V (out-Body b) rest

module _ (kind : OperKind) (V : PathData → List ℕ → Type 0) (one : TlvItem → Result PathData PathFault)
    (value : (p : PathData) (t : TlvItem) → AreBytes t.padded → length t.padded % 4 ≡ 0 → one t ≡ Ok p → V p t.padded) where
  pub path_or_spelled : (stray : TlvItem → PathFault) (t : TlvItem) (bytes : List ℕ) (p : PathData) → IsTlv t.kind t.body t.padded bytes → AreBytes bytes → path_or stray one t ≡ Ok p → IsPathBy V p bytes
  path_or_spelled stray t bytes p h fine e =
      let is : ((t.kind == 272) ≡ true) × (one t ≡ Ok p) = then_ok _ _ _ p e in
      (t.body, t.padded, subst (λ n. IsTlv n t.body t.padded bytes) (eqb-true _ _ is.0) h, value p t (bytes_padded t.kind t.body t.padded bytes h fine) h.whole is.1)

  at_layer : (l : Body-F Body PathData) (y : Body) (bytes : List ℕ) → roll-Body l ≡ y → IsBody kind V l bytes → IsBody kind V (out-Body y) bytes
  at_layer l y bytes e h = subst (λ x. IsBody kind V (out-Body x) bytes) e (subst (λ m. IsBody kind V m bytes) (sym (out-roll-Body l)) h)

  leaf_spelled : (t : TlvItem) (bytes : List ℕ) (y : Body) → IsTlv t.kind t.body t.padded bytes → AreBytes bytes → leaf_at kind t ≡ Ok y → IsBody kind V (out-Body y) bytes
  leaf_spelled t bytes y h fine e =
      ⊎_elim (λ full.
      let b = both (t.kind == 274) (takes_full kind) full.0 in
      at_layer (Body-F.Full t.body) y bytes (v.rolls-Full t.body ∙ ok_same _ y full.1) (b.1, t.padded, subst (λ n. IsTlv n t.body t.padded bytes) (eqb-true _ _ b.0) h))
      (λ other. ⊎_elim (λ sparse.
      let b = both (t.kind == 275) (takes_sparse kind) sparse.0 in
      let found : (xs : List Ilv) × (sparse_at t ≡ Ok xs) × (Ok (v.Sparse xs) ≡ Ok y) = bind_ok (sparse_at t) (λ xs. Ok (v.Sparse xs)) y sparse.1 in
      at_layer (Body-F.Sparse found.0) y bytes (v.rolls-Sparse found.0 ∙ ok_same _ y found.2)
      (b.1, t.body, t.padded, subst (λ n. IsTlv n t.body t.padded bytes) (eqb-true _ _ b.0) h, sparse_spelled t found.0 (bytes_padded t.kind t.body t.padded bytes h fine) h.whole found.1))
      (λ last.
      let outcome : ((t.kind == 276 && takes_outcome kind) ≡ true) × (_ ≡ Ok y) = then_ok _ _ _ y last.1 in
      let b = both (t.kind == 276) (takes_outcome kind) outcome.0 in
      let found : (code : ℕ) × (outcome_at t ≡ Ok code) × (Ok (v.Outcome code) ≡ Ok y) = bind_ok (outcome_at t) (λ code. Ok (v.Outcome code)) y outcome.1 in
      at_layer (Body-F.Outcome found.0) y bytes (v.rolls-Outcome found.0 ∙ ok_same _ y found.2) (b.1, outcome_spelled t bytes found.0 (subst (λ n. IsTlv n t.body t.padded bytes) (eqb-true _ _ b.0) h) found.1))
      (chosen (t.kind == 275 && takes_sparse kind) _ _ _ other.1))
      (chosen (t.kind == 274 && takes_full kind) _ _ _ e)

  pub body_spelled : (end : ℕ) (ts : List TlvItem) (fault : Option WireFault) (place : ℕ) (bytes : List ℕ) (y : Body) → AreBytes bytes → Tiles place ts fault bytes → body_in kind one end ts fault ≡ Ok y → IsBody kind V (out-Body y) bytes
  body_spelled end [] None place bytes y fine h e =
      let none : (takes_nothing kind ≡ true) × (Ok v.Nothing ≡ Ok y) = then_ok _ _ _ y e in
      at_layer Body-F.Nothing y bytes (v.rolls-Nothing ∙ ok_same _ y none.1) (none.0, h)
  body_spelled end [] (Some f) place bytes y fine h e = never _ y e
  body_spelled end (t ∷ ts) fault place bytes y fine h e =
      ⊎_elim (λ nested.
      let found : (ps : List PathData) × (nested_in one t ts fault ≡ Ok ps) × (Ok (v.Nested ps) ≡ Ok y) = bind_ok (nested_in one t ts fault) (λ ps. Ok (v.Nested ps)) y nested.1 in
      let all : each_in (path_or beside one) (t ∷ ts) fault ≡ Ok found.0 =
      ap (λ q. q >>= λ x. each_in (path_or beside one) ts fault >>= λ xs. Ok (x ∷ xs)) (or_path beside one t (eqb-true _ _ nested.0)) ∙ found.1 in
      let some = some_spelled (IsPathBy V) (path_or beside one) (path_or_spelled beside) end (t ∷ ts) fault place bytes found.0 fine h all in
      at_layer (Body-F.Nested found.0) y bytes (v.rolls-Nested found.0 ∙ ok_same _ y found.2) (some.0, some.1))
      (λ other.
      let leaf : (l : Body) × (leaf_at kind t ≡ Ok l) × ((shut beside ts fault >>= λ _. Ok l) ≡ Ok y) = bind_ok (leaf_at kind t) (λ l. shut beside ts fault >>= λ _. Ok l) y other.1 in
      let ends : (u : Unit {0}) × (shut beside ts fault ≡ Ok u) × (Ok leaf.0 ≡ Ok y) = bind_ok (shut beside ts fault) (λ _. Ok leaf.0) y leaf.2 in
      let whole = front_all bytes h.0 h.1 h.2 (shut_ok beside ts fault (place + length h.0) h.1 h.4 ends.1) in
      leaf_spelled t bytes y (subst (IsTlv t.kind t.body t.padded) whole h.3.1) fine (leaf.1 ∙ ap Ok (ok_same leaf.0 y ends.2)))
      (chosen (t.kind == 272) _ _ _ e)

  unkeyed : (end : ℕ) (ts : List TlvItem) (fault : Option WireFault) (place : ℕ) (keyed : Bool) (bytes : List ℕ) (x : Option Key × Body) → keyed ≡ false → AreBytes bytes → Tiles place ts fault bytes
      → (body_in kind one end ts fault >>= λ b. Ok (None, b)) ≡ Ok x → Content kind V keyed x.0 x.1 bytes
  unkeyed end ts fault place keyed bytes x k fine h e =
      let found : (b : Body) × (body_in kind one end ts fault ≡ Ok b) × (Ok (None, b) ≡ Ok x) = bind_ok (body_in kind one end ts fault) (λ b. Ok (None, b)) x e in
      subst (λ (q : Option Key × Body). Content kind V keyed q.0 q.1 bytes) (ok_same (None, found.0) x found.2) ([], bytes, refl, inr (k, refl, refl), body_spelled end ts fault place bytes found.0 fine h found.1)

  pub content_spelled : (path end : ℕ) (keyed : Bool) (ts : List TlvItem) (fault : Option WireFault) (place : ℕ) (bytes : List ℕ) (x : Option Key × Body) → AreBytes bytes → Tiles place ts fault bytes
      → content_in kind one path keyed end ts fault ≡ Ok x → Content kind V keyed x.0 x.1 bytes
  content_spelled path end keyed [] None place bytes x fine h e =
      let no : (keyed ≡ false) × (_ ≡ Ok x) = else_ok _ _ _ x e in
      unkeyed end [] None place keyed bytes x no.0 fine h no.1
  content_spelled path end keyed [] (Some f) place bytes x fine h e = never _ x e
  content_spelled path end keyed (t ∷ ts) fault place bytes x fine h e =
      let known : (not (is_known t.kind) ≡ false) × (_ ≡ Ok x) = else_ok _ _ _ x e in
      ⊎_elim (λ yes.
      let is : ((t.kind == 273) ≡ true) × (_ ≡ Ok x) = then_ok _ _ _ x yes.1 in
      let key : (k : Key) × (key_at t ≡ Ok k) × ((body_in kind one end ts fault >>= λ b. Ok (Some k, b)) ≡ Ok x) = bind_ok (key_at t) (λ k. body_in kind one end ts fault >>= λ b. Ok (Some k, b)) x is.1 in
      let found : (b : Body) × (body_in kind one end ts fault ≡ Ok b) × (Ok (Some key.0, b) ≡ Ok x) = bind_ok (body_in kind one end ts fault) (λ b. Ok (Some key.0, b)) x key.2 in
      let split = bytes_split bytes h.0 h.1 h.2 fine in
      subst (λ (q : Option Key × Body). Content kind V keyed q.0 q.1 bytes) (ok_same (Some key.0, found.0) x found.2)
      (h.0, h.1, h.2, inl (yes.0, key.0, refl, key_spelled t h.0 key.0 (subst (λ n. IsTlv n t.body t.padded h.0) (eqb-true _ _ is.0) h.3.1) split.0 key.1), body_spelled end ts fault (place + length h.0) h.1 found.0 split.1 h.4 found.1))
      (λ no.
      let other : ((t.kind == 273) ≡ false) × (_ ≡ Ok x) = else_ok _ _ _ x no.1 in
      unkeyed end (t ∷ ts) fault place keyed bytes x no.0 fine h other.1)
      (chosen keyed _ _ _ known.1)

clear : (flags : ℕ) → flags < 2 ^ 16 → (flags / 2 ^ 15 == 1) ≡ false → flags / 2 ^ 15 ≡ 0
clear flags small h = grind arith

-- the key flag
keyed_flags : (flags : ℕ) (key : Option Key) (front : List ℕ) → flags < 2 ^ 16 → (((flags / 2 ^ 15 == 1) ≡ true) × (k : Key) × (key ≡ Some k) × IsKey k front) ⊎ (((flags / 2 ^ 15 == 1) ≡ false) × (key ≡ None) × (front ≡ [])) → IsKeyed flags key front
keyed_flags flags key front small (inl h) = subst (λ k. IsKeyed flags k front) (sym h.2) (eqb-true _ _ h.0, h.3)
keyed_flags flags key front small (inr h) = subst (λ k. IsKeyed flags k front) (sym h.1) (clear flags small h.0, h.2)

pub numbers_length : (n : ℕ) (w : List ℕ) → length (numbers n w) ≡ n
numbers_length zero w = refl
numbers_length (suc n) w = ap suc (numbers_length n (drop 4 w))

drop_four : (n : ℕ) (a b c d : ℕ) (w : List ℕ) → drop (4 * suc n) (a ∷ b ∷ c ∷ d ∷ w) ≡ drop (4 * n) w
drop_four n a b c d w = let up : 4 * suc n ≡ suc (suc (suc (suc (4 * n)))) = omega arith in ap (λ k. drop k (a ∷ b ∷ c ∷ d ∷ w)) up

ids_spelled : (n : ℕ) (w : List ℕ) → AreBytes w → 4 * n ≤ length w → w ≡ flat_map u32_bytes (numbers n w) ++ drop (4 * n) w
ids_spelled zero w fine long = refl
ids_spelled (suc n) [] fine long = absurd (omega arith)
ids_spelled (suc n) (a ∷ []) fine long = absurd (omega arith)
ids_spelled (suc n) (a ∷ b ∷ []) fine long = absurd (omega arith)
ids_spelled (suc n) (a ∷ b ∷ c ∷ []) fine long = absurd (omega arith)
ids_spelled (suc n) (a ∷ b ∷ c ∷ d ∷ w) fine long =
    four_cells a b c d w fine
    ∙ ap (λ l. u32_bytes (2 ^ 24 * a + 2 ^ 16 * b + 2 ^ 8 * c + d) ++ l) (ids_spelled n w fine.1.1.1.1 (omega arith))
    ∙ ap (λ l. u32_bytes (2 ^ 24 * a + 2 ^ 16 * b + 2 ^ 8 * c + d) ++ (flat_map u32_bytes (numbers n w) ++ l)) (sym (drop_four n a b c d w))

head_spelled : (kind : OperKind) (V : PathData → List ℕ → Type 0) (n : ℕ) (padded : List ℕ) (key : Option Key) (b : Body) → AreBytes padded → u16_at padded 2 ≡ n → 4 + 4 * n ≤ length padded
    → Content kind V (u16_at padded 0 / 2 ^ 15 == 1) key b (drop (4 + 4 * n) padded) → IsValue kind V (roll-PathData (record { ids = numbers n (drop 4 padded); key = key; body = b })) padded
head_spelled kind V n [] key b fine k long h = absurd (omega arith)
head_spelled kind V n (p ∷ []) key b fine k long h = absurd (omega arith)
head_spelled kind V n (p ∷ q ∷ []) key b fine k long h = absurd (omega arith)
head_spelled kind V n (p ∷ q ∷ r ∷ []) key b fine k long h = absurd (omega arith)
head_spelled kind V n (p ∷ q ∷ r ∷ s ∷ w) key b fine k long h =
    let p_byte : p < 256 = fine.0 in
    let q_byte : q < 256 = fine.1.0 in
    let r_byte : r < 256 = fine.1.1.0 in
    let s_byte : s < 256 = fine.1.1.1.0 in
    let count : 2 ^ 8 * r + s ≡ n = k in
    let len = numbers_length n w in
    let up : 4 + 4 * n ≡ suc (suc (suc (suc (4 * n)))) = omega arith in
    let behind : drop (4 + 4 * n) (p ∷ q ∷ r ∷ s ∷ w) ≡ drop (4 * n) w = ap (λ m. drop m (p ∷ q ∷ r ∷ s ∷ w)) up in
    let ids = ids_spelled n w fine.1.1.1.1 (omega arith) in
    record {
      flags = 2 ^ 8 * p + q;
      keyed = h.0;
      rest = h.1;
      few = omega arith;
      key = keyed_flags (2 ^ 8 * p + q) key h.0 (omega arith) h.3;
      body = h.4;
      spelled = same4 p q r s _ _ _ _ w (omega arith) (omega arith) (omega arith) (omega arith)
          ∙ ap (λ l. u16_bytes (2 ^ 8 * p + q) ++ u16_bytes (length (numbers n w)) ++ l) (ids ∙ ap (λ l. flat_map u32_bytes (numbers n w) ++ l) (sym behind ∙ h.2));
    }

pub value_spelled : (kind : OperKind) (depth : ℕ) (p : PathData) (t : TlvItem) → AreBytes t.padded → length t.padded % 4 ≡ 0 → path_at kind depth t ≡ Ok p → IsValueIn kind depth p t.padded
value_spelled kind zero p t fine whole e = never _ p e
value_spelled kind (suc depth) p t fine whole e =
    let n = u16_at t.padded 2 in
    let keyed = u16_at t.padded 0 / 2 ^ 15 == 1 in
    let there : ((nat_lt (length t.padded) 4 || nat_lt (length t.padded) (4 + 4 * n)) ≡ false) × (_ ≡ Ok p) = else_ok _ _ _ p e in
    let long : 4 + 4 * n ≤ length t.padded = ltb-false _ _ (neither (nat_lt (length t.padded) 4) _ there.0).1 in
    let place = t.place + 8 + 4 * n in
    let tail = drop (4 + 4 * n) t.padded in
    let make = λ (x : Option Key × Body). Ok (roll-PathData (record { ids = numbers n (drop 4 t.padded); key = x.0; body = x.1 })) in
    let one = path_at kind depth in
    let found : (x : Option Key × Body) × (content_in kind one t.place keyed (end_of t) (tlvs place tail).items (tlvs place tail).fault ≡ Ok x) × (make x ≡ Ok p) =
    bind_ok (content_in kind one t.place keyed (end_of t) (tlvs place tail).items (tlvs place tail).fault) make p there.1 in
    let whole_tail : length tail % 4 ≡ 0 = omega (arith, length-drop (4 + 4 * n) t.padded) in
    let tail_bytes = bytes_drop (4 + 4 * n) t.padded fine in
    let content = content_spelled kind (IsValueIn kind depth) one (value_spelled kind depth) t.place (end_of t) keyed (tlvs place tail).items (tlvs place tail).fault place tail found.0 tail_bytes (tlvs_described place tail tail_bytes whole_tail) found.1 in
    subst (λ q. IsValue kind (IsValueIn kind depth) q t.padded) (ok_same _ p found.2) (head_spelled kind (IsValueIn kind depth) n t.padded found.0.0 found.0.1 fine refl long content)

pub path_spelled : (kind : OperKind) (depth : ℕ) (stray : TlvItem → PathFault) (t : TlvItem) (bytes : List ℕ) (p : PathData) → IsTlv t.kind t.body t.padded bytes → AreBytes bytes → path_or stray (path_at kind depth) t ≡ Ok p → IsPath kind depth p bytes
path_spelled kind depth = path_or_spelled kind (IsValueIn kind depth) (path_at kind depth) (value_spelled kind depth)

empty_spelled : (kind : ℕ) (body padded bytes : List ℕ) → length body ≡ 0 → IsTlv kind body padded bytes → IsTlv kind [] [] bytes
empty_spelled kind body padded bytes none h =
    let few = h.few in
    let whole = h.whole in
    let gone : length padded ≡ 0 = omega (arith, ap length h.value, length-append body h.padding) in
    subst (λ l. IsTlv kind [] l bytes) (length_zero padded gone) (subst (λ l. IsTlv kind l padded bytes) (length_zero body none) h)

operation_spelled : (message : ℕ) (which : Operation) (t : TlvItem) (bytes : List ℕ) (o : Oper) → operation_of message t.kind ≡ Some which → IsTlv t.kind t.body t.padded bytes → AreBytes bytes → operation_at which t ≡ Ok o → IsOper message o bytes
operation_spelled message (operation.Paths kind) t bytes o w h fine e =
    let place = t.place + 4 in
    let padded = t.padded in
    let padded_bytes = bytes_padded t.kind t.body padded bytes h fine in
    let one = path_or misplaced (path_at kind 16) in
    let found : (ps : List PathData) × (some_in one (end_of t) (tlvs place padded).items (tlvs place padded).fault ≡ Ok ps) × (Ok (oper.Paths kind ps) ≡ Ok o) =
    bind_ok (some_in one (end_of t) (tlvs place padded).items (tlvs place padded).fault) (λ ps. Ok (oper.Paths kind ps)) o e in
    let some = some_spelled (IsPath kind 16) one (path_spelled kind 16 misplaced) (end_of t) (tlvs place padded).items (tlvs place padded).fault place padded found.0 padded_bytes (tlvs_described place padded padded_bytes h.whole) found.1 in
    subst (λ x. IsOper message x bytes) (ok_same _ o found.2) (t.kind, t.body, padded, w, h, some.0, some.1)
operation_spelled message operation.Commit t bytes o w h fine e =
    let none : ((length t.body == 0) ≡ true) × (Ok oper.Commit ≡ Ok o) = then_ok _ _ _ o e in
    subst (λ x. IsOper message x bytes) (ok_same _ o none.1) (t.kind, w, empty_spelled t.kind t.body t.padded bytes (eqb-true _ _ none.0) h)
operation_spelled message operation.Trcomp t bytes o w h fine e =
    let none : ((length t.body == 0) ≡ true) × (Ok oper.Trcomp ≡ Ok o) = then_ok _ _ _ o e in
    subst (λ x. IsOper message x bytes) (ok_same _ o none.1) (t.kind, w, empty_spelled t.kind t.body t.padded bytes (eqb-true _ _ none.0) h)
operation_spelled message operation.CommitResponse t bytes o w h fine e =
    let place = t.place + 4 in
    let padded = t.padded in
    let found : (code : ℕ) × (single 276 outcome_at (end_of t) (tlvs place padded).items (tlvs place padded).fault ≡ Ok code) × (Ok (oper.CommitResponse code) ≡ Ok o) =
    bind_ok (single 276 outcome_at (end_of t) (tlvs place padded).items (tlvs place padded).fault) (λ code. Ok (oper.CommitResponse code)) o e in
    let tiles = tlvs_described place padded (bytes_padded t.kind t.body padded bytes h fine) h.whole in
    let one = single_spelled 276 outcome_at (end_of t) (tlvs place padded).items (tlvs place padded).fault place padded found.0 tiles found.1 in
    subst (λ x. IsOper message x bytes) (ok_same _ o found.2) (t.kind, t.body, padded, w, h, outcome_spelled one.0 padded found.0 one.1 one.2)

oper_by_spelled : (message : ℕ) (which : Option Operation) (t : TlvItem) (bytes : List ℕ) (o : Oper) → operation_of message t.kind ≡ which → IsTlv t.kind t.body t.padded bytes → AreBytes bytes → oper_by which t ≡ Ok o → IsOper message o bytes
oper_by_spelled message None t bytes o w h fine e = never _ o e
oper_by_spelled message (Some which) t bytes o w h fine e = operation_spelled message which t bytes o w h fine e

oper_spelled : (message : ℕ) (t : TlvItem) (bytes : List ℕ) (o : Oper) → IsTlv t.kind t.body t.padded bytes → AreBytes bytes → oper_at message t ≡ Ok o → IsOper message o bytes
oper_spelled message t bytes o h fine e = oper_by_spelled message (operation_of message t.kind) t bytes o refl h fine e

u32_second : (bytes : List ℕ) → AreBytes bytes → 8 ≤ length bytes → bytes ≡ u32_bytes (u32_at bytes 0) ++ u32_bytes (u32_at bytes 4) ++ drop 8 bytes
u32_second [] fine long = absurd (omega arith)
u32_second (a ∷ []) fine long = absurd (omega arith)
u32_second (a ∷ b ∷ []) fine long = absurd (omega arith)
u32_second (a ∷ b ∷ c ∷ []) fine long = absurd (omega arith)
u32_second (a ∷ b ∷ c ∷ d ∷ w) fine long = four_cells a b c d w fine ∙ ap (λ l. u32_bytes (2 ^ 24 * a + 2 ^ 16 * b + 2 ^ 8 * c + d) ++ l) (u32_front w fine.1.1.1.1 (omega arith))

-- a select
pub select_spelled : (message : ℕ) (s : Select) (t : TlvItem) → AreBytes t.padded → length t.padded % 4 ≡ 0 → length t.body ≤ length t.padded → select_at message t ≡ Ok s → IsSelectOf message s t
select_spelled message s t fine whole cut e =
    let may : ((not (t.kind == 4096) || not (holds_selects message)) ≡ false) × (_ ≡ Ok s) = else_ok _ _ _ s e in
    let yes : (not (t.kind == 4096) ≡ false) × (not (holds_selects message) ≡ false) = neither _ _ may.0 in
    let room : (nat_lt (length t.body) 8 ≡ false) × (_ ≡ Ok s) = else_ok _ _ _ s may.1 in
    let long : 8 ≤ length t.padded = omega (arith, ltb-false _ _ room.0) in
    let place = t.place + 12 in
    let inner = drop 8 t.padded in
    let make = λ (opers : List Oper). Ok (record { class = u32_at t.padded 0; instance = u32_at t.padded 4; opers = opers }) in
    let found : (opers : List Oper) × (some_in (oper_at message) (end_of t) (tlvs place inner).items (tlvs place inner).fault ≡ Ok opers) × (make opers ≡ Ok s) =
    bind_ok (some_in (oper_at message) (end_of t) (tlvs place inner).items (tlvs place inner).fault) make s room.1 in
    let inner_bytes = bytes_drop 8 t.padded fine in
    let some = some_spelled (IsOper message) (oper_at message) (oper_spelled message) (end_of t) (tlvs place inner).items (tlvs place inner).fault place inner found.0 inner_bytes
    (tlvs_described place inner inner_bytes (omega (arith, length-drop 8 t.padded))) found.1 in
    subst (λ x. IsSelectOf message x t) (ok_same _ s found.2) (eqb-true _ _ (not_false _ yes.0), not_false _ yes.1, (inner, u32_second t.padded fine long, some.0, some.1))

pub found_of : (message : ℕ) (r : Result Select PathFault) (t : TlvItem) → AreBytes t.padded → length t.padded % 4 ≡ 0 → length t.body ≤ length t.padded → Gives r (select_at message t) → IfOk r (λ s. IsSelectOf message s t)
found_of message (Ok s) t fine whole cut h = select_spelled message s t fine whole cut h
found_of message (Err e) t fine whole cut h = tt
