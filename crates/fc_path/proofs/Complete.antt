-- What is spelled so is read.
use Rattle.std.proofs.Common.{◌≡◌, ℕ, zero, suc, ◌+◌, ◌*◌, ◌/◌, ◌%◌, ◌<◌, ◌≤◌, ◌^◌, List, [], ◌∷◌, ◌++◌, length, drop, map, Bool, true, false, ◌==◌, ◌||◌, not, cond, nat_lt, Option, Some, None, Result, Ok, Err, refl, sym, ap, ◌∙◌, arith, length-append, append-nil}
use Rattle.std.proofs.Math.Seq.{drop-append_seam}
use Rattle.std.specs.List.{flat_map}
use Rattle.fc_wire.specs.Bytes.{u16_at, u32_at, u32_bytes}
use Rattle.fc_wire.specs.Tiling.{Tiling, tiling}
use Rattle.fc_wire.specs.Tlvs.{TlvItem, IsTlv, AreTlvs, tlvs}
use Rattle.fc_wire.specs.Ilvs.{IlvItem, AreIlvs, ilvs}
use Rattle.fc_wire.specs.declared.header.WireFault.{WireFault}
use Rattle.fc_wire.specs.declared.ilvs.Ilv.{Ilv}
use Rattle.fc_wire.proofs.ItemLaws.{tlvs_read, ilvs_read}
use Rattle.fc_path.specs.Kinds.{is_known, holds_selects}
use Rattle.fc_base.specs.Answers.{◌>>=◌}
use Rattle.fc_path.specs.Stray.{misplaced, beside, trailing, shut}
use Rattle.fc_path.specs.Reading.{each_in, some_in, single, full_at, outcome_at, own, sparse_in, sparse_at, key_at, path_or, body_in, content_in, numbers, path_at, oper_by, oper_at, select_at, end_of}
use Rattle.fc_path.specs.Grammar.{Each, IsResult, IsOwnIlv, IsKey, IsPathBy, IsBody, IsKeyed, IsValueIn, IsPath, IsOper, IsSelectOf}
use Rattle.fc_path.specs.declared.fault.PathFault.{PathFault}
use Rattle.fc_path.specs.declared.fault.PathFault.TheVariants as faults
use Rattle.fc_path.specs.declared.oper.OperKind.{OperKind}
use Rattle.fc_path.specs.declared.oper.Oper.{Oper}
use Rattle.fc_path.specs.declared.oper.Oper.TheVariants as oper
use Rattle.fc_path.specs.declared.oper.Select.{Select}
use Rattle.fc_path.specs.declared.path.Key.{Key}
use Rattle.fc_path.specs.declared.path.PathData.{PathData}
use Rattle.fc_path.specs.declared.path.Body.{Body, out-Body, roll-Body}
use Rattle.fc_path.specs.declared.path.Body.TheOpen.{Body-F}
use Rattle.fc_path.specs.declared.path.Body.TheVariants as v
use Rattle.fc_path.specs.declared.path.Body.TheViews.{roll-out-Body}
use Rattle.fc_path.proofs.Steps.{path_at_ok, skip}

abbrev pub item : ℕ → ℕ → List ℕ → List ℕ → TlvItem
item kind place body padded = record { kind = kind; place = place; body = body; padded = padded }

-- bytes that are one TLV
pub alone : (kind place : ℕ) (body padded bytes : List ℕ) → IsTlv kind body padded bytes → tlvs place bytes ≡ tiling (item kind place body padded ∷ []) None
alone kind place body padded bytes h = tlvs_read place bytes (tiling (item kind place body padded ∷ []) None) (bytes, [], sym (append-nil bytes), (refl, h), refl)

-- a view that is read, by what it is
pub by_tiling : {X : Type 0} (f : List TlvItem → Option WireFault → X) (t u : Tiling TlvItem) (x : X) → t ≡ u → f u.items u.fault ≡ x → f t.items t.fault ≡ x
by_tiling f t u x e h = ap (λ (w : Tiling TlvItem). f w.items w.fault) e ∙ h

-- what a tiling tells of an item that is read
abbrev pub Tile : {X : Type 0} → (TlvItem → Result X PathFault) → X → ℕ → List ℕ → Type 0
Tile one x place bytes = (kind : ℕ) × (body : List ℕ) × (padded : List ℕ) × IsTlv kind body padded bytes × (one (item kind place body padded) ≡ Ok x)

module _ {X : Type 0} (Is : X → List ℕ → Type 0) (one : TlvItem → Result X PathFault) (reads : (x : X) (place : ℕ) (bytes : List ℕ) → Is x bytes → Tile one x place bytes) where
  -- each of the items is a TLV that is read
  pub each_tiled : (xs : List X) (place : ℕ) (bytes : List ℕ) → Each Is xs bytes → (ts : List TlvItem) × AreTlvs place (tiling ts None) bytes × (each_in one ts None ≡ Ok xs) × (length ts ≡ length xs)
  each_tiled [] place bytes h = ([], h, refl, refl)
  each_tiled (x ∷ xs) place bytes h =
      let first = reads x place h.0 h.3 in
      let more = each_tiled xs (place + length h.0) h.1 h.4 in (
        item first.0 place first.1 first.2 ∷ more.0,
        (h.0, h.1, h.2, (refl, first.3), more.1),
        ap (λ q. q >>= λ y. each_in one more.0 None >>= λ ys. Ok (y ∷ ys)) first.4 ∙ ap (λ q. q >>= λ ys. Ok (x ∷ ys)) more.2,
        ap suc more.3,
      )

  some_tiled : (end : ℕ) (ts : List TlvItem) (xs : List X) → length ts ≡ length xs → 0 < length xs → each_in one ts None ≡ Ok xs → some_in one end ts None ≡ Ok xs
  some_tiled end [] xs l some h = absurd (omega arith)
  some_tiled end (t ∷ ts) xs l some h = h

  pub some_read : (xs : List X) (end place : ℕ) (bytes : List ℕ) → 0 < length xs → Each Is xs bytes → some_in one end (tlvs place bytes).items (tlvs place bytes).fault ≡ Ok xs
  some_read xs end place bytes some h =
      let t = each_tiled xs place bytes h in
      by_tiling (some_in one end) (tlvs place bytes) (tiling t.0 None) (Ok xs) (tlvs_read place bytes (tiling t.0 None) t.1) (some_tiled end t.0 xs t.3 some t.2)

-- ILVs that are read
own_same : (x : Ilv) (place : ℕ) → own (record { ident = x.ident; place = place; body = x.value }) ≡ x
own_same x place = refl

ilvs_tiled : (xs : List Ilv) (place : ℕ) (bytes : List ℕ) → Each IsOwnIlv xs bytes → (is : List IlvItem) × AreIlvs place (tiling is None) bytes × (map own is ≡ xs)
ilvs_tiled [] place bytes h = ([], h, refl)
ilvs_tiled (x ∷ xs) place bytes h =
    let more = ilvs_tiled xs (place + length h.0) h.1 h.4 in
    (record { ident = x.ident; place = place; body = x.value } ∷ more.0, (h.0, h.1, h.2, (refl, h.3), more.1), ap (λ l. x ∷ l) more.2)

sparse_read : (xs : List Ilv) (place : ℕ) (bytes : List ℕ) → Each IsOwnIlv xs bytes → sparse_in (ilvs place bytes).items (ilvs place bytes).fault ≡ Ok xs
sparse_read xs place bytes h =
    let t = ilvs_tiled xs place bytes h in
    ap (λ (w : Tiling IlvItem). sparse_in w.items w.fault) (ilvs_read place bytes (tiling t.0 None) t.1) ∙ ap Ok t.2

-- the code of a RESULT
outcome_read : (code place : ℕ) (free : List ℕ) → length free ≡ 3 → outcome_at (item 276 place (code ∷ free) (code ∷ free)) ≡ Ok code
outcome_read code place free three = ap (λ n. cond (suc n == 4) (Ok code) (Err (faults.WrongBody place))) three

only_outcome : (code end place : ℕ) (bytes : List ℕ) → IsResult code bytes → single 276 outcome_at end (tlvs place bytes).items (tlvs place bytes).fault ≡ Ok code
only_outcome code end place bytes h =
    let free = h.0 in
    let t = item 276 place (code ∷ free) (code ∷ free) in
    by_tiling (single 276 outcome_at end) (tlvs place bytes) (tiling (t ∷ []) None) (Ok code) (alone 276 place (code ∷ free) (code ∷ free) bytes h.2)
    (ap (λ q. q >>= λ x. shut trailing [] None >>= λ _. Ok x) (outcome_read code place free h.1))

four_back : (n : ℕ) → 2 ^ 24 * (n / 2 ^ 24) + 2 ^ 16 * (n / 2 ^ 16 % 2 ^ 8) + 2 ^ 8 * (n / 2 ^ 8 % 2 ^ 8) + n % 2 ^ 8 ≡ n
four_back n = omega arith

two_back : (n : ℕ) → 2 ^ 8 * (n / 2 ^ 8) + n % 2 ^ 8 ≡ n
two_back n = omega arith

ltb_no : (m n : ℕ) → n ≤ m → nat_lt m n ≡ false
ltb_no m n h = grind arith

-- a KEYINFO
key_read : (key : Key) (place : ℕ) (bytes : List ℕ) → IsKey key bytes → Tile key_at key place bytes
key_read key place bytes h =
    let body = h.0 in
    let padded = h.1 in
    let full = h.2 in
    let t = item 273 place body padded in
    let tlv : IsTlv 273 body padded bytes = h.4 in
    let inside : IsTlv 274 key.value h.3 full = h.6 in
    let few = tlv.few in
    let long : 4 ≤ length body = omega (arith, ap length tlv.value, length-append body tlv.padding, ap length h.5, ap length inside.spelled) in
    let ident : u32_at padded 0 ≡ key.ident = ap (λ l. u32_at l 0) h.5 ∙ four_back key.ident in
    let value : single 274 full_at (end_of t) (tlvs (place + 8) (drop 4 padded)).items (tlvs (place + 8) (drop 4 padded)).fault ≡ Ok key.value =
    by_tiling (single 274 full_at (end_of t)) (tlvs (place + 8) (drop 4 padded)) (tiling (item 274 (place + 8) key.value h.3 ∷ []) None) (Ok key.value)
    (ap (λ l. tlvs (place + 8) (drop 4 l)) h.5 ∙ alone 274 (place + 8) key.value h.3 full inside) refl in (
      273,
      body,
      padded,
      tlv,
      skip (nat_lt (length body) 4) _ _ (ltb_no (length body) 4 long)
          ∙ ap (λ q. q >>= λ x. Ok (record { ident = u32_at padded 0; value = x })) value ∙ ap (λ n. Ok (record { ident = n; value = key.value })) ident,
    )

-- the first item may begin a body
abbrev Plain : List TlvItem → Type 0
Plain [] = Unit {0}
Plain (t ∷ ts) = (is_known t.kind ≡ true) × ((t.kind == 273) ≡ false)

module _ (kind : OperKind) (V : PathData → List ℕ → Type 0) (one : TlvItem → Result PathData PathFault) (reads : (p : PathData) (t : TlvItem) → V p t.padded → one t ≡ Ok p) where
  pub path_tile : (stray : TlvItem → PathFault) (p : PathData) (place : ℕ) (bytes : List ℕ) → IsPathBy V p bytes → Tile (path_or stray one) p place bytes
  path_tile stray p place bytes h = (272, h.0, h.1, h.2, reads p (item 272 place h.0 h.1) h.3)

  layer_tiled : (l : Body-F Body PathData) (end place : ℕ) (bytes : List ℕ) → IsBody kind V l bytes
      → (ts : List TlvItem) × AreTlvs place (tiling ts None) bytes × (body_in kind one end ts None ≡ Ok (roll-Body l)) × Plain ts
  unfolding each_tiled path_tile
  layer_tiled Body-F.Nothing end place bytes h =
      ([], h.1, ap (λ b. cond b (Ok v.Nothing) (Err (faults.WrongBody end))) h.0 ∙ ap Ok (sym v.rolls-Nothing), tt)
  layer_tiled (Body-F.Full value) end place bytes h =
      let t = item 274 place value h.1 in (
        t ∷ [],
        (bytes, [], sym (append-nil bytes), (refl, h.2), refl),
        ap (λ b. cond b (Ok (v.Full value)) (Err (misplaced t)) >>= λ leaf. shut beside [] None >>= λ _. Ok leaf) h.0 ∙ ap Ok (sym (v.rolls-Full value)),
        (refl, refl),
      )
  layer_tiled (Body-F.Sparse xs) end place bytes h =
      let t = item 275 place h.1 h.2 in (
        t ∷ [],
        (bytes, [], sym (append-nil bytes), (refl, h.3), refl),
        ap (λ b. cond b (sparse_at t >>= λ ilvs. Ok (v.Sparse ilvs)) (Err (misplaced t)) >>= λ leaf. shut beside [] None >>= λ _. Ok leaf) h.0
            ∙ ap (λ q. (q >>= λ ilvs. Ok (v.Sparse ilvs)) >>= λ leaf. shut beside [] None >>= λ _. Ok leaf) (sparse_read xs (place + 4) h.2 h.4) ∙ ap Ok (sym (v.rolls-Sparse xs)),
        (refl, refl),
      )
  layer_tiled (Body-F.Outcome code) end place bytes h =
      let free = h.1.0 in
      let t = item 276 place (code ∷ free) (code ∷ free) in (
        t ∷ [],
        (bytes, [], sym (append-nil bytes), (refl, h.1.2), refl),
        ap (λ b. cond b (outcome_at t >>= λ c. Ok (v.Outcome c)) (Err (misplaced t)) >>= λ leaf. shut beside [] None >>= λ _. Ok leaf) h.0
            ∙ ap (λ q. (q >>= λ c. Ok (v.Outcome c)) >>= λ leaf. shut beside [] None >>= λ _. Ok leaf) (outcome_read code place free h.1.1) ∙ ap Ok (sym (v.rolls-Outcome code)),
        (refl, refl),
      )
  layer_tiled (Body-F.Nested []) end place bytes h = absurd (omega (arith, h.0))
  layer_tiled (Body-F.Nested (p ∷ ps)) end place bytes h =
      let all = each_tiled (IsPathBy V) (path_or beside one) (path_tile beside) (p ∷ ps) place bytes h.1 in (
        all.0,
        all.1,
        ap (λ q. q >>= λ paths. Ok (v.Nested paths)) all.2 ∙ ap Ok (sym (v.rolls-Nested (p ∷ ps))),
        (refl, refl),
      )

  content_plain : (ts : List TlvItem) (path end : ℕ) (b : Body) → Plain ts → body_in kind one end ts None ≡ Ok b → content_in kind one path false end ts None ≡ Ok (None, b)
  content_plain [] path end b plain h = ap (λ q. q >>= λ b. Ok (None, b)) h
  content_plain (t ∷ ts) path end b plain h =
      ap (λ k. cond (not k) (Err (faults.UnknownTlv t.place)) (cond (t.kind == 273) (Err (faults.KeyFlag (path + 4))) (body_in kind one end (t ∷ ts) None >>= λ b. Ok (None, b)))) plain.0
      ∙ skip (t.kind == 273) _ _ plain.1 ∙ ap (λ q. q >>= λ b. Ok (None, b)) h

  pub content_read : (key : Option Key) (b : Body) (flags path end place : ℕ) (keyed rest : List ℕ) → IsKeyed flags key keyed → IsBody kind V (out-Body b) rest
      → content_in kind one path (flags / 2 ^ 15 == 1) end (tlvs place (keyed ++ rest)).items (tlvs place (keyed ++ rest)).fault ≡ Ok (key, b)
  unfolding key_read
  content_read None b flags path end place keyed rest k h =
      let t = layer_tiled (out-Body b) end place rest h in
      ap (λ n. content_in kind one path (n == 1) end (tlvs place (keyed ++ rest)).items (tlvs place (keyed ++ rest)).fault) k.0
      ∙ ap (λ l. content_in kind one path false end (tlvs place (l ++ rest)).items (tlvs place (l ++ rest)).fault) k.1
      ∙ by_tiling (content_in kind one path false end) (tlvs place rest) (tiling t.0 None) (Ok (None, b)) (tlvs_read place rest (tiling t.0 None) t.1)
      (content_plain t.0 path end b t.3 (t.2 ∙ ap Ok (roll-out-Body b)))
  content_read (Some key) b flags path end place keyed rest k h =
      let first = key_read key place keyed k.1 in
      let t = layer_tiled (out-Body b) end (place + length keyed) rest h in
      let tile = item first.0 place first.1 first.2 in
      ap (λ n. content_in kind one path (n == 1) end (tlvs place (keyed ++ rest)).items (tlvs place (keyed ++ rest)).fault) k.0
      ∙ by_tiling (content_in kind one path true end) (tlvs place (keyed ++ rest)) (tiling (tile ∷ t.0) None) (Ok (Some key, b)) (tlvs_read place (keyed ++ rest) (tiling (tile ∷ t.0) None) (keyed, rest, refl, (refl, first.3), t.1))
      (ap (λ q. q >>= λ key. body_in kind one end t.0 None >>= λ b. Ok (Some key, b)) first.4 ∙ ap (λ q. q >>= λ b. Ok (Some key, b)) (t.2 ∙ ap Ok (roll-out-Body b)))

numbers_back : (ids tail : List ℕ) → numbers (length ids) (flat_map u32_bytes ids ++ tail) ≡ ids
numbers_back [] tail = refl
numbers_back (n ∷ ids) tail = ap (λ m. m ∷ numbers (length ids) (flat_map u32_bytes ids ++ tail)) (four_back n) ∙ ap (λ l. n ∷ l) (numbers_back ids tail)

pub ids_length : (ids : List ℕ) → length (flat_map u32_bytes ids) ≡ 4 * length ids
ids_length [] = refl
ids_length (n ∷ ids) = omega (arith, ids_length ids)

drop_front : (n : ℕ) (xs ys : List ℕ) → n ≡ length xs → drop n (xs ++ ys) ≡ ys
drop_front n xs ys e = ap (λ k. drop k (xs ++ ys)) e ∙ drop-append_seam xs ys

-- what follows the IDs
ids_after : (a b c d m : ℕ) (ids tail : List ℕ) → m ≡ 4 + 4 * length ids → drop m (a ∷ b ∷ c ∷ d ∷ (flat_map u32_bytes ids ++ tail)) ≡ tail
ids_after a b c d m ids tail e =
    let start : m ≡ suc (suc (suc (suc (4 * length ids)))) = omega arith in
    ap (λ k. drop k (a ∷ b ∷ c ∷ d ∷ (flat_map u32_bytes ids ++ tail))) start ∙ drop_front (4 * length ids) (flat_map u32_bytes ids) tail (sym (ids_length ids))

pub value_read : (kind : OperKind) (depth : ℕ) (p : PathData) (t : TlvItem) → IsValueIn kind depth p t.padded → path_at kind depth t ≡ Ok p
value_read kind zero p t h = absurd h
value_read kind (suc depth) p t h =
    let n = length p.ids in
    let s = h.spelled in
    let flags : u16_at t.padded 0 ≡ h.flags = ap (λ l. u16_at l 0) s ∙ two_back h.flags in
    let count : u16_at t.padded 2 ≡ n = ap (λ l. u16_at l 2) s ∙ two_back n in
    let tail = h.keyed ++ h.rest in
    let long : length t.padded ≡ 4 + 4 * n + length tail = omega (arith, ap length s, length-append (flat_map u32_bytes p.ids) tail, ids_length p.ids) in
    let content = content_read kind (IsValueIn kind depth) (path_at kind depth) (value_read kind depth) p.key p.body h.flags t.place (end_of t) (t.place + 8 + 4 * n) h.keyed h.rest h.key h.body in
    path_at_ok kind (suc depth) depth n t.place (end_of t) (t.place + 8 + 4 * n) (h.flags / 2 ^ 15 == 1) t tail (flat_map u32_bytes p.ids ++ tail) p.ids p.key p.body refl (omega arith) (sym count) refl
    (ap (λ f. f / 2 ^ 15 == 1) (sym flags)) refl refl (sym (ap (drop (4 + 4 * n)) s ∙ ids_after _ _ _ _ (4 + 4 * n) p.ids tail refl)) (sym (ap (drop 4) s)) content (sym (numbers_back p.ids tail))

pub path_tiled : (kind : OperKind) (depth : ℕ) (stray : TlvItem → PathFault) (p : PathData) (place : ℕ) (bytes : List ℕ) → IsPath kind depth p bytes → Tile (path_or stray (path_at kind depth)) p place bytes
path_tiled kind depth = path_tile kind (IsValueIn kind depth) (path_at kind depth) (value_read kind depth)

empty_read : (o : Oper) (place : ℕ) → cond (length {A = ℕ} [] == 0) (Ok o) (Err (faults.WrongBody place)) ≡ Ok o
empty_read o place = refl

pub oper_tiled : (message : ℕ) (o : Oper) (place : ℕ) (bytes : List ℕ) → IsOper message o bytes → Tile (oper_at message) o place bytes
oper_tiled message (oper.Paths kind paths) place bytes h =
    let t = item h.0 place h.1 h.2 in (
      h.0,
      h.1,
      h.2,
      h.4,
      ap (λ o. oper_by o t) h.3
          ∙ ap (λ q. q >>= λ ps. Ok (oper.Paths kind ps)) (some_read (IsPath kind 16) (path_or misplaced (path_at kind 16)) (path_tiled kind 16 misplaced) paths (end_of t) (place + 4) h.2 h.5 h.6),
    )
oper_tiled message oper.Commit place bytes h = (h.0, [], [], h.2, ap (λ o. oper_by o (item h.0 place [] [])) h.1)
oper_tiled message oper.Trcomp place bytes h = (h.0, [], [], h.2, ap (λ o. oper_by o (item h.0 place [] [])) h.1)
oper_tiled message (oper.CommitResponse code) place bytes h =
    let t = item h.0 place h.1 h.2 in
    (h.0, h.1, h.2, h.4, ap (λ o. oper_by o t) h.3 ∙ ap (λ q. q >>= λ c. Ok (oper.CommitResponse c)) (only_outcome code (end_of t) (place + 4) h.2 h.5))

-- operations take room
each_some : (message : ℕ) (opers : List Oper) (bytes : List ℕ) → 0 < length opers → Each (IsOper message) opers bytes → 4 ≤ length bytes
each_some message [] bytes some h = absurd (omega arith)
each_some message (o ∷ opers) bytes some h =
    let tile = oper_tiled message o 0 h.0 h.3 in
    omega (arith, ap length h.2, length-append h.0 h.1, ap length tile.3.spelled)

neither : (a b : Bool) → a ≡ true → b ≡ true → (not a || not b) ≡ false
neither true true p q = refl
neither true false p q = cc
neither false b p q = cc

-- a select, in a TLV whose padded value is longer than its value by less than four
pub select_read : (message : ℕ) (s : Select) (t : TlvItem) → length t.padded < length t.body + 4 → IsSelectOf message s t → select_at message t ≡ Ok s
select_read message s t few h =
    let rest = h.2.0 in
    let spelled = h.2.1 in
    let opers = some_read (IsOper message) (oper_at message) (oper_tiled message) s.opers (end_of t) (t.place + 12) rest h.2.2 h.2.3 in
    let some = each_some message s.opers rest h.2.2 h.2.3 in
    let long : 8 ≤ length t.body = omega (arith, ap length spelled) in
    let kind : (t.kind == 4096) ≡ true = ap (λ n. n == 4096) h.0 in
    let class : u32_at t.padded 0 ≡ s.class = ap (λ l. u32_at l 0) spelled ∙ four_back s.class in
    let instance : u32_at t.padded 4 ≡ s.instance = ap (λ l. u32_at l 4) spelled ∙ four_back s.instance in
    skip (not (t.kind == 4096) || not (holds_selects message)) _ _ (neither _ _ kind h.1) ∙ skip (nat_lt (length t.body) 8) _ _ (ltb_no (length t.body) 8 long)
    ∙ ap (λ l. some_in (oper_at message) (end_of t) (tlvs (t.place + 12) (drop 8 l)).items (tlvs (t.place + 12) (drop 8 l)).fault >>= λ opers. Ok (record { class = u32_at t.padded 0; instance = u32_at t.padded 4; opers = opers })) spelled
    ∙ ap (λ q. q >>= λ opers. Ok (record { class = u32_at t.padded 0; instance = u32_at t.padded 4; opers = opers })) opers
    ∙ ap (λ n. Ok (record { class = n; instance = u32_at t.padded 4; opers = s.opers })) class ∙ ap (λ n. Ok (record { class = s.class; instance = n; opers = s.opers })) instance
