-- The places of the tests of a select never fall.
use Rattle.std.proofs.Common.{◌≡◌, ℕ, zero, suc, ◌+◌, ◌-◌, ◌*◌, ◌/◌, ◌%◌, ◌^◌, ◌≤◌, List, [], ◌∷◌, ◌++◌, length, drop, Bool, true, false, ◌==◌, cond, nat_lt, Option, Some, None, refl, sym, ap, ◌∙◌, subst, arith, inl, inr, length-append}
use Rattle.std.proofs.lemmas.Bool.{cases_lt}
use Rattle.std.proofs.lemmas.List.{length-drop}
use Rattle.fc_wire.specs.Bytes.{u16_at, AreBytes}
use Rattle.fc_wire.specs.Tiling.{Tiling, IsTiling, tiling}
use Rattle.fc_wire.specs.Tlvs.{TlvItem, IsTlvAt, Lent, tlvs, tlv_fault, one_tlv}
use Rattle.fc_wire.specs.Ilvs.{IlvItem, IsIlvAt, ilvs, ilv_fault}
use Rattle.fc_wire.specs.declared.header.WireFault.{WireFault}
use Rattle.fc_wire.specs.declared.header.WireFault.TheVariants as wire
use Rattle.fc_wire.proofs.ItemLaws.{tlvs_described, ilvs_described}
use Rattle.fc_wire.proofs.Spelled.{bytes_drop}
use Rattle.fc_wire.proofs.Stepping.{tiles_end}
use Rattle.fc_path.specs.Kinds.{operation_of}
use Rattle.fc_path.specs.Reading.{end_of}
use Rattle.fc_path.specs.Visits as visits
use Rattle.fc_path.specs.Visits.{Visit, visit, AreRising, Slot, stands, behind, ends, place_of, walk_in, ilv_walk_in, nothing, key_visits, sparse_visits, outcome_visits, data_visits, path_visits, operation_visits, oper_visits_by, oper_visits, select_visits}
use Rattle.fc_path.specs.declared.kinds.Operation.{Operation}
use Rattle.fc_path.specs.declared.kinds.Operation.TheVariants as operation
use Rattle.fc_path.specs.declared.oper.OperKind.{OperKind}
use Rattle.fc_path.proofs.Sound.{bytes_split}

-- the places never fall, and stand between two
abbrev Within : ℕ → ℕ → List Visit → Type 0
Within low high [] = low ≤ high
Within low high (v ∷ vs) = (low ≤ v.place) × Within v.place high vs

lower : (low from high : ℕ) (vs : List Visit) → low ≤ from → Within from high vs → Within low high vs
lower low from high [] less h = omega arith
lower low from high (v ∷ vs) less h = let first = h.0 in (omega arith, h.1)

joins : (low mid high : ℕ) (xs ys : List Visit) → Within low mid xs → Within mid high ys → Within low high (xs ++ ys)
joins low mid high [] ys h k = lower low mid high ys h k
joins low mid high (x ∷ xs) ys h k = (h.0, joins x.place mid high xs ys h.1 k)

rising : (low high : ℕ) (vs : List Visit) → Within low high vs → AreRising low vs
rising low high [] h = tt
rising low high (v ∷ vs) h = (h.0, rising v.place high vs h.1)

chosen : (low high : ℕ) (b : Bool) (xs ys : List Visit) → Within low high xs → Within low high ys → Within low high (cond b xs ys)
chosen low high true xs ys h k = h
chosen low high false xs ys h k = k

-- the place of a fault of items
some_same : (x y : WireFault) → Some x ≡ Some y → x ≡ y
some_same x y e = cc

placed : (a b c : Bool) (place : ℕ) (f : WireFault) → cond a (Some (wire.TlvShort place)) (cond b (Some (wire.TlvShort place)) (cond c (Some (wire.TlvPast place)) None)) ≡ Some f → place ≡ place_of f
placed true b c place f e = ap place_of (some_same (wire.TlvShort place) f e)
placed false true c place f e = ap place_of (some_same (wire.TlvShort place) f e)
placed false false true place f e = ap place_of (some_same (wire.TlvPast place) f e)
placed false false false place f e = cc

tlv_placed : (place : ℕ) (bytes : List ℕ) (f : WireFault) → tlv_fault place bytes ≡ Some f → place ≡ place_of f
tlv_placed place bytes f e = placed (nat_lt (length bytes) 4) _ _ place f e

ilv_placed : (place : ℕ) (bytes : List ℕ) (f : WireFault) → ilv_fault place bytes ≡ Some f → place ≡ place_of f
ilv_placed place bytes f e = placed (nat_lt (length bytes) 8) _ _ place f e

none_left : (xs : List ℕ) → length xs ≡ 0 → xs ≡ []
none_left [] h = refl
none_left (x ∷ xs) h = absurd (omega arith)

-- the tests of what a TLV of whole bytes holds stand between it and its end
abbrev Inside : (TlvItem → List Visit) → Type 0
Inside held = (t : TlvItem) → AreBytes t.padded → length t.padded % 4 ≡ 0 → Within t.place (end_of t) (held t)

module _ (held : TlvItem → List Visit) (inside : Inside held) where
  walk_within : (slot : Slot) (place end : ℕ) (bytes : List ℕ) (ts : List TlvItem) (fault : Option WireFault) → AreBytes bytes → IsTiling IsTlvAt tlv_fault place ts fault bytes → end ≡ place + length bytes
      → Within place end (walk_in held slot end ts fault)
  walk_within slot place end bytes [] None fine h e = let high : place ≤ end = omega arith in let same : end ≤ end = omega arith in (high, same)
  walk_within slot place end bytes [] (Some f) fine h e =
      let is = tlv_placed place bytes f h.1 in
      let low : place ≤ place_of f = omega arith in
      let high : place_of f ≤ end = omega arith in
      (low, high)
  walk_within slot place end bytes (t ∷ ts) fault fine h e =
      let split = bytes_split bytes h.0 h.1 h.2 fine in
      let padded = (subst AreBytes h.3.1.spelled split.0).1.1.1.1 in
      let at = h.3.0 in
      let size : length h.0 ≡ 4 + length t.padded = omega (arith, ap length h.3.1.spelled) in
      let all : length bytes ≡ length h.0 + length h.1 = ap length h.2 ∙ length-append h.0 h.1 in
      let more = walk_within (behind slot t) (place + length h.0) end h.1 ts fault split.1 h.4 (omega arith) in
      let first : place ≤ t.place = omega arith in
      (first, joins t.place (end_of t) end (held t) (walk_in held (behind slot t) end ts fault) (inside t padded h.3.1.whole) (lower (end_of t) (place + length h.0) end (walk_in held (behind slot t) end ts fault) (omega arith) more))

  -- those of what stands in a TLV behind so many bytes of it
  holder : (slot : Slot) (t : TlvItem) (n place : ℕ) → AreBytes t.padded → length t.padded % 4 ≡ 0 → n % 4 ≡ 0 → place ≡ t.place + (4 + n)
      → Within t.place (end_of t) (walk_in held slot (end_of t) (tlvs place (drop n t.padded)).items (tlvs place (drop n t.padded)).fault)
  holder slot t n place fine whole even e =
      let inner = drop n t.padded in
      let size : length inner ≡ length t.padded - n = length-drop n t.padded in
      elim (cases_lt (length t.padded) n) [
        | inl less ↦
            let gone : inner ≡ [] = none_left inner (omega arith) in
            let view : tlvs place inner ≡ tiling [] None = ap (tlvs place) gone ∙ tiles_end one_tlv place in
            let low : t.place ≤ end_of t = omega arith in
            let same : end_of t ≤ end_of t = omega arith in
            subst (λ (w : Tiling TlvItem). Within t.place (end_of t) (walk_in held slot (end_of t) w.items w.fault)) (sym view) (low, same)
        | inr more ↦
            let inner_bytes = bytes_drop n t.padded fine in
            lower t.place place (end_of t) (walk_in held slot (end_of t) (tlvs place inner).items (tlvs place inner).fault) (omega arith)
            (walk_within slot place (end_of t) inner (tlvs place inner).items (tlvs place inner).fault inner_bytes (tlvs_described place inner inner_bytes (omega arith)) (omega arith))
      ]

  -- and of what its whole value is
  whole_holder : (slot : Slot) (t : TlvItem) → AreBytes t.padded → length t.padded % 4 ≡ 0
      → Within t.place (end_of t) (walk_in held slot (end_of t) (tlvs (t.place + 4) t.padded).items (tlvs (t.place + 4) t.padded).fault)
  whole_holder slot t fine whole =
      lower t.place (t.place + 4) (end_of t) (walk_in held slot (end_of t) (tlvs (t.place + 4) t.padded).items (tlvs (t.place + 4) t.padded).fault) (omega arith)
      (walk_within slot (t.place + 4) (end_of t) t.padded (tlvs (t.place + 4) t.padded).items (tlvs (t.place + 4) t.padded).fault fine (tlvs_described (t.place + 4) t.padded fine whole) (omega arith))

ilvs_within : (place end : ℕ) (bytes : List ℕ) (is : List IlvItem) (fault : Option WireFault) → IsTiling IsIlvAt ilv_fault place is fault bytes → end ≡ place + length bytes → Within place end (ilv_walk_in end is fault)
ilvs_within place end bytes [] None h e = let high : place ≤ end = omega arith in let same : end ≤ end = omega arith in (high, same)
ilvs_within place end bytes [] (Some f) h e =
    let is = ilv_placed place bytes f h.1 in
    let low : place ≤ place_of f = omega arith in
    let high : place_of f ≤ end = omega arith in
    (low, high)
ilvs_within place end bytes (i ∷ is) fault h e =
    let at = h.3.0 in
    let all : length bytes ≡ length h.0 + length h.1 = ap length h.2 ∙ length-append h.0 h.1 in
    let first : place ≤ i.place = omega arith in
    (first, lower i.place (place + length h.0) end (ilv_walk_in end is fault) (omega arith) (ilvs_within (place + length h.0) end h.1 is fault h.4 (omega arith)))

-- one test, and nothing
same : (n : ℕ) → n ≤ n
same n = omega arith

one_within : (t : TlvItem) → (t.place ≤ t.place) × (t.place ≤ end_of t)
one_within t = let high : t.place ≤ end_of t = omega arith in (same t.place, high)

nothing_within : Inside nothing
nothing_within t fine whole = omega arith

outcome_within : Inside outcome_visits
outcome_within t fine whole = one_within t

key_within : Inside key_visits
key_within t fine whole = (same t.place, holder nothing nothing_within (visits.only 274) t 4 (t.place + 8) fine whole refl (omega arith))

sparse_within : Inside sparse_visits
sparse_within t fine whole =
    let view = ilvs (t.place + 4) t.padded in
    lower t.place (t.place + 4) (end_of t) (ilv_walk_in (end_of t) view.items view.fault) (omega arith)
    (ilvs_within (t.place + 4) (end_of t) t.padded view.items view.fault (ilvs_described (t.place + 4) t.padded fine whole) (omega arith))

data_within : (paths : TlvItem → List Visit) → Inside paths → Inside (data_visits paths)
data_within paths inside t fine whole =
    let none : Within t.place (end_of t) [] = omega arith in
    chosen t.place (end_of t) (t.kind == 272) _ _ (inside t fine whole) (chosen t.place (end_of t) (t.kind == 273) _ _ (key_within t fine whole)
    (chosen t.place (end_of t) (t.kind == 275) _ _ (sparse_within t fine whole) (chosen t.place (end_of t) (t.kind == 276) _ _ (outcome_within t fine whole) none)))

path_within : (kind : OperKind) (depth : ℕ) → Inside (path_visits kind depth)
path_within kind zero t fine whole = one_within t
path_within kind (suc depth) t fine whole =
    let n = u16_at t.padded 2 in
    (same t.place, holder (data_visits (path_visits kind depth)) (data_within (path_visits kind depth) (path_within kind depth)) (visits.opening kind t.place (u16_at t.padded 0 / 2 ^ 15 == 1)) t (4 + 4 * n) (t.place + 8 + 4 * n) fine whole (omega arith) (omega arith))

operation_within : (which : Operation) → Inside (operation_visits which)
operation_within (operation.Paths kind) t fine whole = whole_holder (data_visits (path_visits kind 16)) (data_within (path_visits kind 16) (path_within kind 16)) (visits.path false) t fine whole
operation_within operation.Commit t fine whole = one_within t
operation_within operation.Trcomp t fine whole = one_within t
operation_within operation.CommitResponse t fine whole = whole_holder outcome_visits outcome_within (visits.only 276) t fine whole

oper_by_within : (which : Option Operation) → Inside (oper_visits_by which)
oper_by_within (Some which) t fine whole = operation_within which t fine whole
oper_by_within None t fine whole = omega arith

oper_within : (message : ℕ) → Inside (oper_visits message)
oper_within message t fine whole = oper_by_within (operation_of message t.kind) t fine whole

pub select_rises : (message : ℕ) (t : TlvItem) → Lent t → AreBytes t.padded → AreRising t.place (select_visits message t)
select_rises message t lent fine =
    rising t.place (end_of t) (select_visits message t)
    (same t.place, (same t.place, holder (oper_visits message) (oper_within message) (visits.oper message false) t 8 (t.place + 12) fine lent.whole refl (omega arith)))
