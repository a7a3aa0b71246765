-- The places of the tests of a body never fall, and the last is at most its end.
use Rattle.std.proofs.Common.{◌≡◌, ℕ, ◌+◌, ◌-◌, ◌%◌, ◌^◌, ◌≤◌, ◌<◌, List, [], ◌∷◌, ◌++◌, length, take, drop, Bool, true, false, ◌==◌, cond, nat_lt, Option, Some, None, refl, sym, ap, ◌∙◌, subst, arith, inl, inr, length-append, append_assoc}
use Rattle.std.specs.List.{AllByRecursion, flat_map}
use Rattle.std.proofs.lemmas.Bool.{cases_lt}
use Rattle.std.proofs.lemmas.List.{length-drop, take_at}
use Rattle.fc_wire.specs.Bytes.{AreBytes}
use Rattle.fc_wire.specs.Tiling.{Tiling, IsTiling, tiling}
use Rattle.fc_wire.specs.Tlvs.{TlvItem, IsTlv, IsTlvAt, Lent, tlvs, tlv_fault, one_tlv}
use Rattle.fc_wire.specs.declared.header.WireFault.{WireFault}
use Rattle.fc_wire.specs.declared.header.WireFault.TheVariants as wire
use Rattle.fc_wire.proofs.ItemLaws.{tlvs_described}
use Rattle.fc_wire.proofs.Spelled.{bytes_drop}
use Rattle.fc_wire.proofs.Stepping.{tiles_end}
use Rattle.fc_path.specs.Reading.{end_of}
use Rattle.fc_path.specs.Visits as visits
use Rattle.fc_path.specs.Visits.{Visit, visit, AreRising, Slot, behind, place_of, walk_in, nothing, oper_visits, select_visits}
use Rattle.fc_path.proofs.Rising.{select_rises}
use Rattle.fc_path.proofs.Sound.{bytes_split}
use Rattle.fc_msg.specs.BodyVisits.{are_enough, body_visits, end_visit, number_visits}

-- the place of the last test
abbrev pub last_place : ℕ → List Visit → ℕ
last_place low [] = low
last_place low (v ∷ vs) = last_place v.place vs

last_append : (low : ℕ) (xs ys : List Visit) → last_place low (xs ++ ys) ≡ last_place (last_place low xs) ys
last_append low [] ys = refl
last_append low (x ∷ xs) ys = last_append x.place xs ys

lower : (low mid : ℕ) (vs : List Visit) → low ≤ mid → AreRising mid vs → AreRising low vs
lower low mid [] less h = tt
lower low mid (v ∷ vs) less h = let first = h.0 in (omega arith, h.1)

joins : (low mid : ℕ) (xs ys : List Visit) → AreRising low xs → last_place low xs ≤ mid → AreRising mid ys → AreRising low (xs ++ ys)
joins low mid [] ys h less k = lower low mid ys less k
joins low mid (x ∷ xs) ys h less k = (h.0, joins x.place mid xs ys h.1 less k)

rising_last : (low : ℕ) (vs : List Visit) → AreRising low vs → low ≤ last_place low vs
rising_last low [] h = omega arith
rising_last low (v ∷ vs) h = let first = h.0 in let more = rising_last v.place vs h.1 in omega arith

-- all places are at most the last
abbrev pub IsAtMost : ℕ → Visit → Type 0
IsAtMost high v = v.place ≤ high

pub all_at_most : (low high : ℕ) (vs : List Visit) → AreRising low vs → last_place low vs ≤ high → AllByRecursion (IsAtMost high) vs
all_at_most low high [] h less = tt
all_at_most low high (v ∷ vs) h less = let more = rising_last v.place vs h.1 in (omega arith, all_at_most v.place high vs h.1 less)

chosen : (b : Bool) (low : ℕ) (xs ys : List Visit) → AreRising low xs → AreRising low ys → AreRising low (cond b xs ys)
chosen true low xs ys h k = h
chosen false low xs ys h k = k

chosen_last : (b : Bool) (low high : ℕ) (xs ys : List Visit) → last_place low xs ≤ high → last_place low ys ≤ high → last_place low (cond b xs ys) ≤ high
chosen_last true low high xs ys h k = h
chosen_last false low high xs ys h k = k

-- where the TLVs end, or are cut off
abbrev end_or : ℕ → Option WireFault → ℕ
end_or end None = end
end_or end (Some f) = place_of f

walk_last : (held : TlvItem → List Visit) (slot : Slot) (end : ℕ) (ts : List TlvItem) (fault : Option WireFault) (low : ℕ) → last_place low (walk_in held slot end ts fault) ≡ end_or end fault
walk_last held slot end [] None low = refl
walk_last held slot end [] (Some f) low = refl
walk_last held slot end (t ∷ ts) fault low =
    last_append t.place (held t) (walk_in held (behind slot t) end ts fault) ∙ walk_last held (behind slot t) end ts fault (last_place t.place (held t))

end_last : (enough : Bool) (end : ℕ) (fault : Option WireFault) (low : ℕ) → last_place low (end_visit enough end fault ∷ []) ≡ end_or end fault
end_last enough end None low = refl
end_last enough end (Some f) low = refl

-- the place of a fault of TLVs
some_same : (x y : WireFault) → Some x ≡ Some y → x ≡ y
some_same x y e = cc

placed : (a b c : Bool) (place : ℕ) (f : WireFault) → cond a (Some (wire.TlvShort place)) (cond b (Some (wire.TlvShort place)) (cond c (Some (wire.TlvPast place)) None)) ≡ Some f → place ≡ place_of f
placed true b c place f e = ap place_of (some_same (wire.TlvShort place) f e)
placed false true c place f e = ap place_of (some_same (wire.TlvShort place) f e)
placed false false true place f e = ap place_of (some_same (wire.TlvPast place) f e)
placed false false false place f e = cc

tlv_placed : (place : ℕ) (bytes : List ℕ) (f : WireFault) → tlv_fault place bytes ≡ Some f → place ≡ place_of f
tlv_placed place bytes f e = placed (nat_lt (length bytes) 4) _ _ place f e

abbrev Tiled : ℕ → List TlvItem → Option WireFault → List ℕ → Type 0
Tiled place ts fault bytes = IsTiling IsTlvAt tlv_fault place ts fault bytes

cut_within : (place end : ℕ) (ts : List TlvItem) (fault : Option WireFault) (bytes : List ℕ) → Tiled place ts fault bytes → end ≡ place + length bytes → end_or end fault ≤ end
cut_within place end [] None bytes h e = omega arith
cut_within place end [] (Some f) bytes h e = let is = tlv_placed place bytes f h.1 in omega arith
cut_within place end (t ∷ ts) fault bytes h e =
    let all : length bytes ≡ length h.0 + length h.1 = ap length h.2 ∙ length-append h.0 h.1 in
    cut_within (place + length h.0) end ts fault h.1 h.4 (omega arith)

none_left : (xs : List ℕ) → length xs ≡ 0 → xs ≡ []
none_left [] h = refl
none_left (x ∷ xs) h = absurd (omega arith)

-- an LFBselect ends within its TLV
select_cut : (t : TlvItem) → AreBytes t.padded → length t.padded % 4 ≡ 0 → end_or (end_of t) (tlvs (t.place + 12) (drop 8 t.padded)).fault ≤ end_of t
select_cut t fine whole =
    let inner = drop 8 t.padded in
    let size : length inner ≡ length t.padded - 8 = length-drop 8 t.padded in
    elim (cases_lt (length t.padded) 8) [
      | inl less ↦
          let view : tlvs (t.place + 12) inner ≡ tiling [] None = ap (tlvs (t.place + 12)) (none_left inner (omega arith)) ∙ tiles_end one_tlv (t.place + 12) in
          let same : end_of t ≤ end_of t = omega arith in
          subst (λ (w : Tiling TlvItem). end_or (end_of t) w.fault ≤ end_of t) (sym view) same
      | inr more ↦
          let inner_bytes = bytes_drop 8 t.padded fine in
          cut_within (t.place + 12) (end_of t) (tlvs (t.place + 12) inner).items (tlvs (t.place + 12) inner).fault inner (tlvs_described (t.place + 12) inner inner_bytes (omega arith)) (omega arith)
    ]

select_last : (kind : ℕ) (t : TlvItem) (low : ℕ) → AreBytes t.padded → length t.padded % 4 ≡ 0 → last_place low (select_visits kind t) ≤ end_of t
select_last kind t low fine whole =
    let view = tlvs (t.place + 12) (drop 8 t.padded) in
    let last = walk_last (oper_visits kind) (visits.oper kind false) (end_of t) view.items view.fault t.place in
    subst (λ n. n ≤ end_of t) (sym last) (select_cut t fine whole)

-- what holds of a TLV among bytes
lent : (t : TlvItem) (bytes : List ℕ) → IsTlv t.kind t.body t.padded bytes → t.place + length bytes < 2 ^ 64 → Lent t
lent t bytes is within =
    let size : length bytes ≡ 4 + length t.padded = omega (arith, ap length is.spelled) in
    let parts : length t.padded ≡ length t.body + length is.padding = ap length is.value ∙ length-append t.body is.padding in
    let few = is.few in record {
      whole = is.whole;
      front = sym (ap (take (length t.body)) is.value ∙ take_at t.body is.padding (length t.body) refl);
      cut = omega arith;
      few = omega arith;
      within = omega arith;
    }

selects_rise : (kind place end : ℕ) (enough : Bool) (bytes : List ℕ) (ts : List TlvItem) (fault : Option WireFault) → AreBytes bytes → Tiled place ts fault bytes → end ≡ place + length bytes → end < 2 ^ 64
    → AreRising place (flat_map (select_visits kind) ts ++ end_visit enough end fault ∷ [])
selects_rise kind place end enough bytes [] None fine h e few = let high : place ≤ end = omega arith in (high, tt)
selects_rise kind place end enough bytes [] (Some f) fine h e few = let is = tlv_placed place bytes f h.1 in let low : place ≤ place_of f = omega arith in (low, tt)
selects_rise kind place end enough bytes (t ∷ ts) fault fine h e few =
    let split = bytes_split bytes h.0 h.1 h.2 fine in
    let padded = (subst AreBytes h.3.1.spelled split.0).1.1.1.1 in
    let at = h.3.0 in
    let size : length h.0 ≡ 4 + length t.padded = omega (arith, ap length h.3.1.spelled) in
    let all : length bytes ≡ length h.0 + length h.1 = ap length h.2 ∙ length-append h.0 h.1 in
    let own = select_visits kind t in
    let others = flat_map (select_visits kind) ts in
    let last = end_visit enough end fault ∷ [] in
    let more = selects_rise kind (place + length h.0) end enough h.1 ts fault split.1 h.4 (omega arith) few in
    let first = select_rises kind t (lent t h.0 h.3.1 (omega arith)) padded in
    subst (AreRising place) (sym (append_assoc own others last))
    (joins place (end_of t) own (others ++ last) (lower place t.place own (omega arith) first) (select_last kind t place padded h.3.1.whole) (lower (end_of t) (place + length h.0) (others ++ last) (omega arith) more))

-- what stands alone
abbrev Stays : (TlvItem → List Visit) → Type 0
Stays held = (t : TlvItem) → AreRising t.place (held t) × (last_place t.place (held t) ≡ t.place)

nothing_stays : Stays nothing
nothing_stays t = (tt, refl)

number_stays : Stays number_visits
number_stays t = let same : t.place ≤ t.place = omega arith in ((same, tt), refl)

walk_rises : (held : TlvItem → List Visit) (stays : Stays held) (slot : Slot) (place end : ℕ) (bytes : List ℕ) (ts : List TlvItem) (fault : Option WireFault) → Tiled place ts fault bytes → end ≡ place + length bytes
    → AreRising place (walk_in held slot end ts fault)
walk_rises held stays slot place end bytes [] None h e = let high : place ≤ end = omega arith in (high, tt)
walk_rises held stays slot place end bytes [] (Some f) h e = let is = tlv_placed place bytes f h.1 in let low : place ≤ place_of f = omega arith in (low, tt)
walk_rises held stays slot place end bytes (t ∷ ts) fault h e =
    let at = h.3.0 in
    let all : length bytes ≡ length h.0 + length h.1 = ap length h.2 ∙ length-append h.0 h.1 in
    let more = walk_rises held stays (behind slot t) (place + length h.0) end h.1 ts fault h.4 (omega arith) in
    let first : place ≤ t.place = omega arith in
    let own = (stays t).1 in
    let last : last_place t.place (held t) ≤ t.place = omega arith in
    (first, joins t.place t.place (held t) (walk_in held (behind slot t) end ts fault) (stays t).0 last (lower t.place (place + length h.0) (walk_in held (behind slot t) end ts fault) (omega arith) more))

pub body_rises : (kind place : ℕ) (bytes : List ℕ) → AreBytes bytes → length bytes % 4 ≡ 0 → place + length bytes < 2 ^ 64 → AreRising place (body_visits kind (place + length bytes) (tlvs place bytes).items (tlvs place bytes).fault)
body_rises kind place bytes fine whole few =
    let end = place + length bytes in
    let ts = (tlvs place bytes).items in
    let cut = (tlvs place bytes).fault in
    let are = tlvs_described place bytes fine whole in
    chosen (kind == 15) place _ _ (walk_rises nothing nothing_stays visits.past place end bytes ts cut are refl)
    (chosen (kind == 17) place _ _ (walk_rises number_visits number_stays (visits.only 16) place end bytes ts cut are refl)
    (chosen (kind == 2) place _ _ (walk_rises number_visits number_stays (visits.only 17) place end bytes ts cut are refl)
    (selects_rise kind place end (are_enough (kind == 1) ts) bytes ts cut fine are refl few)))

ends_at : (low high : ℕ) (vs : List Visit) (n : ℕ) → last_place low vs ≡ n → n ≤ high → last_place low vs ≤ high
ends_at low high vs n e less = omega arith

pub body_last : (kind place : ℕ) (bytes : List ℕ) → AreBytes bytes → length bytes % 4 ≡ 0 → last_place place (body_visits kind (place + length bytes) (tlvs place bytes).items (tlvs place bytes).fault) ≤ place + length bytes
body_last kind place bytes fine whole =
    let end = place + length bytes in
    let ts = (tlvs place bytes).items in
    let cut = (tlvs place bytes).fault in
    let within = cut_within place end ts cut bytes (tlvs_described place bytes fine whole) refl in
    let last = end_visit (are_enough (kind == 1) ts) end cut in
    let own = flat_map (select_visits kind) ts in
    chosen_last (kind == 15) place end _ _ (ends_at place end (walk_in nothing visits.past end ts cut) (end_or end cut) (walk_last nothing visits.past end ts cut place) within)
    (chosen_last (kind == 17) place end _ _ (ends_at place end (walk_in number_visits (visits.only 16) end ts cut) (end_or end cut) (walk_last number_visits (visits.only 16) end ts cut place) within)
    (chosen_last (kind == 2) place end _ _ (ends_at place end (walk_in number_visits (visits.only 17) end ts cut) (end_or end cut) (walk_last number_visits (visits.only 17) end ts cut place) within)
    (ends_at place end (own ++ last ∷ []) (end_or end cut) (last_append place own (last ∷ []) ∙ end_last (are_enough (kind == 1) ts) end cut (last_place place own)) within)))
