-- A fault of a body has its place at most at its end.
use Rattle.std.proofs.Common.{◌≡◌, ℕ, zero, suc, ◌+◌, ◌*◌, ◌/◌, ◌%◌, ◌^◌, ◌<◌, ◌≤◌, List, [], ◌∷◌, ◌++◌, length, drop, slice_index, Bool, true, false, ◌==◌, ◌||◌, not, cond, nat_lt, Option, Some, None, Result, Ok, Err, IfErr, refl, sym, ap, ◌∙◌, subst, arith}
use Rattle.std.proofs.lemmas.Bool.Decides.{nat_tests}
use Rattle.std.specs.List.{AllByRecursion, flat_map}
use Rattle.fc_wire.specs.Bytes.{u16_at, AreBytes}
use Rattle.fc_wire.specs.Tiling.{Tiling, tiled, tiles, tiles_by}
use Rattle.fc_wire.specs.Tlvs.{TlvItem, one_tlv, tlv_of, tlvs}
use Rattle.fc_wire.specs.Ilvs.{IlvItem, ilvs}
use Rattle.fc_wire.specs.declared.header.WireFault.{WireFault}
use Rattle.fc_wire.specs.declared.header.WireFault.TheVariants as wire
use Rattle.fc_path.specs.Kinds.{holds_selects, is_known, in_select, operation_of, takes_nothing}
use Rattle.fc_path.specs.Reading.{end_of}
use Rattle.fc_path.specs.Stray.{beside, misplaced, trailing}
use Rattle.fc_path.specs.Visits as visits
use Rattle.fc_path.specs.Visits.{Visit, visit, Slot, FirstBad, is_body, unless, oper_stands, stands, behind, ends, place_of, walk_in, ilv_walk_in, nothing, key_visits, sparse_visits, outcome_visits, data_visits, path_visits, operation_visits, oper_visits_by, oper_visits, select_visits}
use Rattle.fc_path.specs.declared.fault.PathFault.{PathFault}
use Rattle.fc_path.specs.declared.fault.PathFault.TheVariants as faults
use Rattle.fc_path.specs.declared.kinds.Operation.{Operation}
use Rattle.fc_path.specs.declared.kinds.Operation.TheVariants as operation
use Rattle.fc_path.specs.declared.oper.OperKind.{OperKind}
use Rattle.fc_msg.specs.Bodies.{body_at}
use Rattle.fc_msg.specs.BodyVisits.{are_enough, body_visits, end_visit, number_visits}
use Rattle.fc_msg.specs.Decoding.{IsWithin, Refuses}
use Rattle.fc_msg.specs.Faults.{body_in, fault_in, fault_of, first_broken, first_of, head_fault, header_rules, is_type, refusal_of, rule, told_of, type_rules}
use Rattle.fc_msg.specs.declared.fault.MsgFault.{MsgFault}
use Rattle.fc_msg.specs.declared.fault.MsgFault.TheVariants.{At, Memory}
use Rattle.fc_msg.specs.declared.fault.Reason.TheVariants.{Truncated, Version, ShortLength, Trailing, NotBuilt, UnknownType}
use Rattle.fc_msg.specs.declared.fault.Refusal.{Refusal}
use Rattle.fc_msg.specs.declared.message.Message.{Message}
use Rattle.fc_msg.specs.declared.message.MsgBody.{MsgBody}
use Rattle.fc_msg.proofs.BodyOrder.{first_fault}
use Rattle.fc_msg.proofs.BodyRising.{IsAtMost, all_at_most, body_last, body_rises}
use Rattle.fc_msg.proofs.Reading.{headed}
use Rattle.fc_msg.proofs.Told.{body_fits}

-- the place that a fault tells
abbrev fault_place : PathFault → ℕ
fault_place (faults.Wire f) = place_of f
fault_place (faults.UnknownTlv place) = place
fault_place (faults.CountPast place) = place
fault_place (faults.KeyFlag place) = place
fault_place (faults.TwoBodies place) = place
fault_place (faults.Deep place) = place
fault_place (faults.WrongBody place) = place
fault_place (faults.Trailing place) = place
fault_place faults.Memory = 0

-- a fault has its place at its test, or before it
abbrev Behind : Option PathFault → ℕ → Type 0
Behind None place = Unit {0}
Behind (Some f) place = fault_place f ≤ place

abbrev IsBehind : Visit → Type 0
IsBehind v = Behind v.fault v.place

abbrev AreBehind : List Visit → Type 0
AreBehind vs = AllByRecursion IsBehind vs

here : (n : ℕ) → n ≤ n
here n = omega arith

all_append : (xs ys : List Visit) → AreBehind xs → AreBehind ys → AreBehind (xs ++ ys)
all_append [] ys h k = k
all_append (x ∷ xs) ys h k = (h.0, all_append xs ys h.1 k)

all_chosen : (b : Bool) (xs ys : List Visit) → AreBehind xs → AreBehind ys → AreBehind (cond b xs ys)
all_chosen true xs ys h k = h
all_chosen false xs ys h k = k

place_chosen : (b : Bool) (f g : PathFault) (n : ℕ) → fault_place f ≤ n → fault_place g ≤ n → fault_place (cond b f g) ≤ n
place_chosen true f g n h k = h
place_chosen false f g n h k = k

chosen : (b : Bool) (o p : Option PathFault) (n : ℕ) → Behind o n → Behind p n → Behind (cond b o p) n
chosen true o p n h k = h
chosen false o p n h k = k

unless_behind : (b : Bool) (f : PathFault) (n : ℕ) → fault_place f ≤ n → Behind (unless b f) n
unless_behind true f n h = tt
unless_behind false f n h = h

misplaced_at : (t : TlvItem) → fault_place (misplaced t) ≤ t.place
misplaced_at t = place_chosen (is_known t.kind) _ _ t.place (here t.place) (here t.place)

beside_at : (t : TlvItem) → fault_place (beside t) ≤ t.place
beside_at t = place_chosen (is_known t.kind) _ _ t.place (here t.place) (here t.place)

trailing_at : (t : TlvItem) → fault_place (trailing t) ≤ t.place
trailing_at t = place_chosen (is_known t.kind) _ _ t.place (here t.place) (here t.place)

-- a place in a slot: the flags of a PATH-DATA stand before what is behind its IDs
abbrev StandsFrom : Slot → ℕ → Type 0
StandsFrom (visits.oper message some) n = Unit {0}
StandsFrom (visits.path some) n = Unit {0}
StandsFrom (visits.only kind) n = Unit {0}
StandsFrom visits.past n = Unit {0}
StandsFrom (visits.opening kind place keyed) n = place + 4 ≤ n
StandsFrom (visits.body kind) n = Unit {0}
StandsFrom visits.nested n = Unit {0}
StandsFrom visits.leaf n = Unit {0}

oper_behind : (o : Option Operation) (t : TlvItem) → Behind (oper_stands o t) t.place
oper_behind (Some which) t = tt
oper_behind None t = place_chosen (in_select t.kind) _ _ t.place (here t.place) (here t.place)

stands_behind : (slot : Slot) (t : TlvItem) → StandsFrom slot t.place → Behind (stands slot t) t.place
stands_behind (visits.oper message some) t h = oper_behind (operation_of message t.kind) t
stands_behind (visits.path some) t h = unless_behind (t.kind == 272) (misplaced t) t.place (misplaced_at t)
stands_behind (visits.only kind) t h = unless_behind (t.kind == kind) (misplaced t) t.place (misplaced_at t)
stands_behind visits.past t h = trailing_at t
stands_behind (visits.opening kind place keyed) t h =
    chosen (not (is_known t.kind)) _ _ t.place (here t.place) (chosen keyed _ _ t.place (unless_behind (t.kind == 273) (faults.KeyFlag (place + 4)) t.place h)
    (chosen (t.kind == 273) _ _ t.place h (unless_behind (is_body kind t.kind) (misplaced t) t.place (misplaced_at t))))
stands_behind (visits.body kind) t h = unless_behind (is_body kind t.kind) (misplaced t) t.place (misplaced_at t)
stands_behind visits.nested t h = unless_behind (t.kind == 272) (beside t) t.place (beside_at t)
stands_behind visits.leaf t h = beside_at t

ends_behind : (slot : Slot) (end : ℕ) → StandsFrom slot end → Behind (ends slot end) end
ends_behind (visits.oper message some) end h = unless_behind some (faults.WrongBody end) end (here end)
ends_behind (visits.path some) end h = unless_behind some (faults.WrongBody end) end (here end)
ends_behind (visits.only kind) end h = here end
ends_behind visits.past end h = tt
ends_behind (visits.opening kind place keyed) end h = chosen keyed _ _ end h (unless_behind (takes_nothing kind) (faults.WrongBody end) end (here end))
ends_behind (visits.body kind) end h = unless_behind (takes_nothing kind) (faults.WrongBody end) end (here end)
ends_behind visits.nested end h = tt
ends_behind visits.leaf end h = tt

behind_body_free : (b : Bool) (n : ℕ) → StandsFrom (cond b visits.nested visits.leaf) n
behind_body_free true n = tt
behind_body_free false n = tt

behind_free : (slot : Slot) (t : TlvItem) (n : ℕ) → StandsFrom (behind slot t) n
behind_free (visits.oper message some) t n = tt
behind_free (visits.path some) t n = tt
behind_free (visits.only kind) t n = tt
behind_free visits.past t n = tt
behind_free (visits.opening kind place true) t n = tt
behind_free (visits.opening kind place false) t n = behind_body_free (t.kind == 272) n
behind_free (visits.body kind) t n = behind_body_free (t.kind == 272) n
behind_free visits.nested t n = tt
behind_free visits.leaf t n = tt

-- where the first TLV stands, or the end
abbrev FirstFrom : Slot → ℕ → List TlvItem → Type 0
FirstFrom slot end [] = StandsFrom slot end
FirstFrom slot end (t ∷ ts) = StandsFrom slot t.place

first_free : (slot : Slot) (t : TlvItem) (end : ℕ) (ts : List TlvItem) → FirstFrom (behind slot t) end ts
first_free slot t end [] = behind_free slot t end
first_free slot t end (next ∷ ts) = behind_free slot t next.place

abbrev Holds : (TlvItem → List Visit) → Type 0
Holds held = (t : TlvItem) → AreBehind (held t)

walk_behind : (held : TlvItem → List Visit) (holds : Holds held) (slot : Slot) (end : ℕ) (ts : List TlvItem) (fault : Option WireFault) → FirstFrom slot end ts → AreBehind (walk_in held slot end ts fault)
walk_behind held holds slot end [] None h = (ends_behind slot end h, tt)
walk_behind held holds slot end [] (Some f) h = (here (place_of f), tt)
walk_behind held holds slot end (t ∷ ts) fault h =
    (stands_behind slot t h, all_append (held t) (walk_in held (behind slot t) end ts fault) (holds t) (walk_behind held holds (behind slot t) end ts fault (first_free slot t end ts)))

any_first : (slot : Slot) (free : (n : ℕ) → StandsFrom slot n) (end : ℕ) (ts : List TlvItem) → FirstFrom slot end ts
any_first slot free end [] = free end
any_first slot free end (t ∷ ts) = free t.place

ilvs_behind : (end : ℕ) (is : List IlvItem) (fault : Option WireFault) → AreBehind (ilv_walk_in end is fault)
ilvs_behind end [] None = (tt, tt)
ilvs_behind end [] (Some f) = (here (place_of f), tt)
ilvs_behind end (i ∷ is) fault = (tt, ilvs_behind end is fault)

-- the first TLV stands where the bytes begin
abbrev BeginsAt : ℕ → List TlvItem → Type 0
BeginsAt at [] = Unit {0}
BeginsAt at (t ∷ ts) = t.place ≡ at

abbrev OneAt : ℕ → Result (TlvItem × List ℕ) WireFault → Type 0
OneAt at (Ok x) = x.0.place ≡ at
OneAt at (Err f) = Unit {0}

one_by : (a b c : Bool) (at len : ℕ) (bytes : List ℕ) → OneAt at (cond a (Err (wire.TlvShort at)) (cond b (Err (wire.TlvShort at)) (cond c (Err (wire.TlvPast at)) (Ok (tlv_of len at bytes)))))
one_by true b c at len bytes = tt
one_by false true c at len bytes = tt
one_by false false true at len bytes = tt
one_by false false false at len bytes = refl

one_at : (at : ℕ) (bytes : List ℕ) → OneAt at (one_tlv at bytes)
unfolding one_tlv
one_at at bytes = one_by (nat_lt (length bytes) 4) (nat_lt (u16_at bytes 2) 4) (nat_lt (length bytes) (u16_at bytes 2)) at (u16_at bytes 2) bytes

tiled_at : (after : ℕ → List ℕ → Tiling TlvItem) (size at : ℕ) (r : Result (TlvItem × List ℕ) WireFault) → OneAt at r → BeginsAt at (tiled after size at r).items
tiled_at after size at (Ok x) h = h
tiled_at after size at (Err f) h = tt

begins : (at : ℕ) (bytes : List ℕ) → BeginsAt at (tlvs at bytes).items
unfolding tiles
begins at [] = tt
begins at (b ∷ bytes) = tiled_at (tiles_by one_tlv (length bytes)) (length (b ∷ bytes)) at (one_tlv at (b ∷ bytes)) (one_at at (b ∷ bytes))

opening_by : (kind : OperKind) (place at end : ℕ) (keyed : Bool) (ts : List TlvItem) → place + 4 ≤ at → place + 4 ≤ end → BeginsAt at ts → FirstFrom (visits.opening kind place keyed) end ts
opening_by kind place at end keyed [] h k is = k
opening_by kind place at end keyed (t ∷ ts) h k is = omega arith

-- what TLVs hold
outcome_behind : Holds outcome_visits
outcome_behind t = (unless_behind (length t.body == 4) (faults.WrongBody t.place) t.place (here t.place), tt)

nothing_behind : Holds nothing
nothing_behind t = tt

key_behind : Holds key_visits
key_behind t =
    let view = tlvs (t.place + 8) (drop 4 t.padded) in (
      unless_behind (not (nat_lt (length t.body) 4)) (faults.Wire (wire.TlvShort t.place)) t.place (here t.place),
      walk_behind nothing nothing_behind (visits.only 274) (end_of t) view.items view.fault (any_first (visits.only 274) (λ n. tt) (end_of t) view.items),
    )

sparse_behind : Holds sparse_visits
sparse_behind t = ilvs_behind (end_of t) (ilvs (t.place + 4) t.padded).items (ilvs (t.place + 4) t.padded).fault

data_behind : (paths : TlvItem → List Visit) → Holds paths → Holds (data_visits paths)
data_behind paths holds t =
    all_chosen (t.kind == 272) _ _ (holds t) (all_chosen (t.kind == 273) _ _ (key_behind t) (all_chosen (t.kind == 275) _ _ (sparse_behind t) (all_chosen (t.kind == 276) _ _ (outcome_behind t) tt)))

path_behind : (kind : OperKind) (depth : ℕ) → Holds (path_visits kind depth)
path_behind kind zero t = (here t.place, tt)
path_behind kind (suc depth) t =
    let n = u16_at t.padded 2 in
    let at = t.place + 8 + 4 * n in
    let keyed = u16_at t.padded 0 / 2 ^ 15 == 1 in
    let view = tlvs at (drop (4 + 4 * n) t.padded) in (
      unless_behind (not (nat_lt (length t.padded) 4 || nat_lt (length t.padded) (4 + 4 * n))) (faults.CountPast t.place) t.place (here t.place),
      walk_behind (data_visits (path_visits kind depth)) (data_behind (path_visits kind depth) (path_behind kind depth)) (visits.opening kind t.place keyed) (end_of t) view.items view.fault
          (opening_by kind t.place at (end_of t) keyed view.items (omega arith) (omega arith) (begins at (drop (4 + 4 * n) t.padded))),
    )

operation_behind : (which : Operation) → Holds (operation_visits which)
operation_behind (operation.Paths kind) t =
    let view = tlvs (t.place + 4) t.padded in
    walk_behind (data_visits (path_visits kind 16)) (data_behind (path_visits kind 16) (path_behind kind 16)) (visits.path false) (end_of t) view.items view.fault (any_first (visits.path false) (λ n. tt) (end_of t) view.items)
operation_behind operation.Commit t = (unless_behind (length t.body == 0) (faults.WrongBody t.place) t.place (here t.place), tt)
operation_behind operation.Trcomp t = (unless_behind (length t.body == 0) (faults.WrongBody t.place) t.place (here t.place), tt)
operation_behind operation.CommitResponse t =
    let view = tlvs (t.place + 4) t.padded in
    walk_behind outcome_visits outcome_behind (visits.only 276) (end_of t) view.items view.fault (any_first (visits.only 276) (λ n. tt) (end_of t) view.items)

oper_by_behind : (which : Option Operation) → Holds (oper_visits_by which)
oper_by_behind (Some which) t = operation_behind which t
oper_by_behind None t = tt

select_behind : (kind : ℕ) → Holds (select_visits kind)
select_behind kind t =
    let view = tlvs (t.place + 12) (drop 8 t.padded) in (
      unless_behind (not (not (t.kind == 4096) || not (holds_selects kind))) (misplaced t) t.place (misplaced_at t),
      (
        unless_behind (not (nat_lt (length t.body) 8)) (faults.Wire (wire.TlvShort t.place)) t.place (here t.place),
        walk_behind (oper_visits kind) (λ t. oper_by_behind (operation_of kind t.kind) t) (visits.oper kind false) (end_of t) view.items view.fault
            (any_first (visits.oper kind false) (λ n. tt) (end_of t) view.items),
      ),
    )

selects_behind : (kind : ℕ) (ts : List TlvItem) → AreBehind (flat_map (select_visits kind) ts)
selects_behind kind [] = tt
selects_behind kind (t ∷ ts) = all_append (select_visits kind t) (flat_map (select_visits kind) ts) (select_behind kind t) (selects_behind kind ts)

end_behind : (enough : Bool) (end : ℕ) (fault : Option WireFault) → IsBehind (end_visit enough end fault)
end_behind enough end None = unless_behind enough (faults.WrongBody end) end (here end)
end_behind enough end (Some f) = here (place_of f)

number_behind : Holds number_visits
number_behind t = (unless_behind (length t.body == 4) (faults.WrongBody t.place) t.place (here t.place), tt)

alone : (held : TlvItem → List Visit) (holds : Holds held) (kind end : ℕ) (ts : List TlvItem) (fault : Option WireFault) → AreBehind (walk_in held (visits.only kind) end ts fault)
alone held holds kind end ts fault = walk_behind held holds (visits.only kind) end ts fault (any_first (visits.only kind) (λ n. tt) end ts)

body_behind : (kind end : ℕ) (ts : List TlvItem) (fault : Option WireFault) → AreBehind (body_visits kind end ts fault)
body_behind kind end ts fault =
    all_chosen (kind == 15) _ _ (walk_behind nothing nothing_behind visits.past end ts fault (any_first visits.past (λ n. tt) end ts))
    (all_chosen (kind == 17) _ _ (alone number_visits number_behind 16 end ts fault) (all_chosen (kind == 2) _ _ (alone number_visits number_behind 17 end ts fault)
    (all_append (flat_map (select_visits kind) ts) (end_visit (are_enough (kind == 1) ts) end fault ∷ []) (selects_behind kind ts) (end_behind (are_enough (kind == 1) ts) end fault, tt))))

-- a test among others
among : (P : Visit → Type 0) (before : List Visit) (v : Visit) (rest : List Visit) → AllByRecursion P (before ++ v ∷ rest) → P v
among P [] v rest h = h.0
among P (x ∷ before) v rest h = among P before v rest h.1

body_low : (kind place : ℕ) (bytes : List ℕ) (f : PathFault) → AreBytes bytes → length bytes % 4 ≡ 0 → place + length bytes < 2 ^ 64
    → body_at kind (place + length bytes) (tlvs place bytes).items (tlvs place bytes).fault ≡ Err f → fault_place f ≤ place + length bytes
body_low kind place bytes f fine whole few e =
    let end = place + length bytes in
    let items = (tlvs place bytes).items in
    let cut = (tlvs place bytes).fault in
    let (before, at, rest, is, good) = (first_fault kind end items cut f).0 e in
    let all = all_at_most place end (body_visits kind end items cut) (body_rises kind place bytes fine whole few) (body_last kind place bytes fine whole) in
    let high = among (IsAtMost end) before (visit at (Some f)) rest (subst (AllByRecursion (IsAtMost end)) is all) in
    let low = among IsBehind before (visit at (Some f)) rest (subst AreBehind is (body_behind kind end items cut)) in
    omega arith

-- what is told of a fault
some_same : {A : Type 0} (x y : A) → ◌≡◌ {A = Option A} (Some x) (Some y) → x ≡ y
some_same x y e = cc

wire_place : (f : WireFault) → (refusal_of f).place ≡ place_of f
wire_place (wire.Version place) = refl
wire_place (wire.ShortLength place) = refl
wire_place (wire.TlvShort place) = refl
wire_place (wire.TlvPast place) = refl

same_place : (r told : Refusal) → ◌≡◌ {A = Option Refusal} (Some r) (Some told) → told.place ≡ r.place
same_place r told e = ap (λ (r : Refusal). r.place) (sym (some_same r told e))

told_place : (f : PathFault) (told : Refusal) → told_of f ≡ Some told → told.place ≡ fault_place f
told_place (faults.Wire f) told e = same_place (refusal_of f) told e ∙ wire_place f
told_place (faults.UnknownTlv place) told e = same_place _ told e
told_place (faults.CountPast place) told e = same_place _ told e
told_place (faults.KeyFlag place) told e = same_place _ told e
told_place (faults.TwoBodies place) told e = same_place _ told e
told_place (faults.Deep place) told e = same_place _ told e
told_place (faults.WrongBody place) told e = same_place _ told e
told_place (faults.Trailing place) told e = same_place _ told e
told_place faults.Memory told e = cc

-- of the rules of the header and the type
rules_low : (n end : ℕ) (a b c d e : Bool) (told : Refusal) → (a ≡ false → 24 ≤ n) → (e ≡ true → end < n)
    → first_broken (rule a 0 Truncated ∷ rule b 0 Version ∷ rule c 2 ShortLength ∷ rule d 0 Truncated ∷ rule e end Trailing ∷ []) ≡ Some told → told.place ≤ n
rules_low n end true b c d e told h k is = let at = same_place _ told is in omega arith
rules_low n end false true c d e told h k is = let at = same_place _ told is in omega arith
rules_low n end false false true d e told h k is = let at = same_place _ told is in let many = h refl in omega arith
rules_low n end false false false true e told h k is = let at = same_place _ told is in omega arith
rules_low n end false false false false true told h k is = let at = same_place _ told is in let less = k refl in omega arith
rules_low n end false false false false false told h k is = cc

long_enough : (n : ℕ) → nat_lt n 24 ≡ false → 24 ≤ n
long_enough n e = grind (arith, nat_tests)

is_less : (m n : ℕ) → nat_lt m n ≡ true → m < n
is_less m n e = grind (arith, nat_tests)

pub header_low : (bytes : List ℕ) (told : Refusal) → first_broken (header_rules bytes) ≡ Some told → told.place ≤ length bytes
header_low bytes told e =
    rules_low (length bytes) (4 * u16_at bytes 2) (nat_lt (length bytes) 24) (not (slice_index bytes 0 / 16 == 1)) (nat_lt (u16_at bytes 2) 6) (nat_lt (length bytes) (4 * u16_at bytes 2)) (nat_lt (4 * u16_at bytes 2) (length bytes))
    told (long_enough (length bytes)) (is_less (4 * u16_at bytes 2) (length bytes)) e

pub types_low : (a b : Bool) (told : Refusal) → first_broken (rule a 1 NotBuilt ∷ rule b 1 UnknownType ∷ []) ≡ Some told → told.place ≡ 1
types_low true b told e = same_place _ told e
types_low false true told e = same_place _ told e
types_low false false told e = cc

head_by : (bytes : List ℕ) (told : Refusal) (rules : Option Refusal) → first_broken (header_rules bytes) ≡ rules → first_of rules (first_broken (type_rules (slice_index bytes 1))) ≡ Some told → told.place ≤ length bytes
head_by bytes told (Some other) is e = header_low bytes told (is ∙ e)
head_by bytes told None is e =
    let many = (headed bytes is).many in
    let at = types_low (slice_index bytes 1 == 6) (not (is_type (slice_index bytes 1))) told e in
    omega arith

read_by : (bytes : List ℕ) (told : Refusal) (r : Result MsgBody PathFault) → AreBytes bytes → head_fault bytes ≡ None → body_in bytes ≡ r → fault_in r ≡ Some told → told.place ≤ length bytes
read_by bytes told (Ok body) fine head is e = cc
read_by bytes told (Err f) fine head is e =
    let fits = body_fits bytes fine head in
    let tail = drop 24 bytes in
    let kind = slice_index bytes 1 in
    let size = fits.size in
    let low = body_low kind 24 tail f fits.fine fits.whole fits.few (subst (λ n. body_at kind n (tlvs 24 tail).items (tlvs 24 tail).fault ≡ Err f) (sym fits.size) is) in
    let at = told_place f told e in
    omega arith

low_by : (bytes : List ℕ) (told : Refusal) (head : Option Refusal) → AreBytes bytes → head_fault bytes ≡ head → first_of head (fault_in (body_in bytes)) ≡ Some told → told.place ≤ length bytes
low_by bytes told (Some other) fine is e = head_by bytes told (first_broken (header_rules bytes)) refl (is ∙ e)
low_by bytes told None fine is e = read_by bytes told (body_in bytes) fine is refl e

pub fault_low : (bytes : List ℕ) (told : Refusal) → AreBytes bytes → fault_of bytes ≡ Some told → told.place ≤ length bytes
unfolding fault_of
fault_low bytes told fine e = low_by bytes told (head_fault bytes) fine refl e

pub gives_within : (bytes : List ℕ) (r : Result Message MsgFault) → AreBytes bytes → IfErr r (λ fault. Refuses (fault_of bytes) fault) → IfErr r (λ fault. IsWithin (length bytes) fault)
gives_within bytes (Ok m) fine h = tt
gives_within bytes (Err (At told)) fine h = fault_low bytes told fine h
gives_within bytes (Err Memory) fine h = tt
