-- The order of faults as one list: the tests of an LFBselect in reading order, each with its place, whatever loops read
-- it. A TLV is tested where it stands, then what it holds, then what stands behind it, and last the end of what holds
-- them all. The faults and their order are this profile's own.
use Rattle.std.specs.Prelude.{◌≡◌, ◌≤◌, ℕ, zero, suc, ◌+◌, ◌*◌, ◌/◌, ◌^◌, ◌==◌, ◌&&◌, ◌||◌, not, Bool, true, false, nat_lt, List, [], ◌∷◌, ◌++◌, length, drop, Option, Some, None, if◌then◌else◌}
use Rattle.std.specs.List.{AllByRecursion}
use Rattle.fc_wire.specs.Bytes.{u16_at}
use Rattle.fc_wire.specs.Tiling.{Tiling}
use Rattle.fc_wire.specs.Tlvs.{TlvItem, tlvs}
use Rattle.fc_wire.specs.Ilvs.{IlvItem, ilvs}
use Rattle.fc_wire.specs.Types as types
use Rattle.fc_wire.specs.declared.header.WireFault.{WireFault}
use Rattle.fc_wire.specs.declared.header.WireFault.TheVariants as wire
use Rattle.fc_path.specs.Kinds.{is_known, in_select, operation_of, holds_selects, takes_nothing, takes_full, takes_sparse, takes_outcome}
use Rattle.fc_path.specs.Stray.{misplaced, beside, trailing}
use Rattle.fc_path.specs.Reading.{end_of}
use Rattle.fc_path.specs.declared.fault.PathFault.{PathFault}
use Rattle.fc_path.specs.declared.fault.PathFault.TheVariants as faults
use Rattle.fc_path.specs.declared.kinds.Operation.{Operation}
use Rattle.fc_path.specs.declared.kinds.Operation.TheVariants as operation
use Rattle.fc_path.specs.declared.oper.OperKind.{OperKind}

-- a test at a place, and the fault if it fails
pub record Visit : Type 0 where
  pub place : ℕ
  pub fault : Option PathFault

abbrev pub visit : ℕ → Option PathFault → Visit
visit place fault = record { place = place; fault = fault }

abbrev pub IsGood : Visit → Type 0
IsGood v = v.fault ≡ None

-- the fault is that of the first test that fails
abbrev pub FirstBad : PathFault → List Visit → Type 0
FirstBad fault visits =
    (before : List Visit) × (place : ℕ) × (rest : List Visit) × (visits ≡ before ++ visit place (Some fault) ∷ rest)
    × AllByRecursion IsGood before

-- the places never fall from one on
abbrev pub AreRising : ℕ → List Visit → Type 0
AreRising place [] = Unit {0}
AreRising place (v ∷ vs) = (place ≤ v.place) × AreRising v.place vs

abbrev pub unless : Bool → PathFault → Option PathFault
unless holds fault = if holds then None else Some fault

-- where a TLV stands
pub data Slot : Type 0 where
  -- in an LFBselect of a message of a type, and whether an operation stands there already
  oper : ℕ → Bool → Slot
  -- in an operation, and whether a PATH-DATA stands there already
  path : Bool → Slot
  -- where one TLV of a type stands alone, and behind it
  only : ℕ → Slot
  past : Slot
  -- behind the IDs of the PATH-DATA at a place, and whether its key flag is set
  opening : OperKind → ℕ → Bool → Slot
  -- where the body of a PATH-DATA begins, behind a PATH-DATA of it, and behind another body
  body : OperKind → Slot
  nested : Slot
  leaf : Slot

-- the types of bodies of a PATH-DATA
abbrev pub is_body : OperKind → ℕ → Bool
is_body kind n =
    n == types.path_data || ((n == types.full_data && takes_full kind) || ((n == types.sparse_data && takes_sparse kind) || (n == types.outcome && takes_outcome kind)))

-- whether a TLV may stand there
abbrev pub oper_stands : Option Operation → TlvItem → Option PathFault
oper_stands (Some which) tlv = None
oper_stands None tlv = Some (if in_select tlv.kind then faults.WrongBody tlv.place else faults.UnknownTlv tlv.place)

abbrev pub stands : Slot → TlvItem → Option PathFault
stands (oper message some) tlv = oper_stands (operation_of message tlv.kind) tlv
stands (path some) tlv = unless (tlv.kind == types.path_data) (misplaced tlv)
stands (only kind) tlv = unless (tlv.kind == kind) (misplaced tlv)
stands past tlv = Some (trailing tlv)
stands (opening kind place keyed) tlv =
    if not (is_known tlv.kind) then Some (faults.UnknownTlv tlv.place)
    else (if keyed then unless (tlv.kind == types.key_info) (faults.KeyFlag (place + 4))
    else (if tlv.kind == types.key_info then Some (faults.KeyFlag (place + 4)) else unless (is_body kind tlv.kind) (misplaced tlv)))
stands (body kind) tlv = unless (is_body kind tlv.kind) (misplaced tlv)
stands nested tlv = unless (tlv.kind == types.path_data) (beside tlv)
stands leaf tlv = Some (beside tlv)

-- where the TLV behind it stands
abbrev pub behind_body : TlvItem → Slot
behind_body tlv = if tlv.kind == types.path_data then nested else leaf

abbrev pub behind : Slot → TlvItem → Slot
behind (oper message some) tlv = oper message true
behind (path some) tlv = path true
behind (only kind) tlv = past
behind past tlv = past
behind (opening kind place keyed) tlv = if keyed then body kind else behind_body tlv
behind (body kind) tlv = behind_body tlv
behind nested tlv = nested
behind leaf tlv = leaf

-- whether no TLV need stand there
abbrev pub ends : Slot → ℕ → Option PathFault
ends (oper message some) end = unless some (faults.WrongBody end)
ends (path some) end = unless some (faults.WrongBody end)
ends (only kind) end = Some (faults.WrongBody end)
ends past end = None
ends (opening kind place keyed) end =
    if keyed then Some (faults.KeyFlag (place + 4)) else unless (takes_nothing kind) (faults.WrongBody end)
ends (body kind) end = unless (takes_nothing kind) (faults.WrongBody end)
ends nested end = None
ends leaf end = None

abbrev pub place_of : WireFault → ℕ
place_of (wire.Version place) = place
place_of (wire.ShortLength place) = place
place_of (wire.TlvShort place) = place
place_of (wire.TlvPast place) = place

-- the tests of TLVs from a slot on: of each one, of what it holds, and of the end
abbrev pub walk_in : (TlvItem → List Visit) → Slot → ℕ → List TlvItem → Option WireFault → List Visit
walk_in held slot end [] None = visit end (ends slot end) ∷ []
walk_in held slot end [] (Some fault) = visit (place_of fault) (Some (faults.Wire fault)) ∷ []
walk_in held slot end (tlv ∷ tlvs) fault =
    visit tlv.place (stands slot tlv) ∷ (held tlv ++ walk_in held (behind slot tlv) end tlvs fault)

abbrev pub walk : (TlvItem → List Visit) → Slot → ℕ → Tiling TlvItem → List Visit
walk held slot end view = walk_in held slot end view.items view.fault

-- those of ILVs
abbrev pub ilv_walk_in : ℕ → List IlvItem → Option WireFault → List Visit
ilv_walk_in end [] None = visit end None ∷ []
ilv_walk_in end [] (Some fault) = visit (place_of fault) (Some (faults.Wire fault)) ∷ []
ilv_walk_in end (ilv ∷ ilvs) fault = visit ilv.place None ∷ ilv_walk_in end ilvs fault

abbrev pub ilv_walk : ℕ → Tiling IlvItem → List Visit
ilv_walk end view = ilv_walk_in end view.items view.fault

-- those of a KEYINFO, a SPARSEDATA and a RESULT
abbrev pub nothing : TlvItem → List Visit
nothing tlv = []

abbrev pub key_visits : TlvItem → List Visit
key_visits tlv =
    visit tlv.place (unless (not (nat_lt (length tlv.body) 4)) (faults.Wire (wire.TlvShort tlv.place)))
    ∷ walk nothing (only types.full_data) (end_of tlv) (tlvs (tlv.place + 8) (drop 4 tlv.padded))

abbrev pub sparse_visits : TlvItem → List Visit
sparse_visits tlv = ilv_walk (end_of tlv) (ilvs (tlv.place + 4) tlv.padded)

abbrev pub outcome_visits : TlvItem → List Visit
outcome_visits tlv = visit tlv.place (unless (length tlv.body == 4) (faults.WrongBody tlv.place)) ∷ []

-- those of a TLV in an operation, by those of a PATH-DATA
abbrev pub data_visits : (TlvItem → List Visit) → TlvItem → List Visit
data_visits paths tlv =
    if tlv.kind == types.path_data then paths tlv
    else (if tlv.kind == types.key_info then key_visits tlv
    else (if tlv.kind == types.sparse_data then sparse_visits tlv
    else (if tlv.kind == types.outcome then outcome_visits tlv else [])))

-- those of a PATH-DATA, below which so many levels less one may stand
abbrev pub path_visits : OperKind → ℕ → TlvItem → List Visit
path_visits kind zero tlv = visit tlv.place (Some (faults.Deep tlv.place)) ∷ []
path_visits kind (suc depth) tlv =
    visit tlv.place (unless (not (nat_lt (length tlv.padded) 4 || nat_lt (length tlv.padded) (4 + 4 * u16_at tlv.padded 2))) (faults.CountPast tlv.place))
    ∷ walk (data_visits (path_visits kind depth)) (opening kind tlv.place (u16_at tlv.padded 0 / 2 ^ 15 == 1)) (end_of tlv)
    (tlvs (tlv.place + 8 + 4 * u16_at tlv.padded 2) (drop (4 + 4 * u16_at tlv.padded 2) tlv.padded))

-- those of an operation
abbrev pub operation_visits : Operation → TlvItem → List Visit
operation_visits (operation.Paths kind) tlv =
    walk (data_visits (path_visits kind 16)) (path false) (end_of tlv) (tlvs (tlv.place + 4) tlv.padded)
operation_visits operation.Commit tlv = visit tlv.place (unless (length tlv.body == 0) (faults.WrongBody tlv.place)) ∷ []
operation_visits operation.Trcomp tlv = visit tlv.place (unless (length tlv.body == 0) (faults.WrongBody tlv.place)) ∷ []
operation_visits operation.CommitResponse tlv =
    walk outcome_visits (only types.outcome) (end_of tlv) (tlvs (tlv.place + 4) tlv.padded)

abbrev pub oper_visits_by : Option Operation → TlvItem → List Visit
oper_visits_by (Some which) tlv = operation_visits which tlv
oper_visits_by None tlv = []

abbrev pub oper_visits : ℕ → TlvItem → List Visit
oper_visits message tlv = oper_visits_by (operation_of message tlv.kind) tlv

-- those of a TLV of a message of a type, which is to be an LFBselect
abbrev pub select_visits : ℕ → TlvItem → List Visit
select_visits message tlv =
    visit tlv.place (unless (not (not (tlv.kind == types.select) || not (holds_selects message))) (misplaced tlv))
    ∷ visit tlv.place (unless (not (nat_lt (length tlv.body) 8)) (faults.Wire (wire.TlvShort tlv.place)))
    ∷ walk (oper_visits message) (oper message false) (end_of tlv) (tlvs (tlv.place + 12) (drop 8 tlv.padded))
