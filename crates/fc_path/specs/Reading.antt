-- What reading gives: the select that a TLV is, or the first rule in reading order that it breaks, with its place. RFC
-- 5810, sections 7.1 and 7.1.5 to 7.1.8, on the bytes; the faults and their order are this profile's own.
use Rattle.std.specs.Prelude.{ℕ, zero, suc, ◌+◌, ◌*◌, ◌/◌, ◌^◌, ◌==◌, ◌&&◌, ◌||◌, not, Bool, nat_lt, List, [], ◌∷◌, length, drop, map, slice_index, Option, Some, None, Result, Ok, Err, if◌then◌else◌}
use Rattle.fc_wire.specs.Bytes.{u16_at, u32_at}
use Rattle.fc_wire.specs.Tlvs.{TlvItem, tlvs}
use Rattle.fc_wire.specs.Ilvs.{IlvItem, ilvs}
use Rattle.fc_wire.specs.Types as types
use Rattle.fc_wire.specs.declared.header.WireFault.{WireFault}
use Rattle.fc_wire.specs.declared.header.WireFault.TheVariants as wire
use Rattle.fc_wire.specs.declared.ilvs.Ilv.{Ilv}
use Rattle.fc_path.specs.Kinds.{is_known, in_select, operation_of, holds_selects, takes_nothing, takes_full, takes_sparse, takes_outcome}
use Rattle.fc_base.specs.Answers.{◌>>=◌}
use Rattle.fc_path.specs.Stray.{misplaced, beside, trailing, shut}
use Rattle.fc_path.specs.declared.fault.PathFault.{PathFault}
use Rattle.fc_path.specs.declared.fault.PathFault.TheVariants as faults
use Rattle.fc_path.specs.declared.kinds.Operation.{Operation}
use Rattle.fc_path.specs.declared.kinds.Operation.TheVariants as operation
use Rattle.fc_path.specs.declared.oper.OperKind.{OperKind}
use Rattle.fc_path.specs.declared.oper.Oper.{Oper}
use Rattle.fc_path.specs.declared.oper.Oper.TheVariants as oper
use Rattle.fc_path.specs.declared.oper.Select.{Select}
use Rattle.fc_path.specs.declared.path.Key.{Key}
use Rattle.fc_path.specs.declared.path.PathData.{PathData, roll-PathData}
use Rattle.fc_path.specs.declared.path.Body.{Body}
use Rattle.fc_path.specs.declared.path.Body.TheVariants as body

-- where a container ends
abbrev pub end_of : TlvItem → ℕ
end_of tlv = tlv.place + 4 + length tlv.padded

-- each of the TLVs is read, in their order
abbrev pub each_in : {X : Type 0} → (TlvItem → Result X PathFault) → List TlvItem → Option WireFault → Result (List X) PathFault
each_in one [] None = Ok []
each_in one [] (Some fault) = Err (faults.Wire fault)
each_in one (tlv ∷ tlvs) fault = one tlv >>= λ x. each_in one tlvs fault >>= λ xs. Ok (x ∷ xs)

-- the same, and there is at least one before the end
abbrev pub some_in : {X : Type 0} → (TlvItem → Result X PathFault) → ℕ → List TlvItem → Option WireFault → Result (List X) PathFault
some_in one end [] None = Err (faults.WrongBody end)
some_in one end [] (Some fault) = Err (faults.Wire fault)
some_in one end (tlv ∷ tlvs) fault = each_in one (tlv ∷ tlvs) fault

-- there is one TLV before the end, of this type, and it is read
abbrev pub single : {X : Type 0} → ℕ → (TlvItem → Result X PathFault) → ℕ → List TlvItem → Option WireFault → Result X PathFault
single kind one end [] None = Err (faults.WrongBody end)
single kind one end [] (Some fault) = Err (faults.Wire fault)
single kind one end (tlv ∷ tlvs) fault =
    if tlv.kind == kind then one tlv >>= (λ x. shut trailing tlvs fault >>= λ _. Ok x) else Err (misplaced tlv)

-- a FULLDATA
abbrev pub full_at : TlvItem → Result (List ℕ) PathFault
full_at tlv = Ok tlv.body

-- a RESULT, of which three bytes are free
abbrev pub outcome_at : TlvItem → Result ℕ PathFault
outcome_at tlv = if length tlv.body == 4 then Ok (slice_index tlv.body 0) else Err (faults.WrongBody tlv.place)

-- a SPARSEDATA
abbrev pub own : IlvItem → Ilv
own ilv = record { ident = ilv.ident; value = ilv.body }

abbrev pub sparse_in : List IlvItem → Option WireFault → Result (List Ilv) PathFault
sparse_in ilvs None = Ok (map own ilvs)
sparse_in ilvs (Some fault) = Err (faults.Wire fault)

abbrev pub sparse_at : TlvItem → Result (List Ilv) PathFault
sparse_at tlv = sparse_in (ilvs (tlv.place + 4) tlv.padded).items (ilvs (tlv.place + 4) tlv.padded).fault

-- a KEYINFO
abbrev pub key_at : TlvItem → Result Key PathFault
key_at tlv =
    if nat_lt (length tlv.body) 4 then Err (faults.Wire (wire.TlvShort tlv.place))
    else single types.full_data full_at (end_of tlv) (tlvs (tlv.place + 8) (drop 4 tlv.padded)).items (tlvs (tlv.place + 8) (drop 4 tlv.padded)).fault
    >>= λ value. Ok (record { ident = u32_at tlv.padded 0; value = value })

-- the body of a PATH-DATA that holds no others
abbrev pub leaf_at : OperKind → TlvItem → Result Body PathFault
leaf_at kind tlv =
    if tlv.kind == types.full_data && takes_full kind then Ok (body.Full tlv.body)
    else (if tlv.kind == types.sparse_data && takes_sparse kind then sparse_at tlv >>= (λ ilvs. Ok (body.Sparse ilvs))
    else (if tlv.kind == types.outcome && takes_outcome kind then outcome_at tlv >>= (λ code. Ok (body.Outcome code))
    else Err (misplaced tlv)))

-- a PATH-DATA, where no other TLV may stand
abbrev pub path_or : (TlvItem → PathFault) → (TlvItem → Result PathData PathFault) → TlvItem → Result PathData PathFault
path_or stray one tlv = if tlv.kind == types.path_data then one tlv else Err (stray tlv)

-- the PATH-DATA that a PATH-DATA holds, after the first of them
abbrev pub nested_in : (TlvItem → Result PathData PathFault) → TlvItem → List TlvItem → Option WireFault → Result (List PathData) PathFault
nested_in one first tlvs fault = one first >>= λ path. each_in (path_or beside one) tlvs fault >>= λ paths. Ok (path ∷ paths)

-- the body of a PATH-DATA with an end, by what reads one that it holds
abbrev pub body_in : OperKind → (TlvItem → Result PathData PathFault) → ℕ → List TlvItem → Option WireFault → Result Body PathFault
body_in kind one end [] None = if takes_nothing kind then Ok body.Nothing else Err (faults.WrongBody end)
body_in kind one end [] (Some fault) = Err (faults.Wire fault)
body_in kind one end (tlv ∷ tlvs) fault =
    if tlv.kind == types.path_data then nested_in one tlv tlvs fault >>= (λ paths. Ok (body.Nested paths))
    else leaf_at kind tlv >>= (λ leaf. shut beside tlvs fault >>= λ _. Ok leaf)

-- what stands behind the IDs of the PATH-DATA at a place: a KEYINFO exactly where the key flag is set, and the body
abbrev pub content_in : OperKind → (TlvItem → Result PathData PathFault) → ℕ → Bool → ℕ → List TlvItem → Option WireFault → Result (Option Key × Body) PathFault
content_in kind one place keyed end [] None =
    if keyed then Err (faults.KeyFlag (place + 4)) else body_in kind one end [] None >>= (λ b. Ok (None, b))
content_in kind one place keyed end [] (Some fault) = Err (faults.Wire fault)
content_in kind one place keyed end (tlv ∷ tlvs) fault =
    if not (is_known tlv.kind) then Err (faults.UnknownTlv tlv.place)
    else (if keyed
    then (if tlv.kind == types.key_info then key_at tlv >>= (λ key. body_in kind one end tlvs fault >>= λ b. Ok (Some key, b))
    else Err (faults.KeyFlag (place + 4)))
    else (if tlv.kind == types.key_info then Err (faults.KeyFlag (place + 4))
    else body_in kind one end (tlv ∷ tlvs) fault >>= (λ b. Ok (None, b))))

-- so many numbers of four bytes
abbrev pub numbers : ℕ → List ℕ → List ℕ
numbers zero bytes = []
numbers (suc n) bytes = u32_at bytes 0 ∷ numbers n (drop 4 bytes)

-- a PATH-DATA, below which so many levels less one may stand
abbrev pub path_at : OperKind → ℕ → TlvItem → Result PathData PathFault
path_at kind zero tlv = Err (faults.Deep tlv.place)
path_at kind (suc depth) tlv =
    if nat_lt (length tlv.padded) 4 || nat_lt (length tlv.padded) (4 + 4 * u16_at tlv.padded 2) then Err (faults.CountPast tlv.place)
    else content_in kind (path_at kind depth) tlv.place (u16_at tlv.padded 0 / 2 ^ 15 == 1) (end_of tlv)
    (tlvs (tlv.place + 8 + 4 * u16_at tlv.padded 2) (drop (4 + 4 * u16_at tlv.padded 2) tlv.padded)).items
    (tlvs (tlv.place + 8 + 4 * u16_at tlv.padded 2) (drop (4 + 4 * u16_at tlv.padded 2) tlv.padded)).fault
    >>= λ content. Ok (roll-PathData (record { ids = numbers (u16_at tlv.padded 2) (drop 4 tlv.padded); key = content.0; body = content.1 }))

-- a TLV that is an operation
abbrev pub operation_at : Operation → TlvItem → Result Oper PathFault
operation_at (operation.Paths kind) tlv =
    some_in (path_or misplaced (path_at kind 16)) (end_of tlv) (tlvs (tlv.place + 4) tlv.padded).items (tlvs (tlv.place + 4) tlv.padded).fault
    >>= λ paths. Ok (oper.Paths kind paths)
operation_at operation.Commit tlv = if length tlv.body == 0 then Ok oper.Commit else Err (faults.WrongBody tlv.place)
operation_at operation.Trcomp tlv = if length tlv.body == 0 then Ok oper.Trcomp else Err (faults.WrongBody tlv.place)
operation_at operation.CommitResponse tlv =
    single types.outcome outcome_at (end_of tlv) (tlvs (tlv.place + 4) tlv.padded).items (tlvs (tlv.place + 4) tlv.padded).fault
    >>= λ code. Ok (oper.CommitResponse code)

-- a TLV that may be an operation, or one that may not stand inside an LFBselect
abbrev pub oper_by : Option Operation → TlvItem → Result Oper PathFault
oper_by (Some which) tlv = operation_at which tlv
oper_by None tlv = Err (if in_select tlv.kind then faults.WrongBody tlv.place else faults.UnknownTlv tlv.place)

abbrev pub oper_at : ℕ → TlvItem → Result Oper PathFault
oper_at message tlv = oper_by (operation_of message tlv.kind) tlv

-- an LFBselect of a message of a type
abbrev pub select_at : ℕ → TlvItem → Result Select PathFault
select_at message tlv =
    if not (tlv.kind == types.select) || not (holds_selects message) then Err (misplaced tlv)
    else (if nat_lt (length tlv.body) 8 then Err (faults.Wire (wire.TlvShort tlv.place))
    else some_in (oper_at message) (end_of tlv) (tlvs (tlv.place + 12) (drop 8 tlv.padded)).items (tlvs (tlv.place + 12) (drop 8 tlv.padded)).fault
    >>= (λ opers. Ok (record { class = u32_at tlv.padded 0; instance = u32_at tlv.padded 4; opers = opers })))
