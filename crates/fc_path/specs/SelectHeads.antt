-- What reading lends of LFBselects and operations before what they hold is read. RFC 5810, sections 7.1.5 and 7.1.6; the
-- faults and their order are this profile's own.
use Rattle.std.specs.Prelude.{ℕ, ◌+◌, ◌==◌, ◌||◌, not, nat_lt, length, drop, Option, Some, None, Result, Ok, Err, if◌then◌else◌}
use Rattle.fc_base.specs.Answers.{◌>>=◌}
use Rattle.fc_wire.specs.Bytes.{u32_at}
use Rattle.fc_wire.specs.Tlvs.{TlvItem, tlvs}
use Rattle.fc_wire.specs.Types as types
use Rattle.fc_wire.specs.declared.header.WireFault.TheVariants as wire
use Rattle.fc_path.specs.Kinds.{holds_selects, in_select, operation_of}
use Rattle.fc_path.specs.Stray.{misplaced}
use Rattle.fc_path.specs.Reading.{end_of, oper_at, outcome_at, path_at, path_or, single, some_in}
use Rattle.fc_path.specs.declared.fault.PathFault.{PathFault}
use Rattle.fc_path.specs.declared.fault.PathFault.TheVariants as faults
use Rattle.fc_path.specs.declared.kinds.Operation.{Operation}
use Rattle.fc_path.specs.declared.kinds.Operation.TheVariants as operation
use Rattle.fc_path.specs.declared.oper.Oper.{Oper}
use Rattle.fc_path.specs.declared.oper.Oper.TheVariants as oper
use Rattle.fc_path.specs.declared.oper.Select.{Select}
use Rattle.fc_path.specs.declared.select_heads.OperHead.{OperHead}
use Rattle.fc_path.specs.declared.select_heads.OperHead.TheVariants as head
use Rattle.fc_path.specs.declared.select_heads.SelectHead.{SelectHead}

-- the head of an operation: which one it is, and what is left for the PATH-DATA that it holds
abbrev pub operation_head_at : Operation → TlvItem → Result OperHead PathFault
operation_head_at (operation.Paths kind) tlv = Ok (head.Paths kind (tlvs (tlv.place + 4) tlv.padded) (end_of tlv))
operation_head_at operation.Commit tlv = if length tlv.body == 0 then Ok head.Commit else Err (faults.WrongBody tlv.place)
operation_head_at operation.Trcomp tlv = if length tlv.body == 0 then Ok head.Trcomp else Err (faults.WrongBody tlv.place)
operation_head_at operation.CommitResponse tlv =
    single types.outcome outcome_at (end_of tlv) (tlvs (tlv.place + 4) tlv.padded).items (tlvs (tlv.place + 4) tlv.padded).fault
    >>= λ code. Ok (head.CommitResponse code)

abbrev pub oper_head_by : Option Operation → TlvItem → Result OperHead PathFault
oper_head_by (Some which) tlv = operation_head_at which tlv
oper_head_by None tlv = Err (if in_select tlv.kind then faults.WrongBody tlv.place else faults.UnknownTlv tlv.place)

abbrev pub oper_head_at : ℕ → TlvItem → Result OperHead PathFault
oper_head_at message tlv = oper_head_by (operation_of message tlv.kind) tlv

-- an operation of this head, with what it holds
abbrev pub with_paths : OperHead → Result Oper PathFault
with_paths (head.Paths kind paths end) =
    some_in (path_or misplaced (path_at kind 16)) end paths.items paths.fault >>= λ paths. Ok (oper.Paths kind paths)
with_paths head.Commit = Ok oper.Commit
with_paths head.Trcomp = Ok oper.Trcomp
with_paths (head.CommitResponse code) = Ok (oper.CommitResponse code)

-- the head of an LFBselect of a message of a type: its class, its instance, and what is left for its operations
abbrev pub select_head_at : ℕ → TlvItem → Result SelectHead PathFault
select_head_at message tlv =
    if not (tlv.kind == types.select) || not (holds_selects message) then Err (misplaced tlv)
    else (if nat_lt (length tlv.body) 8 then Err (faults.Wire (wire.TlvShort tlv.place))
    else Ok (record {
      class = u32_at tlv.padded 0;
      instance = u32_at tlv.padded 4;
      opers = tlvs (tlv.place + 12) (drop 8 tlv.padded);
      end = end_of tlv;
    }))

-- an LFBselect of this head, with its operations
abbrev pub with_opers : ℕ → SelectHead → Result Select PathFault
with_opers message head =
    some_in (oper_at message) head.end head.opers.items head.opers.fault
    >>= λ opers. Ok (record { class = head.class; instance = head.instance; opers = opers })

-- operations and LFBselects by their heads and then what they hold
abbrev pub oper_by_head : ℕ → TlvItem → Result Oper PathFault
oper_by_head message tlv = oper_head_at message tlv >>= with_paths

abbrev pub select_by_head : ℕ → TlvItem → Result Select PathFault
select_by_head message tlv = select_head_at message tlv >>= with_opers message
