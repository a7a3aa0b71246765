-- The body of a message of a type, and the first fault of it: RFC 5810, sections 7.5 to 7.10. That a body has nothing
-- else than what it needs is this profile's own.
use Rattle.std.specs.Prelude.{ℕ, ◌==◌, if◌then◌else◌, List, length, Option, Result, Ok, Err}
use Rattle.fc_wire.specs.Bytes.{u32_at}
use Rattle.fc_wire.specs.Tlvs.{TlvItem}
use Rattle.fc_wire.specs.declared.header.WireFault.{WireFault}
use Rattle.fc_path.specs.Reading.{each_in, select_at, single, some_in}
use Rattle.fc_base.specs.Answers.{◌>>=◌}
use Rattle.fc_path.specs.Stray.{shut, trailing}
use Rattle.fc_path.specs.declared.fault.PathFault.{PathFault}
use Rattle.fc_path.specs.declared.fault.PathFault.TheVariants as faults
use Rattle.fc_path.specs.declared.oper.Select.{Select}
use Rattle.fc_msg.specs.MessageTypes as types
use Rattle.fc_msg.specs.declared.message.MsgBody.{MsgBody}
use Rattle.fc_msg.specs.declared.message.MsgBody.TheVariants.{Setup, SetupResponse, Teardown, Config, ConfigResponse, Query, QueryResponse, Event, Heartbeat}

-- a result or a reason, in four bytes
abbrev pub number_at : TlvItem → Result ℕ PathFault
number_at tlv = if length tlv.body == 4 then Ok (u32_at tlv.body 0) else Err (faults.WrongBody tlv.place)

-- the body of a type that holds these selects
abbrev pub holding : ℕ → List Select → MsgBody
holding kind selects =
    if kind == types.config then Config selects
    else (if kind == types.config_response then ConfigResponse selects
    else (if kind == types.query then Query selects
    else (if kind == types.query_response then QueryResponse selects else (if kind == types.event then Event selects else Setup selects))))

-- the body of a type, whose TLVs go on to an end: a Heartbeat has none; a response or teardown has one with a number;
-- an AssociationSetup has any number of LFBselects, and every other type at least one
abbrev pub body_at : ℕ → ℕ → List TlvItem → Option WireFault → Result MsgBody PathFault
body_at kind end tlvs fault =
    if kind == types.heartbeat then shut trailing tlvs fault >>= (λ _. Ok Heartbeat)
    else (if kind == types.setup_response then single types.as_result number_at end tlvs fault >>= (λ n. Ok (SetupResponse n))
    else (if kind == types.teardown then single types.as_reason number_at end tlvs fault >>= (λ n. Ok (Teardown n))
    else (if kind == types.setup then each_in (select_at kind) tlvs fault >>= (λ selects. Ok (Setup selects))
    else some_in (select_at kind) end tlvs fault >>= (λ selects. Ok (holding kind selects)))))
