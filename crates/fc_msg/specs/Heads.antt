-- What reading lends of a message before its LFBselects are read: RFC 5810, sections 6.1 and 7.5 to 7.10.
use Rattle.std.specs.Prelude.{ℕ, ◌==◌, if◌then◌else◌, List, Option, Some, None, Result, Ok, Err}
use Rattle.fc_base.specs.Answers.{◌>>=◌}
use Rattle.fc_wire.specs.Tiling.{tiling}
use Rattle.fc_wire.specs.Tlvs.{TlvItem}
use Rattle.fc_wire.specs.declared.header.Header.{Header}
use Rattle.fc_wire.specs.declared.header.WireFault.{WireFault}
use Rattle.fc_path.specs.Reading.{each_in, select_at, single, some_in}
use Rattle.fc_path.specs.Stray.{shut, trailing}
use Rattle.fc_path.specs.declared.fault.PathFault.{PathFault}
use Rattle.fc_msg.specs.Bodies.{holding, number_at}
use Rattle.fc_msg.specs.MessageTypes as types
use Rattle.fc_msg.specs.declared.heads.BodyHead.{BodyHead}
use Rattle.fc_msg.specs.declared.heads.BodyHead.TheVariants as head
use Rattle.fc_msg.specs.declared.heads.FrameHead.{FrameHead}
use Rattle.fc_msg.specs.declared.message.Message.{Message}
use Rattle.fc_msg.specs.declared.message.MsgBody.{MsgBody}
use Rattle.fc_msg.specs.declared.message.MsgBody.TheVariants.{Setup, SetupResponse, Teardown, Heartbeat}

-- the head of a body of a type, whose TLVs go on to an end: all of it, or what is left for its LFBselects
abbrev pub body_head_at : ℕ → ℕ → List TlvItem → Option WireFault → Result BodyHead PathFault
body_head_at kind end tlvs fault =
    if kind == types.heartbeat then shut trailing tlvs fault >>= (λ _. Ok head.Heartbeat)
    else (if kind == types.setup_response then single types.as_result number_at end tlvs fault >>= (λ n. Ok (head.SetupResponse n))
    else (if kind == types.teardown then single types.as_reason number_at end tlvs fault >>= (λ n. Ok (head.Teardown n))
    else (if kind == types.setup then Ok (head.Setup (tiling tlvs fault)) else Ok (head.Selects kind (tiling tlvs fault) end))))

-- a body of this head, with its LFBselects
abbrev pub with_selects : BodyHead → Result MsgBody PathFault
with_selects head.Heartbeat = Ok Heartbeat
with_selects (head.SetupResponse result) = Ok (SetupResponse result)
with_selects (head.Teardown reason) = Ok (Teardown reason)
with_selects (head.Setup tlvs) = each_in (select_at types.setup) tlvs.items tlvs.fault >>= λ selects. Ok (Setup selects)
with_selects (head.Selects kind tlvs end) =
    some_in (select_at kind) end tlvs.items tlvs.fault >>= λ selects. Ok (holding kind selects)

-- a body by its head and then its LFBselects
abbrev pub body_by_head : ℕ → ℕ → List TlvItem → Option WireFault → Result MsgBody PathFault
body_by_head kind end tlvs fault = body_head_at kind end tlvs fault >>= with_selects

-- the message of a header and of what its body is read as
abbrev pub message_by : Header → Result MsgBody PathFault → Option Message
message_by h (Ok body) = Some (record { source = h.source; dest = h.dest; corr = h.corr; flags = h.flags; body = body })
message_by h (Err fault) = None

-- the message of this head, with its LFBselects
abbrev pub message_held : FrameHead → Option Message
message_held head = message_by head.header (with_selects head.body)
