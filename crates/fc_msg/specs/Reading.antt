-- The message in bytes as a function, which is the one that they spell: RFC 5810, section 7.
use Rattle.std.specs.Prelude.{◌≡◌, ℕ, ◌/◌, ◌%◌, ◌^◌, ◌==◌, List, ⊤, Option, Some, None, Result, Ok, Err}
use Rattle.fc_wire.specs.Bytes.{u32_at, u64_at}
use Rattle.fc_wire.specs.Flags.{FlagValues}
use Rattle.fc_path.specs.declared.fault.PathFault.{PathFault}
use Rattle.fc_msg.specs.declared.fault.MsgFault.{MsgFault}
use Rattle.fc_msg.specs.declared.fault.MsgFault.TheVariants.{At, Memory}
use Rattle.fc_msg.specs.declared.fault.Refusal.{Refusal}
use Rattle.fc_msg.specs.declared.message.Message.{Message}
use Rattle.fc_msg.specs.declared.message.MsgBody.{MsgBody}
use Rattle.fc_msg.specs.Faults.{body_in, head_fault}

-- the flags in a word
abbrev pub flags_in : ℕ → FlagValues
flags_in word = record {
  ack = word / 2 ^ 30;
  pri = word / 2 ^ 27 % 8;
  em = word / 2 ^ 22 % 4;
  at = word / 2 ^ 21 % 2 == 1;
  tp = word / 2 ^ 19 % 4;
}

-- a message with this body, whose other fields stand at their places
abbrev pub fields_in : List ℕ → MsgBody → Message
fields_in bytes body = record {
  source = u32_at bytes 4;
  dest = u32_at bytes 8;
  corr = u64_at bytes 12;
  flags = flags_in (u32_at bytes 20);
  body = body;
}

abbrev pub unless_broken : Option Refusal → Result MsgBody PathFault → List ℕ → Option Message
unless_broken (Some told) read bytes = None
unless_broken None (Ok body) bytes = Some (fields_in bytes body)
unless_broken None (Err fault) bytes = None

-- the message in bytes that break no rule
unfoldable pub message_in : List ℕ → Option Message
message_in bytes = unless_broken (head_fault bytes) (body_in bytes) bytes

-- an answer of decoding tells what is in the bytes, unless it is out of memory
abbrev pub Tells : Option Message → Result Message MsgFault → Type 0
Tells found (Ok m) = found ≡ Some m
Tells found (Err (At told)) = found ≡ None
Tells found (Err Memory) = ⊤
