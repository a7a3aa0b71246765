-- What an element sends for a Config: the response, to the peer over which it came, and what tells of events. RFC 5810, sections 6.1 and 7.8.
use Rattle.std.specs.Prelude.{◌≡◌, ℕ, true, false, List, [], ◌∷◌, Option, Some, None}
use Rattle.fc_msg.specs.Messages.{IsProper, message_fits}
use Rattle.fc_msg.specs.declared.message.Message.{Message}
use Rattle.fc_msg.specs.declared.message.MsgBody.TheVariants.{Event}
use Rattle.fc_path.specs.declared.oper.Select.{Select}
use Rattle.fc_wire.specs.Flags.{FlagValues}
use Rattle.fc_performing.specs.declared.out.Out.{Out}

-- flags that ask for this acknowledgement and nothing else
abbrev pub asking : ℕ → FlagValues
asking ack = record { ack = ack; pri = 0; em = 0; at = false; tp = 0 }

abbrev pub out : ℕ → Message → Out
out peer m = record { peer = peer; message = m }

-- what tells of events answers nothing, and wants no answer
abbrev pub event_from : ℕ → ℕ → List Select → Message
event_from from to selects = record { source = from; dest = to; corr = 0; flags = asking 0; body = Event selects }

-- a response, if one is sent
abbrev pub responses : ℕ → Option Message → List Out
responses peer None = []
responses peer (Some r) = out peer r ∷ []

-- a message that has a spelling: no length in it is too long for its field
abbrev pub CanBeSent : Out → Type 0
CanBeSent o = message_fits o.message ≡ true

-- a message that the grammar has, and so one that is decoded as itself
abbrev pub IsSaid : Out → Type 0
IsSaid o = IsProper o.message

-- a response that the grammar has and that has a spelling, if there is one
abbrev pub IsAnswer : Option Message → Type 0
IsAnswer None = Unit {0}
IsAnswer (Some r) = IsProper r × (message_fits r ≡ true)
