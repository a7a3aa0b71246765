-- The response to a Config, and whether it is sent: RFC 5810, sections 6.1 and 7.6.2.
use Rattle.std.specs.Prelude.{ℕ, ◌==◌, not, Bool, true, false, List, [], ◌∷◌, Option, Some, None, if◌then◌else◌}
use Rattle.std.specs.List.{list_all}
use Rattle.fc_wire.specs.Flags.{FlagValues}
use Rattle.fc_path.specs.declared.oper.Select.{Select}
use Rattle.fc_msg.specs.declared.message.Message.{Message}
use Rattle.fc_msg.specs.declared.message.MsgBody.TheVariants.{ConfigResponse}
use Rattle.fc_reply.specs.Answered.{answered_selects}

abbrev pub is_success : ℕ → Bool
is_success code = code == 0

abbrev pub all_succeeded : List ℕ → Bool
all_succeeded codes = list_all is_success codes

-- whether a response with these codes is sent, by the acknowledgement that the request asks for: 0 never, 1 where all went well, 2 where
-- something did not, 3 always
abbrev pub is_wanted : ℕ → List ℕ → Bool
is_wanted ack codes =
    if ack == 0 then false
    else (if ack == 1 then all_succeeded codes else (if ack == 2 then not (all_succeeded codes) else true))

-- flags that ask for nothing
abbrev pub no_flags : FlagValues
no_flags = record { ack = 0; pri = 0; em = 0; at = false; tp = 0 }

-- the response: source and destination exchanged, the same correlator
abbrev pub response : Message → List Select → Message
response m selects = record { source = m.dest; dest = m.source; corr = m.corr; flags = no_flags; body = ConfigResponse selects }

-- one without a select is not sent
abbrev pub with_selects : Message → List ℕ → List Select → Option Message
with_selects m codes [] = None
with_selects m codes (s ∷ ss) = if is_wanted m.flags.ack codes then Some (response m (s ∷ ss)) else None

-- the response to a request with these selects, whose operations have these codes, in their order
abbrev pub reply : Message → List Select → List ℕ → Option Message
reply m selects codes = with_selects m codes (answered_selects selects codes)
