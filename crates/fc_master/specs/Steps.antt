-- What a master does with what comes, as the protocol's master does it (RFC 5810, sections 7.2, 7.5 to 7.7 and 7.10, in this profile).
use Rattle.std.specs.Prelude.{ℕ, ◌==◌, false, List, [], ◌∷◌, ◌++◌, if◌then◌else◌}
use Rattle.fc_msg.specs.declared.message.Message.{Message}
use Rattle.fc_msg.specs.declared.message.MsgBody.{MsgBody}
use Rattle.fc_msg.specs.declared.message.MsgBody.TheVariants as body
use Rattle.fc_protocol.specs.Collections.{among}
use Rattle.fc_protocol.specs.Messages.{Reply, Setup, stamp}
use Rattle.fc_protocol.specs.MasterMachine.{Master as Core, Speaks, again, finish, heard}
use Rattle.fc_asks.specs.Codes.{response_code}
use Rattle.fc_asks.specs.declared.life.Life.{Life}
use Rattle.fc_jobs.specs.Answers.{answered}
use Rattle.fc_jobs.specs.Sending.{out, spelled}
use Rattle.fc_jobs.specs.declared.sending.CeOut.{CeOut}
use Rattle.fc_wire.specs.Flags.{FlagValues}
use Rattle.fc_master.specs.declared.input.CeIn.{CeIn}
use Rattle.fc_master.specs.declared.input.CeIn.TheVariants as input

-- nothing is wanted
abbrev pub quiet : FlagValues
quiet = record { ack = 0; pri = 0; em = 0; at = false; tp = 0 }

-- an association is granted to an element of the master, with the result 0, and to nobody else
abbrev pub setup_response : Life → ℕ → ℕ → ℕ → CeOut
setup_response life p corr result = out p (record { source = life.ce; dest = p; corr = corr; flags = quiet; body = body.SetupResponse result })

-- a heartbeat that asks for an answer is answered, with the IDs exchanged
abbrev pub heartbeat_answer : ℕ → Message → List CeOut
heartbeat_answer p msg = if msg.flags.ack == 3 then out p (record { source = msg.dest; dest = msg.source; corr = msg.corr; flags = quiet; body = body.Heartbeat }) ∷ [] else []

-- the master after a message of p, before it decides and sends
abbrev pub heard_of : Core → ℕ → ℕ → MsgBody → Core
heard_of m p corr (body.Setup selects) = heard m p Setup
heard_of m p corr (body.SetupResponse result) = m
heard_of m p corr (body.Teardown reason) = m
heard_of m p corr (body.Config selects) = m
heard_of m p corr (body.ConfigResponse selects) = heard m p (Reply (stamp corr) (response_code selects))
heard_of m p corr (body.Query selects) = m
heard_of m p corr (body.QueryResponse selects) = answered m p corr selects
heard_of m p corr (body.Event selects) = m
heard_of m p corr body.Heartbeat = m

-- the response to a wish for an association, and then what waits there again
abbrev pub greeting : Life → Core → ℕ → ℕ → List CeOut
greeting life m p corr = if among p m.elements then setup_response life p corr 0 ∷ spelled life (again 0 p (m.at p).waits) else setup_response life p corr 1 ∷ []

-- what is said to it at once: the response to a wish for an association, and then what waits there again; the answer to a heartbeat
abbrev pub at_once_to : Life → Core → ℕ → Message → MsgBody → List CeOut
at_once_to life m p msg (body.Setup selects) = greeting life m p msg.corr
at_once_to life m p msg (body.SetupResponse result) = []
at_once_to life m p msg (body.Teardown reason) = []
at_once_to life m p msg (body.Config selects) = []
at_once_to life m p msg (body.ConfigResponse selects) = []
at_once_to life m p msg (body.Query selects) = []
at_once_to life m p msg (body.QueryResponse selects) = []
at_once_to life m p msg (body.Event selects) = []
at_once_to life m p msg body.Heartbeat = heartbeat_answer p msg

-- the master of the controller k after an input, and what it says as the protocol's master
abbrev pub stepped : ℕ → Core → CeIn → Speaks
stepped k m (input.Arrived p msg) = finish k (heard_of m p msg.corr msg.body)
stepped k m (input.Moment t) = finish k m

-- what it sends
abbrev pub said : Life → ℕ → Core → CeIn → List CeOut
said life k m (input.Arrived p msg) = at_once_to life m p msg msg.body ++ spelled life (finish k (heard_of m p msg.corr msg.body)).says
said life k m (input.Moment t) = spelled life (finish k m).says
