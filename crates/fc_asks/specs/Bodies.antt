-- What a control element asks, as the protocol's requests. This profile's own.
use Rattle.std.specs.Prelude.{ℕ, if◌then◌else◌, Option, Some, None}
use Rattle.fc_protocol.specs.Messages.{Body, Claim, Sot, Mot, Eot, Trcomp, Abt, Floor, Plain, Ask, Ask_record, is_query}
use Rattle.fc_asks.specs.declared.asks.Asks.{Asks}
use Rattle.fc_asks.specs.declared.asks.Asks.TheVariants as asks
use Rattle.fc_asks.specs.declared.asks.Question.{Question}
use Rattle.fc_asks.specs.declared.asks.Question.TheVariants as question

-- what a message of the life e asks for
abbrev pub body_of : ℕ → Asks → Body
body_of e asks.Claim = Claim e
body_of e (asks.Sot x ps sc) = Sot x ps sc
body_of e (asks.Mot x i) = Mot x i
body_of e (asks.Eot x) = Eot x
body_of e (asks.Trcomp x) = Trcomp x
body_of e (asks.Abt x) = Abt x
body_of e asks.Plain = Plain
body_of e (asks.Floor f) = Floor f
body_of e asks.Ask = Ask
body_of e (asks.Record x) = Ask_record x

-- what a question asks for
abbrev pub question_body : Question → Body
question_body question.Held = Ask
question_body (question.Record x) = Ask_record x

-- the request, where it is a Query
abbrev pub asked_by : Body → Option Body
asked_by b = if is_query b then Some b else None
