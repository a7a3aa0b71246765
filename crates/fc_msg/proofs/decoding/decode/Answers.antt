use Rattle.std.proofs.Common.{arith}
use Rattle.fc_wire.proofs.Spelled.{bytes_all}
use Rattle.fc_msg.proofs.FaultPlaces.{gives_within}
use Rattle.fc_msg.proofs.Reading.{gives_accepted, gives_exact, gives_only, gives_proper, gives_spelled}
use Rattle.fc_msg.proofs.decoding.decode.Goals as goal

pub returns-clause-found : goal.returns-clause-found
returns-clause-found c = gives_spelled c.args.bytes.now c.message_of.result (bytes_all c.args.bytes.now (λ i. omega (arith, c.type_inv.bytes i))) c.message_of.ensures.found

pub returns-clause-proper : goal.returns-clause-proper
returns-clause-proper c = gives_proper c.args.bytes.now c.message_of.result (bytes_all c.args.bytes.now (λ i. omega (arith, c.type_inv.bytes i))) c.message_of.ensures.found

pub returns-clause-only : goal.returns-clause-only
returns-clause-only c = gives_only c.args.bytes.now c.message_of.result c.message_of.ensures.found c.message_of.ensures.refused

pub returns-clause-exact : goal.returns-clause-exact
returns-clause-exact c = gives_exact c.args.bytes.now c.message_of.result c.message_of.ensures.found c.message_of.ensures.refused

pub returns-clause-accepted : goal.returns-clause-accepted
returns-clause-accepted c = gives_accepted c.args.bytes.now c.message_of.result c.message_of.ensures.found

pub returns-clause-within : goal.returns-clause-within
returns-clause-within c = gives_within c.args.bytes.now c.message_of.result (bytes_all c.args.bytes.now (λ i. omega (arith, c.type_inv.bytes i))) c.message_of.ensures.refused
