use Rattle.fc_msg.proofs.Reading.{once, proper, read}
use Rattle.fc_msg.proofs.laws.message_is_unique.Goals as goal

pub returns-clause-read : goal.returns-clause-read
returns-clause-read c = read

pub returns-clause-one : goal.returns-clause-one
returns-clause-one c = once

pub returns-clause-proper : goal.returns-clause-proper
returns-clause-proper c = proper
