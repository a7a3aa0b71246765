use Rattle.std.proofs.Common.{refl}
use Rattle.fc_agreement.proofs.examples.refused_calls.Goals as goal

pub returns-clause-stranger : goal.returns-clause-stranger
unfolding Rattle.fc_protocol.specs.Collections.put
returns-clause-stranger c = refl

pub returns-clause-not_ready : goal.returns-clause-not_ready
unfolding Rattle.fc_protocol.specs.Collections.put
returns-clause-not_ready c = refl

pub returns-clause-busy : goal.returns-clause-busy
unfolding Rattle.fc_protocol.specs.Collections.put
returns-clause-busy c = refl

pub returns-clause-busy_plain : goal.returns-clause-busy_plain
unfolding Rattle.fc_protocol.specs.Collections.put
returns-clause-busy_plain c = refl

pub returns-clause-unknown : goal.returns-clause-unknown
unfolding Rattle.fc_protocol.specs.Collections.put
returns-clause-unknown c = refl

pub returns-clause-decided : goal.returns-clause-decided
unfolding Rattle.fc_protocol.specs.Collections.put
returns-clause-decided c = refl

pub returns-clause-busy_all : goal.returns-clause-busy_all
unfolding Rattle.fc_protocol.specs.Collections.put
returns-clause-busy_all c = refl

pub returns-clause-busy_there : goal.returns-clause-busy_there
unfolding Rattle.fc_protocol.specs.Collections.put
returns-clause-busy_there c = refl

pub returns-clause-apart : goal.returns-clause-apart
unfolding Rattle.fc_protocol.specs.Collections.put
returns-clause-apart c = refl

pub returns-clause-plain_busy : goal.returns-clause-plain_busy
unfolding Rattle.fc_protocol.specs.Collections.put
returns-clause-plain_busy c = refl

pub returns-clause-spent : goal.returns-clause-spent
unfolding Rattle.fc_protocol.specs.Collections.put
returns-clause-spent c = refl

pub returns-clause-unspent : goal.returns-clause-unspent
unfolding Rattle.fc_protocol.specs.Collections.put
returns-clause-unspent c = refl

pub returns-clause-forget_unsettled : goal.returns-clause-forget_unsettled
unfolding Rattle.fc_protocol.specs.Collections.put
returns-clause-forget_unsettled c = refl

pub returns-clause-forget_not_ready : goal.returns-clause-forget_not_ready
unfolding Rattle.fc_protocol.specs.Collections.put
returns-clause-forget_not_ready c = refl

pub returns-clause-forget_busy : goal.returns-clause-forget_busy
unfolding Rattle.fc_protocol.specs.Collections.put
returns-clause-forget_busy c = refl

pub returns-clause-begin_busy : goal.returns-clause-begin_busy
unfolding Rattle.fc_protocol.specs.Collections.put
returns-clause-begin_busy c = refl

pub returns-clause-forget_deposed : goal.returns-clause-forget_deposed
unfolding Rattle.fc_protocol.specs.Collections.put
returns-clause-forget_deposed c = refl

pub returns-clause-forget_spent : goal.returns-clause-forget_spent
unfolding Rattle.fc_protocol.specs.Collections.put
returns-clause-forget_spent c = refl

pub returns-clause-may_forget : goal.returns-clause-may_forget
unfolding Rattle.fc_protocol.specs.Collections.put
returns-clause-may_forget c = refl
