use Rattle.std.proofs.Common.{refl}
use Rattle.fc_agreement.proofs.examples.failover_completes.Goals as goal

pub returns-clause-first : goal.returns-clause-first
unfolding Rattle.fc_protocol.specs.Collections.put
returns-clause-first c = refl

pub returns-clause-second : goal.returns-clause-second
unfolding Rattle.fc_protocol.specs.Collections.put
returns-clause-second c = refl

pub returns-clause-stopped : goal.returns-clause-stopped
unfolding Rattle.fc_protocol.specs.Collections.put
returns-clause-stopped c = refl

pub returns-clause-job : goal.returns-clause-job
unfolding Rattle.fc_protocol.specs.Collections.put
returns-clause-job c = refl

pub returns-clause-late : goal.returns-clause-late
unfolding Rattle.fc_protocol.specs.Collections.put
returns-clause-late c = refl
