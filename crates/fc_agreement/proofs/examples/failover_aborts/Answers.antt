use Rattle.std.proofs.Common.{refl}
use Rattle.fc_agreement.proofs.examples.failover_aborts.Goals as goal

pub returns-clause-first : goal.returns-clause-first
unfolding Rattle.fc_protocol.specs.Collections.put
returns-clause-first c = refl

pub returns-clause-second : goal.returns-clause-second
unfolding Rattle.fc_protocol.specs.Collections.put
returns-clause-second c = refl

pub returns-clause-late : goal.returns-clause-late
unfolding Rattle.fc_protocol.specs.Collections.put
returns-clause-late c = refl
