use Rattle.std.proofs.Common.{refl}
use Rattle.fc_agreement.proofs.examples.restart_completes.Goals as goal

pub returns-clause-second : goal.returns-clause-second
unfolding Rattle.fc_protocol.specs.Collections.put
returns-clause-second c = refl

pub returns-clause-job : goal.returns-clause-job
unfolding Rattle.fc_protocol.specs.Collections.put
returns-clause-job c = refl

pub returns-clause-sent : goal.returns-clause-sent
unfolding Rattle.fc_protocol.specs.Collections.put
returns-clause-sent c = refl
