use Rattle.std.proofs.Common.{refl}
use Rattle.fc_agreement.proofs.examples.refused_change_aborts.Goals as goal

pub returns-clause-element : goal.returns-clause-element
unfolding Rattle.fc_protocol.specs.Collections.put
returns-clause-element c = refl

pub returns-clause-job : goal.returns-clause-job
unfolding Rattle.fc_protocol.specs.Collections.put
returns-clause-job c = refl

pub returns-clause-sent : goal.returns-clause-sent
unfolding Rattle.fc_protocol.specs.Collections.put
returns-clause-sent c = refl
