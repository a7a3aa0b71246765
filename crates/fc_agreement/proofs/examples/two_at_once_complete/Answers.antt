use Rattle.std.proofs.Common.{refl}
use Rattle.fc_agreement.proofs.examples.two_at_once_complete.Goals as goal

pub returns-clause-first : goal.returns-clause-first
unfolding Rattle.fc_protocol.specs.Collections.put
returns-clause-first c = refl

pub returns-clause-first_next : goal.returns-clause-first_next
unfolding Rattle.fc_protocol.specs.Collections.put
returns-clause-first_next c = refl

pub returns-clause-second : goal.returns-clause-second
unfolding Rattle.fc_protocol.specs.Collections.put
returns-clause-second c = refl

pub returns-clause-second_next : goal.returns-clause-second_next
unfolding Rattle.fc_protocol.specs.Collections.put
returns-clause-second_next c = refl

pub returns-clause-job : goal.returns-clause-job
unfolding Rattle.fc_protocol.specs.Collections.put
returns-clause-job c = refl

pub returns-clause-next_job : goal.returns-clause-next_job
unfolding Rattle.fc_protocol.specs.Collections.put
returns-clause-next_job c = refl

pub returns-clause-sent : goal.returns-clause-sent
unfolding Rattle.fc_protocol.specs.Collections.put
returns-clause-sent c = refl
