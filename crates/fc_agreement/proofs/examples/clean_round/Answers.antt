use Rattle.std.proofs.Common.{refl}
use Rattle.fc_agreement.proofs.Claimed.{able_law}
use Rattle.fc_agreement.proofs.examples.clean_round.Goals as goal

pub returns-clause-first : goal.returns-clause-first
unfolding Rattle.fc_protocol.specs.Collections.put
returns-clause-first c = refl

pub returns-clause-second : goal.returns-clause-second
unfolding Rattle.fc_protocol.specs.Collections.put
returns-clause-second c = refl

pub returns-clause-job : goal.returns-clause-job
unfolding Rattle.fc_protocol.specs.Collections.put
returns-clause-job c = refl

pub returns-clause-sent : goal.returns-clause-sent
unfolding Rattle.fc_protocol.specs.Collections.put
returns-clause-sent c = refl

pub returns-clause-able : goal.returns-clause-able
returns-clause-able c = able_law
