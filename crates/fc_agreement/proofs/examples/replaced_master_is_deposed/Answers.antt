use Rattle.std.proofs.Common.{refl}
use Rattle.fc_agreement.proofs.examples.replaced_master_is_deposed.Goals as goal

pub returns-clause-deposed : goal.returns-clause-deposed
unfolding Rattle.fc_protocol.specs.Collections.put
returns-clause-deposed c = refl

pub returns-clause-dropped : goal.returns-clause-dropped
unfolding Rattle.fc_protocol.specs.Collections.put
returns-clause-dropped c = refl

pub returns-clause-refused : goal.returns-clause-refused
unfolding Rattle.fc_protocol.specs.Collections.put
returns-clause-refused c = refl
