use Rattle.std.proofs.Common.{refl}
use Rattle.fc_agreement.proofs.examples.repeated_claim_claims_once.Goals as goal

pub returns-clause-facts : goal.returns-clause-facts
unfolding Rattle.fc_protocol.specs.Collections.put
returns-clause-facts c = refl

pub returns-clause-replies : goal.returns-clause-replies
unfolding Rattle.fc_protocol.specs.Collections.put
returns-clause-replies c = refl
