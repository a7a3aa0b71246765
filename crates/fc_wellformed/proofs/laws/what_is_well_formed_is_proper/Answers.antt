use Rattle.fc_wellformed.proofs.Controlled.{refusal_good, well_formed_is_proper}
use Rattle.fc_wellformed.proofs.laws.what_is_well_formed_is_proper.Goals as goal

pub returns-clause-refusal : goal.returns-clause-refusal
returns-clause-refusal c = refusal_good

pub returns-clause-proper : goal.returns-clause-proper
returns-clause-proper c = well_formed_is_proper
