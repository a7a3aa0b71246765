use Rattle.fc_types.proofs.Distinct.{ids_apart, ids_told, instances_apart, instances_told}
use Rattle.fc_types.proofs.laws.different_ids.Goals as goal

pub returns-clause-apart : goal.returns-clause-apart
returns-clause-apart c = ids_apart

pub returns-clause-told : goal.returns-clause-told
returns-clause-told c = ids_told

pub returns-clause-instances_apart : goal.returns-clause-instances_apart
returns-clause-instances_apart c = instances_apart

pub returns-clause-instances_told : goal.returns-clause-instances_told
returns-clause-instances_told c = instances_told
