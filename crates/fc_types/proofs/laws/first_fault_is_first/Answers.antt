use Rattle.fc_types.proofs.Faults.{broken_is_first, all_kept}
use Rattle.fc_types.proofs.laws.first_fault_is_first.Goals as goal

pub returns-clause-broken : goal.returns-clause-broken
returns-clause-broken c = broken_is_first

pub returns-clause-kept : goal.returns-clause-kept
returns-clause-kept c = all_kept
