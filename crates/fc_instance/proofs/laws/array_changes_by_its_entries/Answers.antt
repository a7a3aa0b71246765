use Rattle.fc_instance.proofs.Bridge.{row_removed, rows_put}
use Rattle.fc_instance.proofs.laws.array_changes_by_its_entries.Goals as goal

pub returns-clause-put : goal.returns-clause-put
returns-clause-put c = rows_put

pub returns-clause-removed : goal.returns-clause-removed
returns-clause-removed c = row_removed
