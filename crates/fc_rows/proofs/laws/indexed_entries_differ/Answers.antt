use Rattle.fc_rows.proofs.IndexKeys.{indexed_differ}
use Rattle.fc_rows.proofs.laws.indexed_entries_differ.Goals as goal

pub returns : goal.returns
returns c = λ key m index h. indexed_differ key m index h
