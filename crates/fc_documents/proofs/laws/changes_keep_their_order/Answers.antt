use Rattle.fc_documents.proofs.Grouping.{participants_listed}
use Rattle.fc_documents.proofs.Ordering.{changes_in_order}
use Rattle.fc_documents.proofs.laws.changes_keep_their_order.Goals as goal

pub returns-clause-participants : goal.returns-clause-participants
returns-clause-participants c = participants_listed

pub returns-clause-changes : goal.returns-clause-changes
returns-clause-changes c = changes_in_order
