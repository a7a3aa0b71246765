use Rattle.fc_documents.proofs.Sizing.{plan_where, begun_where}
use Rattle.fc_documents.proofs.laws.only_size_forbids_beginning.Goals as goal

pub returns-clause-scopes : goal.returns-clause-scopes
returns-clause-scopes c = plan_where

pub returns-clause-begun : goal.returns-clause-begun
returns-clause-begun c = begun_where
