use Rattle.std.proofs.Common.{subst}
use Rattle.fc_value.specs.Outcomes.{Gives}
use Rattle.fc_value.proofs.SparseForms.{sparse_read, changes_of}
use Rattle.fc_value.proofs.sparse.read_sparse.Goals as goal

pub returns-clause-found : goal.returns-clause-found
returns-clause-found c = λ s fine. changes_of c.read_changes.result c.args.ty.now c.args.ilvs.now s fine c.read_changes.ensures

pub returns-clause-only : goal.returns-clause-only
returns-clause-only c = λ cs h. subst (Gives (λ l. l) c.read_changes.result) (sparse_read c.args.ty.now c.args.ilvs.now cs h) c.read_changes.ensures
