use Rattle.std.proofs.Common.{rules}
use Rattle.fc_documents.proofs.Keeping.{plan_is}
use Rattle.fc_documents.proofs.document.plan_in.Goals as goal

pub invariant_of-result : goal.invariant_of-result
invariant_of-result c = plan_is c.args.tables _ (search rules)
