use Rattle.fc_transactions.proofs.Rests.{set_marked}
use Rattle.fc_transactions.proofs.resting.mark_scope.Goals as goal

pub returns-clause-marked : goal.returns-clause-marked
returns-clause-marked c = set_marked c.mark_for.result c.args.scope.now c.args.store.now c.mark_for.new.self c.mark_for.ensures.ok c.mark_for.ensures.marked
