use Rattle.std.proofs.Common.{length, ap, drop, arith}
use Rattle.fc_plans.proofs.Scoping.{by_longer}
use Rattle.fc_plans.proofs.scopes.named.Goals as goal

pub returns-then-len-gt-MOST_INSTANCES-clause-none : goal.returns-then-len-gt-MOST_INSTANCES-clause-none
returns-then-len-gt-MOST_INSTANCES-clause-none c =
    let b = by_longer (drop c.loop-change.change-index c.args.changes.now) c.loop-change.scope.items in
    omega (arith, b, ap length c.loop-change.invariant, c.len.ensures, c.if-len-gt-MOST_INSTANCES.true)
