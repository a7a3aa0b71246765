use Rattle.std.proofs.Common.{arith}
use Rattle.fc_control.proofs.Planning.{come_end}
use Rattle.fc_control.proofs.plans.come.Goals as goal

pub returns : goal.returns
returns c = come_end c.loop-txn.txns _ c.args.now c.loop-txn.rest.now c.args.begun.now c.loop-txn.txn-index (omega arith) c.loop-txn.invariant
