use Rattle.std.proofs.Common.{◌≡◌, ◌++◌, drop}
use Rattle.fc_control.specs.ControlNode.{come}
use Rattle.fc_control.proofs.plans.come.Given as goal

abbrev pub invariant-loop-txn : goal.invariant-loop-txn
invariant-loop-txn l = l.txns ++ come l.now l.rest (drop l.txn-index l.begun) ≡ come l.now l.plan l.begun
