use Rattle.std.proofs.Common.{◌≡◌, ◌+◌, ◌++◌, drop}
use Rattle.fc_asks.specs.Requests.{instances_from}
use Rattle.fc_asks.proofs.requests.put_instances.Given as goal

abbrev pub invariant-loop-at : goal.invariant-loop-at
invariant-loop-at l = l.bytes.items ++ instances_from (l.at + 1) (drop l.at l.scope) ≡ l.fn.bytes.items ++ instances_from 1 l.scope
