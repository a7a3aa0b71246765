use Rattle.std.proofs.Common.{◌≡◌, drop}
use Rattle.fc_protocol.specs.Scopes.{lists}
use Rattle.fc_master.proofs.busy.lists.Given as goal

abbrev pub invariant-loop-other : goal.invariant-loop-other
invariant-loop-other l = lists (drop l.other-index l.scope) l.instance ≡ lists l.scope l.instance
