use Rattle.std.proofs.Common.{◌≡◌, drop}
use Rattle.fc_protocol.specs.Scopes.{shares}
use Rattle.fc_master.proofs.busy.shares.Given as goal

abbrev pub invariant-loop-instance : goal.invariant-loop-instance
invariant-loop-instance l = shares (drop l.instance-index l.one) l.other ≡ shares l.one l.other
