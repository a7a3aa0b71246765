use Rattle.std.proofs.Common.{◌≡◌, drop}
use Rattle.std.specs.List.{list_all}
use Rattle.fc_types.specs.Libraries.{is_known}
use Rattle.fc_types.proofs.check.are_known.Given as goal

abbrev pub invariant-loop-instance : goal.invariant-loop-instance
invariant-loop-instance l = list_all (is_known l.classes) (drop l.instance-index l.instances) ≡ list_all (is_known l.classes) l.instances
