use Rattle.std.proofs.Common.{◌≡◌, drop}
use Rattle.std.specs.List.{list_all}
use Rattle.fc_types.specs.Libraries.{is_own}
use Rattle.fc_types.proofs.check.are_own.Given as goal

abbrev pub invariant-loop-class : goal.invariant-loop-class
invariant-loop-class l = list_all is_own (drop l.class-index l.classes) ≡ list_all is_own l.classes
