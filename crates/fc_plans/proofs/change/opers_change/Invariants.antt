use Rattle.std.proofs.Common.{◌≡◌, drop}
use Rattle.std.specs.List.{list_all}
use Rattle.fc_plans.specs.Changes.{changes}
use Rattle.fc_plans.proofs.change.opers_change.Given as goal

abbrev pub invariant-loop-oper : goal.invariant-loop-oper
invariant-loop-oper l = list_all changes (drop l.oper-index l.opers) ≡ list_all changes l.opers
