use Rattle.std.proofs.Common.{◌≡◌, nat_eq, map, drop}
use Rattle.std.specs.List.{list_any}
use Rattle.fc_scripts.specs.Rules.{number_of}
use Rattle.fc_scripts.proofs.rules.has_number.Given as goal

abbrev pub invariant-loop-controller : goal.invariant-loop-controller
invariant-loop-controller l = list_any (nat_eq l.number) (map number_of (drop l.controller-index l.controllers)) ≡ list_any (nat_eq l.number) (map number_of l.controllers)
