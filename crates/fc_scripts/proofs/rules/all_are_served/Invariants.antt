use Rattle.std.proofs.Common.{◌≡◌, drop}
use Rattle.std.specs.List.{list_all}
use Rattle.fc_scripts.specs.Rules.{is_served}
use Rattle.fc_scripts.proofs.rules.all_are_served.Given as goal

abbrev pub invariant-loop-element : goal.invariant-loop-element
invariant-loop-element l = list_all (is_served l.controllers) (drop l.element-index l.elements) ≡ list_all (is_served l.controllers) l.elements
