use Rattle.std.proofs.Common.{◌≡◌, ◌+◌, min, sum, map, take, length}
use Rattle.fc_types.specs.Classes.{members_at}
use Rattle.fc_types.proofs.class_rules.members_counted.Given as goal

abbrev pub invariant-loop-component : goal.invariant-loop-component
invariant-loop-component l = l.count ≡ min 1025 (length l.class.events + sum (map members_at (take l.component-index l.component-items)))
