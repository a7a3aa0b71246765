use Rattle.std.proofs.Common.{◌≡◌}
use Rattle.fc_element.proofs.configured.listed.Given as goal

abbrev pub invariant-loop-id : goal.invariant-loop-id
invariant-loop-id l = l.list ≡ l.yielded
