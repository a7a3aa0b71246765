use Rattle.std.proofs.Common.{◌≡◌}
use Rattle.fc_value.proofs.read.listed.Given as goal

abbrev pub invariant-loop-entry : goal.invariant-loop-entry
invariant-loop-entry l = l.entries ≡ l.yielded
