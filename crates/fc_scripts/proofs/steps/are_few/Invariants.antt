use Rattle.std.proofs.Common.{◌≡◌, nat_le, drop}
use Rattle.fc_scripts.specs.Steps.{count}
use Rattle.fc_scripts.proofs.steps.are_few.Given as goal

abbrev pub invariant-loop-text : goal.invariant-loop-text
invariant-loop-text l = nat_le (count (drop l.text-index l.said)) l.left ≡ nat_le (count l.said) 100000
