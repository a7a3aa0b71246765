use Rattle.std.proofs.Common.{◌≡◌, ◌++◌, map, drop}
use Rattle.fc_steps.specs.Steps.{step_of}
use Rattle.fc_scripts.proofs.steps.read_steps.Given as goal

abbrev pub invariant-loop-text : goal.invariant-loop-text
invariant-loop-text l = l.said ++ map step_of (drop l.text-index l.texts) ≡ map step_of l.texts
