use Rattle.std.proofs.Common.{◌≡◌, take, replicate}
use Rattle.fc_modes.specs.Modes.{folded, codes_of}
use Rattle.fc_modes.proofs.failure.first_failure.Given as goal

abbrev pub invariant-loop-at : goal.invariant-loop-at
invariant-loop-at g l = record {
  state : g.R.Runner.state l.runner ≡ folded g.R.Runner.effect (g.R.Runner.state l.fn.runner) (take l.at l.ops);
  zeros : codes_of g.R.Runner.effect (g.R.Runner.state l.fn.runner) (take l.at l.ops) ≡ replicate l.at 0;
  marks : g.R.Runner.marked l.runner ≡ g.R.Runner.marked l.fn.runner;
}
