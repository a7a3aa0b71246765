use Rattle.std.proofs.Common.{◌≡◌, take}
use Rattle.fc_modes.specs.Modes.{folded, codes_of}
use Rattle.fc_modes.proofs.run.go_on.Given as goal

abbrev pub invariant-loop-op : goal.invariant-loop-op
invariant-loop-op g l = record {
  state : g.R.Runner.state l.runner ≡ folded g.R.Runner.effect (g.R.Runner.state l.fn.runner) (take l.op-index l.ops);
  codes : l.codes.items ≡ codes_of g.R.Runner.effect (g.R.Runner.state l.fn.runner) (take l.op-index l.ops);
  marks : g.R.Runner.marked l.runner ≡ g.R.Runner.marked l.fn.runner;
}
