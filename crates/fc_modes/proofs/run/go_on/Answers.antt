use Rattle.std.proofs.Common.{◌∙◌}
use Rattle.fc_modes.proofs.Folds.{step, goes_on}
use Rattle.fc_modes.proofs.run.go_on.Goals as goal

pub loop-op-preserved : goal.loop-op-preserved
loop-op-preserved g c =
    let s = step g.R.Runner.effect (g.R.Runner.state c.args.runner.now) c.args.ops.now c.loop-op.op-index c.op-item.result c.in_ok-code.code (g.R.Runner.state c.loop-op.runner) (g.R.Runner.state c.apply.new.self)
    c.loop-op-test.true c.op-item.is c.loop-op.invariant.state c.in_ok-code.ensures.effect in
    record {
      state = s.state;
      codes = goes_on g.R.Runner.effect (g.R.Runner.state c.args.runner.now) c.args.ops.now c.loop-op.op-index c.op-item.result c.in_ok-code.code (g.R.Runner.state c.loop-op.runner) (g.R.Runner.state c.apply.new.self) c.loop-op.codes.items c.push.new.self.items c.in_ok-push.ensures.items c.loop-op.invariant.codes s;
      marks = c.in_ok-code.ensures.marks ∙ c.loop-op.invariant.marks;
    }
