use Rattle.std.proofs.Common.{◌≡◌, ◌∙◌, ◌++◌, ◌∷◌, [], ℕ, List, replicate, sym, ap}
use Rattle.std.proofs.lemmas.List.{replicate_more}
use Rattle.fc_modes.proofs.Folds.{step, refused_here, all_done}
use Rattle.fc_modes.proofs.Positions.{bad, good}
use Rattle.fc_modes.proofs.failure.first_failure.Goals as goal

pub returns-then-ne-clause-reached : goal.returns-then-ne-clause-reached
returns-then-ne-clause-reached g c =
    refused_here g.R.Runner.effect (g.R.Runner.state c.args.runner.now) c.args.ops.now c.loop-at.at c.index-ops-at.result c.in_ok-code.code (g.R.Runner.state c.loop-at.runner) (g.R.Runner.state c.apply.new.self) g.met.R.Runner.refused
    c.loop-at-test.true c.index-ops-at.is c.loop-at.invariant.state c.loop-at.invariant.zeros c.in_ok-code.ensures.effect (bad c.in_ok-code.code (sym c.ne.ensures ∙ c.if-ne.true))

pub loop-at-preserved : goal.loop-at-preserved
loop-at-preserved g c =
    let s = step g.R.Runner.effect (g.R.Runner.state c.args.runner.now) c.args.ops.now c.loop-at.at c.index-ops-at.result c.in_ok-code.code (g.R.Runner.state c.loop-at.runner) (g.R.Runner.state c.apply.new.self)
    c.loop-at-test.true c.index-ops-at.is c.loop-at.invariant.state c.in_ok-code.ensures.effect in
    let ok : c.in_ok-code.code ≡ 0 = good c.in_ok-code.code (sym c.ne.ensures ∙ c.if-ne.false) in
    record {
      state = s.state;
      zeros = s.codes ∙ ap (λ (cs : List ℕ). cs ++ c.in_ok-code.code ∷ []) c.loop-at.invariant.zeros ∙ ap (λ (n : ℕ). replicate c.loop-at.at 0 ++ n ∷ []) ok ∙ replicate_more c.loop-at.at 0;
      marks = c.in_ok-code.ensures.marks ∙ c.loop-at.invariant.marks;
    }

pub returns-clause-reached : goal.returns-clause-reached
returns-clause-reached g c =
    all_done g.R.Runner.effect (g.R.Runner.state c.args.runner.now) c.args.ops.now c.loop-at.at (g.R.Runner.state c.loop-at.runner) c.loop-at.auto.at-end c.loop-at-test.false c.loop-at.invariant.state c.loop-at.invariant.zeros
