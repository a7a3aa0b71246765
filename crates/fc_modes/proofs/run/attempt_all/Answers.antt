use Rattle.std.proofs.Common.{◌∙◌, ap, sym}
use Rattle.fc_modes.specs.declared.mode.Mode.{Mode}
use Rattle.fc_modes.specs.Modes.{outcome}
use Rattle.fc_modes.proofs.Outcomes.{each_own}
use Rattle.fc_modes.proofs.run.attempt_all.Goals as goal

pub returns-in_ok-codes-in-Continue-clause-codes : goal.returns-in_ok-codes-in-Continue-clause-codes
returns-in_ok-codes-in-Continue-clause-codes g c =
    c.in_ok-codes-in-Continue.ensures.codes
    ∙ each_own g.R.Runner.effect (g.R.Runner.state c.args.runner.now) c.args.ops.now
    ∙ ap (λ (mode : Mode). (outcome g.R.Runner.effect mode (g.R.Runner.state c.args.runner.now) c.args.ops.now).codes) (sym c.in-Continue.is)
