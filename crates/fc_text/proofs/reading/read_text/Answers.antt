use Rattle.std.proofs.Common.{◌⊎◌}
use Rattle.fc_text.specs.FirstMisfit.{FirstMisfit, FitsMessages, IsWithin, TooLongAt}
use Rattle.fc_text.specs.TextReading.{text_in}
use Rattle.fc_text.proofs.Answered.{are_fit, are_proper, is_spelled, only_those, told_at}
use Rattle.fc_text.proofs.Misfits.{text_within}
use Rattle.fc_text.proofs.RefusedPlaces.{text_first}
use Rattle.fc_text.proofs.reading.read_text.Goals as goal

pub returns-clause-spelled : goal.returns-clause-spelled
returns-clause-spelled c = is_spelled c.args.bytes.now c.read_all.result c.read_all.ensures

pub returns-clause-only : goal.returns-clause-only
returns-clause-only c = λ ms s. only_those c.args.bytes.now c.read_all.result ms c.read_all.ensures s

pub returns-clause-proper : goal.returns-clause-proper
returns-clause-proper c = are_proper c.args.bytes.now c.read_all.result c.read_all.ensures

pub returns-clause-fits : goal.returns-clause-fits
returns-clause-fits c = are_fit c.args.bytes.now c.read_all.result c.read_all.ensures

pub returns-clause-misfit : goal.returns-clause-misfit
returns-clause-misfit c = told_at (λ p. FirstMisfit FitsMessages p c.args.bytes.now ⊎ TooLongAt p c.args.bytes.now) (text_in c.args.bytes.now) c.read_all.result (text_first c.args.bytes.now) c.read_all.ensures

pub returns-clause-within : goal.returns-clause-within
returns-clause-within c = told_at (λ p. IsWithin p c.args.bytes.now) (text_in c.args.bytes.now) c.read_all.result (text_within c.args.bytes.now) c.read_all.ensures
