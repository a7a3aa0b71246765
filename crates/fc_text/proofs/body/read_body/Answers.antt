use Rattle.fc_text.specs.FirstMisfit.{FirstMisfit, FitsSelects, IsWithin}
use Rattle.fc_text.specs.TextReading.{body_in}
use Rattle.fc_text.proofs.Answered.{only_selects, selects_spelled, told_at}
use Rattle.fc_text.proofs.Misfits.{body_within}
use Rattle.fc_text.proofs.RefusedPlaces.{body_first}
use Rattle.fc_text.proofs.body.read_body.Goals as goal

pub returns-clause-spelled : goal.returns-clause-spelled
returns-clause-spelled c = selects_spelled c.args.bytes.now c.read_whole_body.result c.read_whole_body.ensures

pub returns-clause-only : goal.returns-clause-only
returns-clause-only c = λ ss s. only_selects c.args.bytes.now c.read_whole_body.result ss c.read_whole_body.ensures s

pub returns-clause-misfit : goal.returns-clause-misfit
returns-clause-misfit c = told_at (λ p. FirstMisfit FitsSelects p c.args.bytes.now) (body_in c.args.bytes.now) c.read_whole_body.result (body_first c.args.bytes.now) c.read_whole_body.ensures

pub returns-clause-within : goal.returns-clause-within
returns-clause-within c = told_at (λ p. IsWithin p c.args.bytes.now) (body_in c.args.bytes.now) c.read_whole_body.result (body_within c.args.bytes.now) c.read_whole_body.ensures
