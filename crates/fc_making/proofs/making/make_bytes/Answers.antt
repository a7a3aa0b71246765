use Rattle.std.proofs.Common.{◌⊎◌}
use Rattle.fc_text.specs.FirstMisfit.{FirstMisfit, FitsMessages, IsWithin, TooLongAt}
use Rattle.fc_text.specs.TextReading.{text_in}
use Rattle.fc_text.proofs.Misfits.{text_within}
use Rattle.fc_text.proofs.RefusedPlaces.{text_first}
use Rattle.fc_making.proofs.MadeTexts.{made_at, made_only, made_spelled}
use Rattle.fc_making.proofs.making.make_bytes.Goals as goal

pub returns-clause-spelled : goal.returns-clause-spelled
returns-clause-spelled c = made_spelled c.args.text.now c.args.into.now.items c.make_whole.new.into.items c.make_whole.result c.make_whole.ensures

pub returns-clause-only : goal.returns-clause-only
returns-clause-only c = λ ms s. made_only c.args.text.now c.args.into.now.items c.make_whole.new.into.items c.make_whole.result ms c.make_whole.ensures s

pub returns-clause-misfit : goal.returns-clause-misfit
returns-clause-misfit c =
    made_at (λ p. FirstMisfit FitsMessages p c.args.text.now ⊎ TooLongAt p c.args.text.now) (text_in c.args.text.now) c.args.into.now.items c.make_whole.new.into.items c.make_whole.result (text_first c.args.text.now)
    c.make_whole.ensures

pub returns-clause-within : goal.returns-clause-within
returns-clause-within c =
    made_at (λ p. IsWithin p c.args.text.now) (text_in c.args.text.now) c.args.into.now.items c.make_whole.new.into.items c.make_whole.result (text_within c.args.text.now) c.make_whole.ensures
