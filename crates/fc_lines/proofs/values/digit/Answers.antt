use Rattle.std.proofs.Common.{ap, ◌∙◌, slice_index_or, arith}
use Rattle.fc_lines.proofs.DigitValues.{mark_at, marks, small_mark}
use Rattle.fc_lines.proofs.values.digit.Goals as goal

pub returns-clause-exact : goal.returns-clause-exact
returns-clause-exact c = c.from-2.ensures ∙ ap (λ i. slice_index_or (marks 256 0) i 0) c.from.ensures ∙ mark_at c.args.byte (omega arith)

pub returns-clause-gap : goal.returns-clause-gap
returns-clause-gap c = λ few. small_mark c.args.byte c.from-2.result (c.from-2.ensures ∙ ap (λ i. slice_index_or (marks 256 0) i 0) c.from.ensures ∙ mark_at c.args.byte (omega arith)) few
