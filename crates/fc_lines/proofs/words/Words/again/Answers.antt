use Rattle.std.proofs.Common.{ap, length, arith}
use Rattle.fc_lines.specs.LineWords.{LinesLeft, WordsLeft}
use Rattle.fc_lines.proofs.OpenLines.{few_words}
use Rattle.fc_lines.proofs.words.Words.again.Goals as goal

pub returns-clause-few : goal.returns-clause-few
returns-clause-few c =
    omega (arith, few_words c.self.inside.line c.self.inside.column c.self.inside.more c.self.inside.rest.now, ap (λ (w : WordsLeft × LinesLeft). length w.0.words) c.self.view_is, c.self.invariant.1)
