use Rattle.std.proofs.Common.{ap, sym, ◌∙◌}
use Rattle.fc_lines.specs.LineWords.{LinesLeft, WordsLeft, ended, line_in}
use Rattle.fc_lines.proofs.OpenLines.{more_ended}
use Rattle.fc_lines.proofs.words.Words.end.Goals as goal

pub returns-then-self-clause-exact : goal.returns-then-self-clause-exact
returns-then-self-clause-exact c =
    ap (λ (w : WordsLeft × LinesLeft). ended w.0) (sym c.self.view_is)
    ∙ more_ended c.self.inside.line c.self.inside.column c.self.inside.more (line_in c.self.inside.rest.now) c.if-self.true
