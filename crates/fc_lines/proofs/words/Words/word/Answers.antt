use Rattle.std.proofs.Common.{ap, sym, ◌∙◌}
use Rattle.fc_lines.specs.LineWords.{LinesLeft, WordsLeft, word_in, line_in}
use Rattle.fc_lines.proofs.OpenLines.{no_word}
use Rattle.fc_lines.proofs.words.Words.word.Goals as goal

pub returns-then-not-self-clause-exact : goal.returns-then-not-self-clause-exact
returns-then-not-self-clause-exact c =
    ap (λ (w : WordsLeft × LinesLeft). word_in w.0) (sym c.self.view_is)
    ∙ no_word c.self.inside.line c.self.inside.column c.self.inside.more (line_in c.self.inside.rest.now) c.if-not-self.true c.self.invariant.2
