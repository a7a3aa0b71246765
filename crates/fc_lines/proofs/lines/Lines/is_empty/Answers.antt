use Rattle.std.proofs.Common.{ap, sym, ◌∙◌}
use Rattle.fc_lines.specs.LineWords.{LinesLeft, none_left}
use Rattle.fc_lines.proofs.LineSteps.{none_left_of}
use Rattle.fc_lines.proofs.lines.Lines.is_empty.Goals as goal

pub returns : goal.returns
returns c =
    c.is_empty.ensures ∙ sym (none_left_of c.self.inside.rest.now) ∙ ap (λ (l : LinesLeft). none_left l.lines) c.self.view_is
