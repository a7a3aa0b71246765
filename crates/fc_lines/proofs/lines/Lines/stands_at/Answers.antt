use Rattle.std.proofs.Common.{ap, sym, not, ◌∙◌, ◌==◌, ◌*◌, ◌<◌, length, arith}
use Rattle.std.proofs.lemmas.Bool.{eqb-true, eqb-false}
use Rattle.fc_lines.specs.LineWords.{LinesLeft, stands_at}
use Rattle.fc_lines.proofs.LineSteps.{stands_spaces, not_standing}
use Rattle.fc_lines.proofs.lines.Lines.stands_at.Goals as goal

pub returns-then-not-is_empty : goal.returns-then-not-is_empty
returns-then-not-is_empty c =
    let lines = ap (λ (l : LinesLeft). stands_at c.args.level l.lines) c.self.view_is in
    let some : 0 < length c.self.inside.rest.now = omega (arith, eqb-false _ _ (sym c.is_empty.ensures ∙ c.if-not-is_empty.true)) in
    ap (λ n. n == 2 * c.args.level) c.self.invariant.0 ∙ sym (stands_spaces c.args.level c.self.inside.rest.now some) ∙ lines

pub returns-else-not-is_empty : goal.returns-else-not-is_empty
returns-else-not-is_empty c =
    let lines = ap (λ (l : LinesLeft). stands_at c.args.level l.lines) c.self.view_is in
    ap not c.if-not-is_empty.false ∙ sym (not_standing c.args.level c.self.inside.rest.now (eqb-true _ _ (sym c.is_empty.ensures ∙ c.if-not-is_empty.false))) ∙ lines
