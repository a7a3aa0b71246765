use Rattle.std.proofs.Common.{◌≡◌, ◌+◌, ◌*◌, ℕ, ap, sym, ◌∙◌, length, true, drop, arith, Ok}
use Rattle.fc_lines.specs.LineWords.{LinesLeft, WordsLeft, behind_line, lines_of, stands_at, line_at, open_from}
use Rattle.fc_lines.proofs.OpenLines.{opened, opened_fits, opened_less}
use Rattle.fc_lines.proofs.lines.Lines.open.Goals as goal

pub split_at-requires : goal.split_at-requires
split_at-requires c =
    opened_fits c.args.level c.self.inside.rest.now (ap (λ (l : LinesLeft). stands_at c.args.level l.lines) c.self.view_is ∙ sym c.stands_at.ensures ∙ c.if-not-stands_at.false)

-- the number of the line
number : (a b n : ℕ) → a ≡ b → n ≡ b + 1 → a + 1 ≡ n
number a b n e f = omega (arith, e, f)

pub returns-clause-exact : goal.returns-clause-exact
returns-clause-exact c =
    let level = c.args.level in
    let rest = c.self.inside.rest.now in
    let stands = ap (λ (l : LinesLeft). stands_at level l.lines) c.self.view_is ∙ sym c.stands_at.ensures ∙ c.if-not-stands_at.false in
    ap (line_at level) (sym c.self.view_is) ∙ opened level c.self.inside.taken rest stands
    ∙ ap (λ k. Ok (open_from k (2 * level + 1) true (drop (2 * level) rest))) (number c.self.inside.taken c.args.self.now.taken c.number.result (ap (λ (l : LinesLeft). l.taken) c.self.view_is) c.number.ensures)
    ∙ ap (λ l. Ok (open_from c.number.result (2 * level + 1) true l)) (sym c.split_at.ensures.back) ∙ ap Ok (sym c.over.ensures)

pub returns-clause-less : goal.returns-clause-less
returns-clause-less c =
    let level = c.args.level in
    let rest = c.self.inside.rest.now in
    let stands = ap (λ (l : LinesLeft). stands_at level l.lines) c.self.view_is ∙ sym c.stands_at.ensures ∙ c.if-not-stands_at.false in
    let less = opened_less level rest stands in
    let behind = ap (λ (w : WordsLeft × LinesLeft). length w.1.lines) c.over.ensures ∙ ap (λ l. length (lines_of (behind_line l))) c.split_at.ensures.back in
    omega (arith, less, behind, ap (λ (l : LinesLeft). length l.lines) c.self.view_is)
