use Rattle.fc_lines.specs.LineWords.{open_from}
use Rattle.fc_lines.proofs.OpenLines.{quick_number}
use Rattle.fc_lines.proofs.words.Words.quick_decimal.Goals as goal

pub returns-clause-some : goal.returns-clause-some
returns-clause-some c =
    let now = c.self.inside in
    let new = c.self-2.inside in
    (quick_number c.in_ok-number.number now.line now.column c.in_ok-number.len now.more now.rest.now c.args.self.now c.passed-words.result.1 (open_from new.line new.column new.more new.rest.now) c.passed-words.result.0
    c.self.view_is c.if-not-self.false c.passed-words.ensures.word c.passed-words.ensures.text c.passed-words.ensures.words c.passed-words.ensures.behind c.self-2.view_is c.in_ok-number.ensures.3).0

pub returns-clause-behind : goal.returns-clause-behind
returns-clause-behind c =
    let now = c.self.inside in
    let new = c.self-2.inside in
    (quick_number c.in_ok-number.number now.line now.column c.in_ok-number.len now.more now.rest.now c.args.self.now c.passed-words.result.1 (open_from new.line new.column new.more new.rest.now) c.passed-words.result.0
    c.self.view_is c.if-not-self.false c.passed-words.ensures.word c.passed-words.ensures.text c.passed-words.ensures.words c.passed-words.ensures.behind c.self-2.view_is c.in_ok-number.ensures.3).1
