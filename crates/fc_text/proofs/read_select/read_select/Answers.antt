use Rattle.std.proofs.Common.{◌+◌, ap, Err, Ok}
use Rattle.std.proofs.lemmas.Result.{err_from_is_err_and}
use Rattle.fc_base.specs.Answers.{◌>>=◌}
use Rattle.fc_lines.specs.LineReading.{lfb_at}
use Rattle.fc_text.specs.TextReading.{oper_at, select_at, some_at}
use Rattle.fc_text.proofs.HeadedLines.{line_fails, line_reads, select_is, select_of}
use Rattle.fc_text.proofs.Loops.{fails_bind}
use Rattle.fc_text.proofs.read_select.read_select.Goals as goal

pub returns-in_err-class-clause-exact : goal.returns-in_err-class-clause-exact
returns-in_err-class-clause-exact c =
    let p = err_from_is_err_and c.from_residual.result c.from_residual.ensures.1 in
    rw (p.1, p.2) (line_fails (lfb_at c.args.level c.args.lines.now) (select_of c.args.message c.args.level) (select_at c.args.message c.args.level c.args.lines.now) c.in_err-class.field-0.0 (select_is c.args.message c.args.level c.args.lines.now)
    c.in_err-class.ensures.exact)

pub returns-in_err-opers-clause-exact : goal.returns-in_err-opers-clause-exact
returns-in_err-opers-clause-exact c =
    let p = err_from_is_err_and c.from_residual-in_err-opers.result c.from_residual-in_err-opers.ensures.1 in
    rw (p.1, p.2) (line_reads (lfb_at c.args.level c.args.lines.now) (select_of c.args.message c.args.level) (select_at c.args.message c.args.level c.args.lines.now) (c.in_ok-class.class, c.in_ok-class.instance) c.select_line.new.lines c.read_opers.new.lines
    (Err c.in_err-opers.field-0.0) (select_is c.args.message c.args.level c.args.lines.now) c.in_ok-class.ensures.exact
    (fails_bind (some_at (c.args.level + 1) (oper_at c.args.message (c.args.level + 1)) c.select_line.new.lines) _ c.in_err-opers.field-0.0 c.in_err-opers.ensures.exact))

pub returns-clause-exact : goal.returns-clause-exact
returns-clause-exact c =
    line_reads (lfb_at c.args.level c.args.lines.now) (select_of c.args.message c.args.level) (select_at c.args.message c.args.level c.args.lines.now) (c.in_ok-class.class, c.in_ok-class.instance) c.select_line.new.lines c.read_opers.new.lines
    (Ok (record { class = c.in_ok-class.class; instance = c.in_ok-class.instance; opers = c.in_ok-opers.opers })) (select_is c.args.message c.args.level c.args.lines.now) c.in_ok-class.ensures.exact
    (ap (λ r. r >>= λ opers. Ok (record { class = c.in_ok-class.class; instance = c.in_ok-class.instance; opers = opers.0 }, opers.1)) c.in_ok-opers.ensures.exact)
