use Rattle.std.proofs.Common.{Err, Ok, ap}
use Rattle.std.proofs.lemmas.Result.{err_from_is_err_and}
use Rattle.fc_path.specs.Canon.{select_written}
use Rattle.fc_lines.specs.LineReading.{lfb_at}
use Rattle.fc_text.specs.TextReading.{select_at}
use Rattle.fc_text.proofs.HeadedLines.{line_fails, select_is, select_of}
use Rattle.fc_making.specs.Writes.{unwritten_by}
use Rattle.fc_making.proofs.WrittenParts.{answered, select_done, select_refused, writes_line}
use Rattle.fc_making.proofs.write_select.write_select.Goals as goal

pub returns-in_err-class-clause-exact : goal.returns-in_err-class-clause-exact
returns-in_err-class-clause-exact c =
    let p = err_from_is_err_and c.from_residual.result c.from_residual.ensures.1 in
    rw (p.1, p.2) (line_fails (lfb_at c.args.level c.args.lines.now) (select_of c.args.message c.args.level) (select_at c.args.message c.args.level c.args.lines.now) c.in_err-class.field-0.0 (select_is c.args.message c.args.level c.args.lines.now)
    c.in_err-class.ensures.exact)

pub returns-in_err-write_opers-clause-exact : goal.returns-in_err-write_opers-clause-exact
returns-in_err-write_opers-clause-exact c =
    let p = err_from_is_err_and c.from_residual-in_err-write_opers.result c.from_residual-in_err-write_opers.ensures.1 in
    rw (p.1, p.2) (writes_line (lfb_at c.args.level c.args.lines.now) (select_of c.args.message c.args.level) (select_at c.args.message c.args.level c.args.lines.now) (c.in_ok-class.class, c.in_ok-class.instance) c.select_line.new.lines c.write_opers.new.lines
    (Err c.in_err-write_opers.field-0.0) select_written c.args.to.now c.write_opers.new.to (select_is c.args.message c.args.level c.args.lines.now) c.in_ok-class.ensures.exact
    (select_refused c.args.message c.args.level (c.in_ok-class.class, c.in_ok-class.instance) c.select_line.new.lines c.in_err-write_opers.field-0.0 c.in_err-write_opers.ensures.exact))

pub returns-in_err-end-clause-exact : goal.returns-in_err-end-clause-exact
returns-in_err-end-clause-exact c =
    let p = err_from_is_err_and c.from_residual-in_err-end.result c.from_residual-in_err-end.ensures.1 in
    rw (p.1, p.2) (writes_line (lfb_at c.args.level c.args.lines.now) (select_of c.args.message c.args.level) (select_at c.args.message c.args.level c.args.lines.now) (c.in_ok-class.class, c.in_ok-class.instance) c.select_line.new.lines c.write_opers.new.lines (Err (unwritten_by c.in_err-end.field-0.0)) select_written
    c.args.to.now c.end.new.self (select_is c.args.message c.args.level c.args.lines.now) c.in_ok-class.ensures.exact
    (select_done c.args.message c.args.level (c.in_ok-class.class, c.in_ok-class.instance) c.select_line.new.lines c.write_opers.new.lines c.args.to.now c.begin.new.self c.put_names.new.to c.write_opers.new.to c.end.new.self c.in_ok-begun.begun c.end.result
    (Err (unwritten_by c.in_err-end.field-0.0)) (ap answered c.in_err-end.was) c.in_ok-begun.ensures.begun c.in_ok-begun.ensures.ok c.in_ok-put_names.ensures c.in_ok-write_opers.ensures.exact c.end.ensures.tlv c.end.ensures.long))

pub returns-clause-exact : goal.returns-clause-exact
returns-clause-exact c =
    writes_line (lfb_at c.args.level c.args.lines.now) (select_of c.args.message c.args.level) (select_at c.args.message c.args.level c.args.lines.now) (c.in_ok-class.class, c.in_ok-class.instance) c.select_line.new.lines c.write_opers.new.lines (Ok tt) select_written
    c.args.to.now c.end.new.self (select_is c.args.message c.args.level c.args.lines.now) c.in_ok-class.ensures.exact
    (select_done c.args.message c.args.level (c.in_ok-class.class, c.in_ok-class.instance) c.select_line.new.lines c.write_opers.new.lines c.args.to.now c.begin.new.self c.put_names.new.to c.write_opers.new.to c.end.new.self c.in_ok-begun.begun c.end.result
    (Ok tt) (ap answered c.in_ok-end.was) c.in_ok-begun.ensures.begun c.in_ok-begun.ensures.ok c.in_ok-put_names.ensures c.in_ok-write_opers.ensures.exact c.end.ensures.tlv c.end.ensures.long)
