use Rattle.std.proofs.Common.{◌+◌}
use Rattle.std.proofs.lemmas.Result.{err_from_is_err_and}
use Rattle.fc_path.specs.Canon.{oper_written}
use Rattle.fc_lines.specs.LineReading.{name_at}
use Rattle.fc_text.specs.TextReading.{oper_at, operation_at}
use Rattle.fc_text.proofs.HeadedLines.{line_fails, oper_is}
use Rattle.fc_making.proofs.WrittenParts.{writes_line}
use Rattle.fc_making.proofs.write_select.write_oper.Goals as goal

pub returns-in_err-operation-clause-exact : goal.returns-in_err-operation-clause-exact
returns-in_err-operation-clause-exact c =
    let p = err_from_is_err_and c.from_residual.result c.from_residual.ensures.1 in
    rw (p.1, p.2) (line_fails (name_at c.args.message c.args.level c.args.lines.now) (λ which. operation_at which (c.args.level + 1)) (oper_at c.args.message c.args.level c.args.lines.now) c.in_err-operation.field-0.0
    (oper_is c.args.message c.args.level c.args.lines.now) c.in_err-operation.ensures.exact)

pub returns-clause-exact : goal.returns-clause-exact
returns-clause-exact c =
    writes_line (name_at c.args.message c.args.level c.args.lines.now) (λ which. operation_at which (c.args.level + 1)) (oper_at c.args.message c.args.level c.args.lines.now) c.in_ok-operation.operation c.operation_line.new.lines c.write_operation.new.lines
    c.write_operation.result oper_written c.args.to.now c.write_operation.new.to (oper_is c.args.message c.args.level c.args.lines.now) c.in_ok-operation.ensures.exact c.write_operation.ensures.exact
