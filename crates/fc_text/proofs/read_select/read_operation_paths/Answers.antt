use Rattle.std.proofs.lemmas.Result.{err_from_is_err_and}
use Rattle.fc_lines.specs.LineReading.{steps_at, steps_said}
use Rattle.fc_text.specs.HeadedReading.{paths_of}
use Rattle.fc_text.specs.TextReading.{body_at, operation_paths_at}
use Rattle.fc_text.proofs.HeadedLines.{line_fails, line_reads, operation_paths_are}
use Rattle.fc_text.proofs.read_select.read_operation_paths.Goals as goal

pub returns-in_err-said-clause-exact : goal.returns-in_err-said-clause-exact
returns-in_err-said-clause-exact c =
    let p = err_from_is_err_and c.from_residual.result c.from_residual.ensures.1 in
    rw (p.1, p.2) (line_fails (steps_at c.args.level c.args.lines.now) (paths_of (body_at c.args.kind 15) c.args.level) (operation_paths_at c.args.kind c.args.level c.args.lines.now) c.in_err-said.field-0.0
    (operation_paths_are c.args.kind c.args.level c.args.lines.now) c.in_err-said.ensures.exact)

pub returns-clause-exact : goal.returns-clause-exact
returns-clause-exact c =
    line_reads (steps_at c.args.level c.args.lines.now) (paths_of (body_at c.args.kind 15) c.args.level) (operation_paths_at c.args.kind c.args.level c.args.lines.now) (steps_said c.in_ok-said.said) c.path_line.new.lines c.read_paths.new.lines c.read_paths.result
    (operation_paths_are c.args.kind c.args.level c.args.lines.now) c.in_ok-said.ensures.exact c.read_paths.ensures.exact
