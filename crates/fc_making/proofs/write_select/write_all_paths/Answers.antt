use Rattle.std.proofs.Common.{map}
use Rattle.std.proofs.lemmas.Result.{err_from_is_err_and}
use Rattle.fc_path.specs.Canon.{joined, path_written}
use Rattle.fc_lines.specs.LineReading.{steps_at, steps_said}
use Rattle.fc_text.specs.HeadedReading.{paths_of}
use Rattle.fc_text.specs.TextReading.{body_at, operation_paths_at}
use Rattle.fc_text.proofs.HeadedLines.{line_fails, operation_paths_are}
use Rattle.fc_making.proofs.WrittenParts.{writes_line}
use Rattle.fc_making.proofs.write_select.write_all_paths.Goals as goal

pub returns-in_err-said-clause-exact : goal.returns-in_err-said-clause-exact
returns-in_err-said-clause-exact c =
    let p = err_from_is_err_and c.from_residual.result c.from_residual.ensures.1 in
    rw (p.1, p.2) (line_fails (steps_at c.args.level c.args.lines.now) (paths_of (body_at c.args.kind 15) c.args.level) (operation_paths_at c.args.kind c.args.level c.args.lines.now) c.in_err-said.field-0.0
    (operation_paths_are c.args.kind c.args.level c.args.lines.now) c.in_err-said.ensures.exact)

pub returns-clause-exact : goal.returns-clause-exact
returns-clause-exact c =
    writes_line (steps_at c.args.level c.args.lines.now) (paths_of (body_at c.args.kind 15) c.args.level) (operation_paths_at c.args.kind c.args.level c.args.lines.now) (steps_said c.in_ok-said.said) c.path_line.new.lines c.write_paths.new.lines
    c.write_paths.result (λ paths. joined (map path_written paths)) c.args.to.now c.write_paths.new.to (operation_paths_are c.args.kind c.args.level c.args.lines.now) c.in_ok-said.ensures.exact c.write_paths.ensures.exact
