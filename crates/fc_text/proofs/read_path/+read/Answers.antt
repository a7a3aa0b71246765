use Rattle.std.proofs.Common.{sym, ◌∙◌, subst, arith, Result}
use Rattle.std.proofs.lemmas.Result.{err_from_is_err_and}
use Rattle.fc_path.specs.declared.path.Body.{Body}
use Rattle.fc_lines.specs.LineReading.{body_head_at, body_said, steps_at, steps_said}
use Rattle.fc_lines.specs.LineWords.{LinesLeft}
use Rattle.fc_lines.specs.TextPlaces.{TextPlace, Reads}
use Rattle.fc_text.specs.HeadedReading.{body_of, path_of, paths_of}
use Rattle.fc_text.specs.TextReading.{body_at, body_by, path_line}
use Rattle.fc_text.proofs.HeadedLines.{body_by_is, line_fails, line_reads, path_line_is}
use Rattle.fc_text.proofs.Loops.{begins_paths, deeper, goes}
use Rattle.fc_text.proofs.read_path.+read.Goals as goal

pub read_paths-lines-init : goal.read_paths-lines-init
read_paths-lines-init t c = record {
  going = begins_paths (body_at c.args.kind c.args.depth) c.args.level (steps_said c.args.said) c.in_ok-path.path c.new-paths.result c.push.new.self c.args.lines.now c.read_path.new.lines c.in_ok-path.ensures.exact c.new-paths.ensures c.in_ok-push.ensures.ok;
  less = omega (arith, c.in_ok-path.ensures.less);
}

pub read_paths-lines-preserved : goal.read_paths-lines-preserved
read_paths-lines-preserved t c = record {
  going = goes c.args.level (path_line (body_at c.args.kind c.args.depth) c.args.level) c.lines.paths c.lines.lines (paths_of (body_at c.args.kind c.args.depth) c.args.level (steps_said c.args.said) c.args.lines.now) c.push-in-lines.new.self c.read_path_line.new.lines c.in_ok-path-2.path c.lines.invariant.going
      (sym c.stands_at.ensures ∙ c.lines-test.true) c.in_ok-path-2.ensures.exact c.in_ok-path-2.ensures.less c.in_ok-push-2.ensures.ok;
  less = omega (arith, c.in_ok-path-2.ensures.less);
}

pub read_path_line-returns-in_err-said-clause-exact : goal.read_path_line-returns-in_err-said-clause-exact
read_path_line-returns-in_err-said-clause-exact t c =
    let p = err_from_is_err_and c.from_residual.result c.from_residual.ensures.1 in
    let inside = body_at c.args.kind c.args.depth in
    rw (p.1, p.2) (line_fails (steps_at c.args.level c.args.lines.now) (path_of inside c.args.level) (path_line inside c.args.level c.args.lines.now) c.in_err-said.field-0.0 (path_line_is inside c.args.level c.args.lines.now) c.in_err-said.ensures.exact)

pub read_path_line-returns-clause-exact : goal.read_path_line-returns-clause-exact
read_path_line-returns-clause-exact t c =
    let inside = body_at c.args.kind c.args.depth in
    line_reads (steps_at c.args.level c.args.lines.now) (path_of inside c.args.level) (path_line inside c.args.level c.args.lines.now) (steps_said c.in_ok-said.said) c.path_line.new.lines c.read_path.new.lines c.read_path.result
    (path_line_is inside c.args.level c.args.lines.now) c.in_ok-said.ensures.exact c.read_path.ensures.exact

pub read_open_body-returns-in_err-said-clause-exact : goal.read_open_body-returns-in_err-said-clause-exact
read_open_body-returns-in_err-said-clause-exact t c =
    let p = err_from_is_err_and c.from_residual.result c.from_residual.ensures.1 in
    let inside = body_at c.args.kind c.args.depth in
    rw (p.1, p.2) (line_fails (body_head_at c.args.kind c.args.level c.args.lines.now) (body_of inside c.args.level) (body_by c.args.kind inside c.args.level c.args.lines.now) c.in_err-said.field-0.0
    (body_by_is c.args.kind inside c.args.level c.args.lines.now (sym c.is_bare.ensures ∙ c.if-is_bare.false)) c.in_err-said.ensures.exact)

pub read_open_body-returns-clause-exact : goal.read_open_body-returns-clause-exact
read_open_body-returns-clause-exact t c =
    let inside = body_at c.args.kind c.args.depth in
    line_reads (body_head_at c.args.kind c.args.level c.args.lines.now) (body_of inside c.args.level) (body_by c.args.kind inside c.args.level c.args.lines.now) (body_said c.in_ok-said.said) c.body_line.new.lines c.read_headed_body.new.lines c.read_headed_body.result
    (body_by_is c.args.kind inside c.args.level c.args.lines.now (sym c.is_bare.ensures ∙ c.if-is_bare.false)) c.in_ok-said.ensures.exact c.read_headed_body.ensures.exact

pub read_body-returns-clause-exact : goal.read_body-returns-clause-exact
read_body-returns-clause-exact t c =
    subst (λ (r : Result (Body × LinesLeft) TextPlace). Reads c.read_open_body.result r c.read_open_body.new.lines)
    (deeper c.args.kind c.args.depth c.args.level c.args.lines.now c.if-depth-eq0.false) c.read_open_body.ensures.exact
