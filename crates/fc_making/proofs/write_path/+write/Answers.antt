use Rattle.std.proofs.Common.{Err, Ok, Result, ap, arith, map, subst, sym, ◌∙◌}
use Rattle.std.proofs.lemmas.Result.{err_from_is_err_and}
use Rattle.fc_path.specs.Canon.{body_written, joined, path_written}
use Rattle.fc_path.specs.declared.path.Body.{Body}
use Rattle.fc_path.specs.declared.path.Body.TheVariants as body
use Rattle.fc_path.proofs.Closing.{nested_is}
use Rattle.fc_lines.specs.LineReading.{body_head_at, body_said, steps_at, steps_said}
use Rattle.fc_lines.specs.LineWords.{LinesLeft}
use Rattle.fc_lines.specs.TextPlaces.{TextPlace}
use Rattle.fc_lines.specs.declared.said.BodyLine.{BodyLine}
use Rattle.fc_text.specs.HeadedReading.{body_of, path_of, paths_of}
use Rattle.fc_text.specs.TextReading.{body_at, body_by, path_line}
use Rattle.fc_text.proofs.HeadedLines.{line_fails, body_by_is, path_line_is}
use Rattle.fc_text.proofs.Loops.{deeper}
use Rattle.fc_making.specs.Writes.{Writes, unwritten_by}
use Rattle.fc_making.proofs.WrittenParts.{answered, bare_nothing, first_path, one_more, one_refused, path_done, path_refused, paths_refused, steps_refused, writes_as, writes_line}
use Rattle.fc_making.proofs.write_path.+write.Goals as goal

pub write_path-returns-clause-exact : goal.write_path-returns-clause-exact
write_path-returns-clause-exact t c =
    path_done (body_at c.args.kind c.args.depth) c.args.level (steps_said c.args.said) c.args.lines.now c.write_body.new.lines c.args.to.now c.begin.new.self c.write_steps.new.to c.write_body.new.to c.end.new.self c.in_ok-begun.begun c.end.result
    (Ok tt) (ap answered c.in_ok-end.was) c.in_ok-begun.ensures.begun c.in_ok-begun.ensures.ok c.in_ok-write_steps.ensures c.in_ok-write_body.ensures.exact c.end.ensures.tlv c.end.ensures.long

pub write_path-returns-in_err-end-clause-exact : goal.write_path-returns-in_err-end-clause-exact
write_path-returns-in_err-end-clause-exact t c =
    let p = err_from_is_err_and c.from_residual-in_err-end.result c.from_residual-in_err-end.ensures.1 in
    rw (p.1, p.2) (path_done (body_at c.args.kind c.args.depth) c.args.level (steps_said c.args.said) c.args.lines.now c.write_body.new.lines c.args.to.now c.begin.new.self c.write_steps.new.to c.write_body.new.to c.end.new.self c.in_ok-begun.begun c.end.result
    (Err (unwritten_by c.in_err-end.field-0.0)) (ap answered c.in_err-end.was) c.in_ok-begun.ensures.begun c.in_ok-begun.ensures.ok c.in_ok-write_steps.ensures c.in_ok-write_body.ensures.exact c.end.ensures.tlv c.end.ensures.long)

pub write_path-returns-in_err-write_steps-clause-exact : goal.write_path-returns-in_err-write_steps-clause-exact
write_path-returns-in_err-write_steps-clause-exact t c =
    let p = err_from_is_err_and c.from_residual-in_err-write_steps.result c.from_residual-in_err-write_steps.ensures.1 in
    rw (p.1, p.2) (steps_refused (body_at c.args.kind c.args.depth) c.args.level (steps_said c.args.said) c.args.lines.now c.begin.new.self c.write_steps.new.to c.in_err-write_steps.field-0.0 c.in_err-write_steps.ensures)

pub write_path-returns-in_err-write_body-clause-exact : goal.write_path-returns-in_err-write_body-clause-exact
write_path-returns-in_err-write_body-clause-exact t c =
    let p = err_from_is_err_and c.from_residual-in_err-write_body.result c.from_residual-in_err-write_body.ensures.1 in
    rw (p.1, p.2) (path_refused (body_at c.args.kind c.args.depth) c.args.level (steps_said c.args.said) c.args.lines.now c.in_err-write_body.field-0.0 c.in_err-write_body.ensures.exact)

pub write_paths-returns-in_err-write_path-clause-exact : goal.write_paths-returns-in_err-write_path-clause-exact
write_paths-returns-in_err-write_path-clause-exact t c =
    let p = err_from_is_err_and c.from_residual.result c.from_residual.ensures.1 in
    rw (p.1, p.2) (paths_refused (body_at c.args.kind c.args.depth) c.args.level (steps_said c.args.said) c.args.lines.now c.in_err-write_path.field-0.0 c.in_err-write_path.ensures.exact)

pub write_path_line-returns-in_err-said-clause-exact : goal.write_path_line-returns-in_err-said-clause-exact
write_path_line-returns-in_err-said-clause-exact t c =
    let p = err_from_is_err_and c.from_residual.result c.from_residual.ensures.1 in
    let inside = body_at c.args.kind c.args.depth in
    rw (p.1, p.2) (line_fails (steps_at c.args.level c.args.lines.now) (path_of inside c.args.level) (path_line inside c.args.level c.args.lines.now) c.in_err-said.field-0.0 (path_line_is inside c.args.level c.args.lines.now) c.in_err-said.ensures.exact)

pub write_path_line-returns-clause-exact : goal.write_path_line-returns-clause-exact
write_path_line-returns-clause-exact t c =
    let inside = body_at c.args.kind c.args.depth in
    writes_line (steps_at c.args.level c.args.lines.now) (path_of inside c.args.level) (path_line inside c.args.level c.args.lines.now) (steps_said c.in_ok-said.said) c.path_line.new.lines c.write_path.new.lines c.write_path.result path_written
    c.args.to.now c.write_path.new.to (path_line_is inside c.args.level c.args.lines.now) c.in_ok-said.ensures.exact c.write_path.ensures.exact

pub write_headed_body-returns-in-Leaf-clause-exact : goal.write_headed_body-returns-in-Leaf-clause-exact
write_headed_body-returns-in-Leaf-clause-exact t c =
    subst (λ (s : BodyLine). Writes c.write_leaf.result (body_of (body_at c.args.kind c.args.depth) c.args.level (body_said s) c.args.lines.now) c.write_leaf.new.lines body_written c.args.to.now c.write_leaf.new.to) (sym c.in-Leaf.is) c.write_leaf.ensures.exact

pub write_headed_body-returns-in-Path-clause-exact : goal.write_headed_body-returns-in-Path-clause-exact
write_headed_body-returns-in-Path-clause-exact t c =
    subst (λ (s : BodyLine). Writes c.write_paths.result (body_of (body_at c.args.kind c.args.depth) c.args.level (body_said s) c.args.lines.now) c.write_paths.new.lines body_written c.args.to.now c.write_paths.new.to) (sym c.in-Path.is)
    (writes_as c.write_paths.result (paths_of (body_at c.args.kind c.args.depth) c.args.level (steps_said c.in-Path.said) c.args.lines.now) c.write_paths.new.lines body.Nested (λ paths. joined (map path_written paths)) body_written
    c.args.to.now c.write_paths.new.to nested_is c.write_paths.ensures.exact)

pub write_open_body-returns-then-is_bare-clause-exact : goal.write_open_body-returns-then-is_bare-clause-exact
write_open_body-returns-then-is_bare-clause-exact t c =
    bare_nothing c.args.kind (body_at c.args.kind c.args.depth) c.args.level c.args.lines.now c.args.to.now (sym c.is_bare.ensures ∙ c.if-is_bare.true)

pub write_open_body-returns-in_err-said-clause-exact : goal.write_open_body-returns-in_err-said-clause-exact
write_open_body-returns-in_err-said-clause-exact t c =
    let p = err_from_is_err_and c.from_residual.result c.from_residual.ensures.1 in
    let inside = body_at c.args.kind c.args.depth in
    rw (p.1, p.2) (line_fails (body_head_at c.args.kind c.args.level c.args.lines.now) (body_of inside c.args.level) (body_by c.args.kind inside c.args.level c.args.lines.now) c.in_err-said.field-0.0
    (body_by_is c.args.kind inside c.args.level c.args.lines.now (sym c.is_bare.ensures ∙ c.if-is_bare.false)) c.in_err-said.ensures.exact)

pub write_open_body-returns-clause-exact : goal.write_open_body-returns-clause-exact
write_open_body-returns-clause-exact t c =
    let inside = body_at c.args.kind c.args.depth in
    writes_line (body_head_at c.args.kind c.args.level c.args.lines.now) (body_of inside c.args.level) (body_by c.args.kind inside c.args.level c.args.lines.now) (body_said c.in_ok-said.said) c.body_line.new.lines c.write_headed_body.new.lines
    c.write_headed_body.result body_written c.args.to.now c.write_headed_body.new.to (body_by_is c.args.kind inside c.args.level c.args.lines.now (sym c.is_bare.ensures ∙ c.if-is_bare.false)) c.in_ok-said.ensures.exact c.write_headed_body.ensures.exact

pub write_body-returns-clause-exact : goal.write_body-returns-clause-exact
write_body-returns-clause-exact t c =
    subst (λ (r : Result (Body × LinesLeft) TextPlace). Writes c.write_open_body.result r c.write_open_body.new.lines body_written c.args.to.now c.write_open_body.new.to)
    (deeper c.args.kind c.args.depth c.args.level c.args.lines.now c.if-depth-eq0.false) c.write_open_body.ensures.exact

pub write_paths-lines-init : goal.write_paths-lines-init
write_paths-lines-init t c = record {
  going = first_path (body_at c.args.kind c.args.depth) c.args.level (steps_said c.args.said) c.args.lines.now c.write_path.new.lines c.args.to.now c.write_path.new.to c.in_ok-write_path.ensures.exact;
  less = omega (arith, c.in_ok-write_path.ensures.less);
}

pub write_paths-lines-preserved : goal.write_paths-lines-preserved
write_paths-lines-preserved t c = record {
  going = one_more c.args.level (path_line (body_at c.args.kind c.args.depth) c.args.level) path_written c.lines.lines c.write_path_line.new.lines (paths_of (body_at c.args.kind c.args.depth) c.args.level (steps_said c.args.said) c.args.lines.now)
      c.args.to.now c.lines.to c.write_path_line.new.to c.lines.invariant.going (sym c.stands_at.ensures ∙ c.lines-test.true) c.in_ok-write_path_line.ensures.less c.in_ok-write_path_line.ensures.exact;
  less = omega (arith, c.in_ok-write_path_line.ensures.less);
}

pub write_paths-returns-in_err-write_path_line-clause-exact : goal.write_paths-returns-in_err-write_path_line-clause-exact
write_paths-returns-in_err-write_path_line-clause-exact t c =
    let p = err_from_is_err_and c.from_residual-in_err-write_path_line.result c.from_residual-in_err-write_path_line.ensures.1 in
    rw (p.1, p.2) (one_refused c.args.level (path_line (body_at c.args.kind c.args.depth) c.args.level) path_written c.lines.lines (paths_of (body_at c.args.kind c.args.depth) c.args.level (steps_said c.args.said) c.args.lines.now) c.args.to.now c.lines.to c.in_err-write_path_line.field-0.0 c.lines.invariant.going (sym c.stands_at.ensures ∙ c.lines-test.true)
    c.in_err-write_path_line.ensures.exact)
