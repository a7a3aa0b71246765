use Rattle.std.proofs.Common.{sym, ◌∙◌}
use Rattle.std.proofs.lemmas.Result.{err_from_is_err_and}
use Rattle.fc_path.specs.Canon.{body_written}
use Rattle.fc_lines.specs.LineReading.{leaf_head_at, leaf_said}
use Rattle.fc_text.specs.HeadedReading.{leaf_of}
use Rattle.fc_text.specs.TextReading.{last_body}
use Rattle.fc_text.proofs.HeadedLines.{line_fails, last_body_is}
use Rattle.fc_making.proofs.WrittenParts.{last_nothing, writes_line}
use Rattle.fc_making.proofs.write_path.write_last_body.Goals as goal

pub returns-then-takes_nothing-clause-exact : goal.returns-then-takes_nothing-clause-exact
returns-then-takes_nothing-clause-exact c = last_nothing c.args.kind c.args.level c.args.lines.now c.args.to.now (sym c.takes_nothing.ensures ∙ c.if-takes_nothing.true)

pub returns-in_err-said-clause-exact : goal.returns-in_err-said-clause-exact
returns-in_err-said-clause-exact c =
    let p = err_from_is_err_and c.from_residual.result c.from_residual.ensures.1 in
    rw (p.1, p.2) (line_fails (leaf_head_at c.args.kind c.args.level c.args.lines.now) (leaf_of c.args.level) (last_body c.args.kind c.args.level c.args.lines.now) c.in_err-said.field-0.0
    (last_body_is c.args.kind c.args.level c.args.lines.now (sym c.takes_nothing.ensures ∙ c.if-takes_nothing.false)) c.in_err-said.ensures.exact)

pub returns-clause-exact : goal.returns-clause-exact
returns-clause-exact c =
    writes_line (leaf_head_at c.args.kind c.args.level c.args.lines.now) (leaf_of c.args.level) (last_body c.args.kind c.args.level c.args.lines.now) (leaf_said c.in_ok-said.said) c.leaf_line.new.lines c.write_leaf.new.lines c.write_leaf.result body_written
    c.args.to.now c.write_leaf.new.to (last_body_is c.args.kind c.args.level c.args.lines.now (sym c.takes_nothing.ensures ∙ c.if-takes_nothing.false)) c.in_ok-said.ensures.exact c.write_leaf.ensures.exact
