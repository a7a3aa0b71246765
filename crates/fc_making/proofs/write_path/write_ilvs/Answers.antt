use Rattle.std.proofs.Common.{sym, ◌∙◌, arith}
use Rattle.std.proofs.lemmas.Result.{err_from_is_err_and}
use Rattle.fc_path.specs.Canon.{ilv_written}
use Rattle.fc_lines.specs.LineReading.{ilv_at}
use Rattle.fc_text.specs.TextReading.{many_at}
use Rattle.fc_making.proofs.WrittenParts.{none_written, one_more, one_refused}
use Rattle.fc_making.proofs.write_path.write_ilvs.Goals as goal

pub lines-init : goal.lines-init
lines-init c = record { going = none_written c.args.level (ilv_at c.args.level) ilv_written c.args.lines.now c.args.to.now; less = omega arith }

pub lines-preserved : goal.lines-preserved
lines-preserved c = record {
  going = one_more c.args.level (ilv_at c.args.level) ilv_written c.lines.lines c.write_ilv_line.new.lines (many_at c.args.level (ilv_at c.args.level) c.args.lines.now) c.args.to.now c.lines.to c.write_ilv_line.new.to c.lines.invariant.going
      (sym c.stands_at.ensures ∙ c.lines-test.true) c.in_ok-write_ilv_line.ensures.less c.in_ok-write_ilv_line.ensures.exact;
  less = omega (arith, c.in_ok-write_ilv_line.ensures.less);
}

pub returns-in_err-write_ilv_line-clause-exact : goal.returns-in_err-write_ilv_line-clause-exact
returns-in_err-write_ilv_line-clause-exact c =
    let p = err_from_is_err_and c.from_residual.result c.from_residual.ensures.1 in
    rw (p.1, p.2) (one_refused c.args.level (ilv_at c.args.level) ilv_written c.lines.lines (many_at c.args.level (ilv_at c.args.level) c.args.lines.now) c.args.to.now c.lines.to c.in_err-write_ilv_line.field-0.0 c.lines.invariant.going (sym c.stands_at.ensures ∙ c.lines-test.true)
    c.in_err-write_ilv_line.ensures.exact)
