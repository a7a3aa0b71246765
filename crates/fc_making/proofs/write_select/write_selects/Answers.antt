use Rattle.std.proofs.Common.{sym, ◌∙◌, arith}
use Rattle.std.proofs.lemmas.Result.{err_from_is_err_and}
use Rattle.fc_path.specs.Canon.{select_written}
use Rattle.fc_text.specs.TextReading.{many_at, select_at}
use Rattle.fc_making.proofs.WrittenParts.{none_written, one_more, one_refused}
use Rattle.fc_making.proofs.write_select.write_selects.Goals as goal

pub lines-init : goal.lines-init
lines-init c = record { going = none_written c.args.level (select_at c.args.message c.args.level) select_written c.args.lines.now c.args.to.now; less = omega arith }

pub lines-preserved : goal.lines-preserved
lines-preserved c = record {
  going = one_more c.args.level (select_at c.args.message c.args.level) select_written c.lines.lines c.write_select.new.lines (many_at c.args.level (select_at c.args.message c.args.level) c.args.lines.now) c.args.to.now c.lines.to c.write_select.new.to c.lines.invariant.going
      (sym c.stands_at.ensures ∙ c.lines-test.true) c.in_ok-write_select.ensures.less c.in_ok-write_select.ensures.exact;
  less = omega (arith, c.in_ok-write_select.ensures.less);
}

pub returns-in_err-write_select-clause-exact : goal.returns-in_err-write_select-clause-exact
returns-in_err-write_select-clause-exact c =
    let p = err_from_is_err_and c.from_residual.result c.from_residual.ensures.1 in
    rw (p.1, p.2) (one_refused c.args.level (select_at c.args.message c.args.level) select_written c.lines.lines (many_at c.args.level (select_at c.args.message c.args.level) c.args.lines.now) c.args.to.now c.lines.to c.in_err-write_select.field-0.0 c.lines.invariant.going (sym c.stands_at.ensures ∙ c.lines-test.true)
    c.in_err-write_select.ensures.exact)
