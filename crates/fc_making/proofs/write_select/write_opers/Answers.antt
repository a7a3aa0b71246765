use Rattle.std.proofs.Common.{sym, ◌∙◌, arith}
use Rattle.std.proofs.lemmas.Result.{err_from_is_err_and}
use Rattle.fc_path.specs.Canon.{oper_written}
use Rattle.fc_text.specs.TextReading.{oper_at, some_at}
use Rattle.fc_making.proofs.WrittenParts.{one_more, one_refused, some_refused, some_written}
use Rattle.fc_making.proofs.write_select.write_opers.Goals as goal

pub returns-in_err-write_oper-clause-exact : goal.returns-in_err-write_oper-clause-exact
returns-in_err-write_oper-clause-exact c =
    let p = err_from_is_err_and c.from_residual.result c.from_residual.ensures.1 in
    rw (p.1, p.2) (some_refused c.args.level (oper_at c.args.message c.args.level) oper_written c.args.lines.now c.in_err-write_oper.field-0.0 c.in_err-write_oper.ensures.exact)

pub lines-init : goal.lines-init
lines-init c = record { going = some_written c.args.level (oper_at c.args.message c.args.level) oper_written c.args.lines.now c.write_oper.new.lines c.args.to.now c.write_oper.new.to c.in_ok-write_oper.ensures.exact; less = omega (arith, c.in_ok-write_oper.ensures.less) }

pub lines-preserved : goal.lines-preserved
lines-preserved c = record {
  going = one_more c.args.level (oper_at c.args.message c.args.level) oper_written c.lines.lines c.write_oper-in-lines.new.lines (some_at c.args.level (oper_at c.args.message c.args.level) c.args.lines.now) c.args.to.now c.lines.to c.write_oper-in-lines.new.to c.lines.invariant.going
      (sym c.stands_at.ensures ∙ c.lines-test.true) c.in_ok-write_oper-2.ensures.less c.in_ok-write_oper-2.ensures.exact;
  less = omega (arith, c.in_ok-write_oper-2.ensures.less);
}

pub returns-in_err-write_oper-2-clause-exact : goal.returns-in_err-write_oper-2-clause-exact
returns-in_err-write_oper-2-clause-exact c =
    let p = err_from_is_err_and c.from_residual-in_err-write_oper-2.result c.from_residual-in_err-write_oper-2.ensures.1 in
    rw (p.1, p.2) (one_refused c.args.level (oper_at c.args.message c.args.level) oper_written c.lines.lines (some_at c.args.level (oper_at c.args.message c.args.level) c.args.lines.now) c.args.to.now c.lines.to c.in_err-write_oper-2.field-0.0 c.lines.invariant.going (sym c.stands_at.ensures ∙ c.lines-test.true)
    c.in_err-write_oper-2.ensures.exact)
