use Rattle.std.proofs.Common.{sym, ◌∙◌, arith}
use Rattle.fc_text.specs.TextReading.{oper_at, some_at}
use Rattle.fc_text.proofs.Loops.{begins_some, goes}
use Rattle.fc_text.proofs.read_select.read_opers.Goals as goal

pub lines-init : goal.lines-init
lines-init c = record {
  going = begins_some c.args.level (oper_at c.args.message c.args.level) c.in_ok-oper.oper c.new-opers.result c.push.new.self c.args.lines.now c.read_oper.new.lines c.in_ok-oper.ensures.exact c.new-opers.ensures c.in_ok-push.ensures.ok;
  less = omega (arith, c.in_ok-oper.ensures.less);
}

pub lines-preserved : goal.lines-preserved
lines-preserved c = record {
  going = goes c.args.level (oper_at c.args.message c.args.level) c.lines.opers c.lines.lines (some_at c.args.level (oper_at c.args.message c.args.level) c.args.lines.now) c.push-in-lines.new.self c.read_oper-in-lines.new.lines c.in_ok-oper-2.oper c.lines.invariant.going
      (sym c.stands_at.ensures ∙ c.lines-test.true) c.in_ok-oper-2.ensures.exact c.in_ok-oper-2.ensures.less c.in_ok-push-2.ensures.ok;
  less = omega (arith, c.in_ok-oper-2.ensures.less);
}
