use Rattle.std.proofs.Common.{sym, ◌∙◌, arith}
use Rattle.fc_text.specs.TextReading.{select_at, many_at}
use Rattle.fc_text.proofs.Loops.{begins, goes}
use Rattle.fc_text.proofs.read_select.read_selects.Goals as goal

pub lines-init : goal.lines-init
lines-init c = record {
  going = begins c.args.level (select_at c.args.message c.args.level) c.new-selects.result c.args.lines.now c.new-selects.ensures;
  less = omega arith;
}

pub lines-preserved : goal.lines-preserved
lines-preserved c = record {
  going = goes c.args.level (select_at c.args.message c.args.level) c.lines.selects c.lines.lines (many_at c.args.level (select_at c.args.message c.args.level) c.args.lines.now) c.push.new.self c.read_select.new.lines c.in_ok-select.select c.lines.invariant.going
      (sym c.stands_at.ensures ∙ c.lines-test.true) c.in_ok-select.ensures.exact c.in_ok-select.ensures.less c.in_ok-push.ensures.ok;
  less = omega (arith, c.in_ok-select.ensures.less);
}
