use Rattle.std.proofs.Common.{sym, ◌∙◌, arith}
use Rattle.fc_lines.specs.LineReading.{ilv_at}
use Rattle.fc_text.specs.TextReading.{many_at}
use Rattle.fc_text.proofs.Loops.{begins, goes}
use Rattle.fc_text.proofs.read_path.read_ilvs.Goals as goal

pub lines-init : goal.lines-init
lines-init c = record {
  going = begins c.args.level (ilv_at c.args.level) c.new-ilvs.result c.args.lines.now c.new-ilvs.ensures;
  less = omega arith;
}

pub lines-preserved : goal.lines-preserved
lines-preserved c = record {
  going = goes c.args.level (ilv_at c.args.level) c.lines.ilvs c.lines.lines (many_at c.args.level (ilv_at c.args.level) c.args.lines.now) c.push.new.self c.read_ilv.new.lines c.in_ok-ilv.ilv c.lines.invariant.going
      (sym c.stands_at.ensures ∙ c.lines-test.true) c.in_ok-ilv.ensures.exact c.in_ok-ilv.ensures.less c.in_ok-push.ensures.ok;
  less = omega (arith, c.in_ok-ilv.ensures.less);
}
