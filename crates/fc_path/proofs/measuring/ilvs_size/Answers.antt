use Rattle.std.proofs.Common.{arith}
use Rattle.fc_path.specs.Canon.{ilv_written}
use Rattle.fc_path.proofs.Sizes.{held_over, held_fails, held_more}
use Rattle.fc_path.proofs.measuring.ilvs_size.Goals as goal

pub returns-then-sum-size-gt-VALUE : goal.returns-then-sum-size-gt-VALUE
returns-then-sum-size-gt-VALUE c =
    held_over ilv_written 65532 c.args.ilvs.now c.loop-ilv.ilv-index c.ilv-item.result c.loop-ilv.sum c.in-Some.size (omega arith) c.ilv-item.is c.loop-ilv.invariant c.in-Some.ensures.size (omega arith)

pub returns-in-None : goal.returns-in-None
returns-in-None c = held_fails ilv_written 65532 c.args.ilvs.now c.loop-ilv.ilv-index c.ilv-item.result (omega arith) c.ilv-item.is c.in-None.ensures.size

pub loop-ilv-preserved : goal.loop-ilv-preserved
loop-ilv-preserved c =
    held_more ilv_written 65532 c.args.ilvs.now c.loop-ilv.ilv-index c.ilv-item.result c.loop-ilv.sum c.in-Some.size (omega arith) c.ilv-item.is c.loop-ilv.invariant c.in-Some.ensures.size (omega arith)
