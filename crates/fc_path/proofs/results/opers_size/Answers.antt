use Rattle.std.proofs.Common.{arith}
use Rattle.fc_path.proofs.Sizes.{oper_part, held_over, held_fails, held_more}
use Rattle.fc_path.proofs.results.opers_size.Goals as goal

pub returns-then-sum-size-gt-VALUE : goal.returns-then-sum-size-gt-VALUE
returns-then-sum-size-gt-VALUE c =
    held_over oper_part 65532 c.args.opers.now c.loop-oper.oper-index c.oper-item.result c.loop-oper.sum c.in-Some.size (omega arith) c.oper-item.is c.loop-oper.invariant c.in-Some.ensures.size (omega arith)

pub returns-in-None : goal.returns-in-None
returns-in-None c = held_fails oper_part 65532 c.args.opers.now c.loop-oper.oper-index c.oper-item.result (omega arith) c.oper-item.is c.in-None.ensures.size

pub loop-oper-preserved : goal.loop-oper-preserved
loop-oper-preserved c =
    held_more oper_part 65532 c.args.opers.now c.loop-oper.oper-index c.oper-item.result c.loop-oper.sum c.in-Some.size (omega arith) c.oper-item.is c.loop-oper.invariant c.in-Some.ensures.size (omega arith)
