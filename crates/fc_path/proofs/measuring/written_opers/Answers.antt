use Rattle.std.proofs.Common.{arith}
use Rattle.fc_path.specs.Canon.{oper_written}
use Rattle.fc_path.proofs.Sizes.{held_over, held_fails, held_more}
use Rattle.fc_path.proofs.measuring.written_opers.Goals as goal

pub returns-then-sum-size : goal.returns-then-sum-size
returns-then-sum-size c =
    held_over oper_written 65524 c.args.opers.now c.loop-oper.oper-index c.oper-item.result c.loop-oper.sum c.in-Some.size (omega arith) c.oper-item.is c.loop-oper.invariant c.in-Some.ensures.size (omega arith)

pub returns-in-None : goal.returns-in-None
returns-in-None c = held_fails oper_written 65524 c.args.opers.now c.loop-oper.oper-index c.oper-item.result (omega arith) c.oper-item.is c.in-None.ensures.size

pub loop-oper-preserved : goal.loop-oper-preserved
loop-oper-preserved c =
    held_more oper_written 65524 c.args.opers.now c.loop-oper.oper-index c.oper-item.result c.loop-oper.sum c.in-Some.size (omega arith) c.oper-item.is c.loop-oper.invariant c.in-Some.ensures.size (omega arith)
