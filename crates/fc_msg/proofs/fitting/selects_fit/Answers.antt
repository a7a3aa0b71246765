use Rattle.std.proofs.Common.{map, Some, sym, subst, arith}
use Rattle.std.proofs.lemmas.List.{take_all}
use Rattle.fc_path.specs.Canon.{joined, select_written}
use Rattle.fc_path.specs.Results.{Held}
use Rattle.fc_path.proofs.Sizes.{held_over, held_fails, held_more}
use Rattle.fc_msg.proofs.Measured.{held_fits}
use Rattle.fc_msg.proofs.fitting.selects_fit.Goals as goal

pub returns-then-sum-size-gt-MOST_BODY : goal.returns-then-sum-size-gt-MOST_BODY
returns-then-sum-size-gt-MOST_BODY c =
    sym (held_over select_written 262117 c.args.selects.now c.loop-select.select-index c.select-item.result c.loop-select.sum c.in-Some.size (omega arith) c.select-item.is c.loop-select.invariant c.in-Some.ensures.size (omega arith))

pub returns-in-None : goal.returns-in-None
returns-in-None c = sym (held_fails select_written 262117 c.args.selects.now c.loop-select.select-index c.select-item.result (omega arith) c.select-item.is c.in-None.ensures.size)

pub loop-select-preserved : goal.loop-select-preserved
loop-select-preserved c =
    held_more select_written 262117 c.args.selects.now c.loop-select.select-index c.select-item.result c.loop-select.sum c.in-Some.size (omega arith) c.select-item.is c.loop-select.invariant c.in-Some.ensures.size (omega arith)

pub returns : goal.returns
returns c =
    held_fits (joined (map select_written c.args.selects.now)) c.loop-select.sum
    (subst (λ l. Held 262117 (Some c.loop-select.sum) (joined (map select_written l))) (take_all c.loop-select.select-index c.args.selects.now (omega arith)) c.loop-select.invariant)
