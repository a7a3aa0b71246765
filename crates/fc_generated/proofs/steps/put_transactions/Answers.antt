use Rattle.std.proofs.Common.{arith, rules}
use Rattle.fc_generated.specs.Generated.{steps_of}
use Rattle.fc_generated.proofs.Ranges.{nothing_more, some_more}
use Rattle.fc_generated.proofs.steps.put_transactions.Goals as goal

pub loop-number-preserved : goal.loop-number-preserved
loop-number-preserved c = record {
  same = some_more steps_of c.loop-number.number c.args.behind c.loop-number.steps.items c.put_transaction.new.steps.items _ c.in_ok-put_transaction.ensures c.loop-number.invariant.same (search rules);
  some = omega (arith, c.loop-number.invariant.some);
}

pub returns : goal.returns
returns c = nothing_more steps_of c.loop-number.number c.args.behind c.loop-number.steps.items _ c.loop-number.invariant.same (search rules)
