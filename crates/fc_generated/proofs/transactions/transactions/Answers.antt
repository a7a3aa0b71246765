use Rattle.std.proofs.Common.{◌++◌, ◌∷◌, [], ◌∙◌, ap, arith, rules}
use Rattle.fc_generated.specs.Transactions.{transaction}
use Rattle.fc_generated.proofs.Ranges.{no_more, one_more}
use Rattle.fc_generated.proofs.transactions.transactions.Goals as goal

pub loop-number-preserved : goal.loop-number-preserved
loop-number-preserved c = record {
  same = one_more transaction c.loop-number.number c.args.behind c.loop-number.transactions c.push.new.self _ (c.in_ok-push.ensures.ok ∙ ap (λ t. c.loop-number.transactions ++ t ∷ []) c.in_ok-transaction.ensures) c.loop-number.invariant.same (search rules);
  some = omega (arith, c.loop-number.invariant.some);
}

pub returns : goal.returns
returns c = no_more transaction c.loop-number.number c.args.behind c.loop-number.transactions _ c.loop-number.invariant.same (search rules)
