use Rattle.std.proofs.Common.{◌++◌, ◌∷◌, [], ◌∙◌, ap, arith, map, rules}
use Rattle.fc_generated.specs.Transactions.{ids, part}
use Rattle.fc_generated.proofs.Ranges.{no_more, one_more}
use Rattle.fc_generated.proofs.transactions.parts.Goals as goal

pub loop-element-init : goal.loop-element-init
loop-element-init c = record { same = ap (λ parts. parts ++ map (part c.args.number) ids) c.new-parts.ensures; some = omega arith }

pub loop-element-preserved : goal.loop-element-preserved
loop-element-preserved c = record {
  same = one_more (part c.args.number) c.loop-element.element 9 c.loop-element.parts c.push.new.self _ (c.in_ok-push.ensures.ok ∙ ap (λ p. c.loop-element.parts ++ p ∷ []) c.in_ok-part.ensures) c.loop-element.invariant.same (search rules);
  some = omega (arith, c.loop-element.invariant.some);
}

pub returns : goal.returns
returns c = no_more (part c.args.number) c.loop-element.element 9 c.loop-element.parts _ c.loop-element.invariant.same (search rules)
