use Rattle.std.proofs.Common.{◌++◌, ◌∷◌, [], ◌∙◌, ap, arith, rules}
use Rattle.fc_generated.specs.Generated.{element}
use Rattle.fc_generated.proofs.Ranges.{no_more, one_more}
use Rattle.fc_generated.proofs.script.elements.Goals as goal

pub loop-number-preserved : goal.loop-number-preserved
loop-number-preserved c = record {
  same = one_more element c.loop-number.number 9 c.loop-number.elements c.push.new.self _ (c.in_ok-push.ensures.ok ∙ ap (λ e. c.loop-number.elements ++ e ∷ []) c.element.ensures) c.loop-number.invariant.same (search rules);
  some = omega (arith, c.loop-number.invariant.some);
}

pub returns : goal.returns
returns c = no_more element c.loop-number.number 9 c.loop-number.elements _ c.loop-number.invariant.same (search rules)
