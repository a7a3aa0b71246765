use Rattle.std.proofs.Common.{◌++◌, ◌∷◌, [], ◌∙◌, ap, arith, rules}
use Rattle.fc_generated.specs.Generated.{connect}
use Rattle.fc_generated.proofs.Ranges.{no_more, one_more}
use Rattle.fc_generated.proofs.steps.put_connections.Goals as goal

pub loop-element-preserved : goal.loop-element-preserved
loop-element-preserved c = record {
  same = one_more connect c.loop-element.element 9 c.loop-element.steps.items c.push.new.self.items _ (c.in_ok-push.ensures.items ∙ ap (λ s. c.loop-element.steps.items ++ s ∷ []) c.connect.ensures) c.loop-element.invariant.same (search rules);
  some = omega (arith, c.loop-element.invariant.some);
}

pub returns : goal.returns
returns c = no_more connect c.loop-element.element 9 c.loop-element.steps.items _ c.loop-element.invariant.same (search rules)
