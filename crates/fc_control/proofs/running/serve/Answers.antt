use Rattle.std.proofs.Common.{◌≢◌, ◌∙◌, sym, ap, refl, [], ◌∷◌, ◌++◌, ◌+◌, length-append, subst, arith, inr}
use Rattle.fc_hub.specs.declared.event.HubEvent.TheVariants.{Over}
use Rattle.fc_peers.specs.Acting.{Acts, ActsUntil}
use Rattle.fc_control.specs.ControlNode.{NodeState, has_ended, node_step}
use Rattle.fc_control.specs.Controls.{node_of}
use Rattle.fc_control.proofs.Serving.{after_more, took, went_into, went_more, went_none}
use Rattle.fc_control.proofs.running.serve.Goals as goal

pub turns-init : goal.turns-init
turns-init g c = record { went = ([], refl, went_none _ _, refl); goes = c.requires; count = refl }

pub turns-preserved : goal.turns-preserved
turns-preserved g c =
    let (es, count, went, is) = c.turns.invariant.went in
    let e = c.in-Ok.event in
    let n = node_of c.args.node.now in
    let other : e ≢ Over = λ over. (let t = c.if-is_over.ensures.1 over in cc) in
    let one = took _ _ _ n es e went c.in-Ok.ensures.ok c.in-Ok.ensures.event other in
    let told = c.in-Ok-take.ensures in
    record {
      went = (
        es ++ e ∷ [],
        length-append es (e ∷ []) ∙ ap (λ k. k + 1) count,
        went_more _ _ _ n es e one (subst (λ (m : NodeState). Acts (g.H.Hub.held c.next.new.self) (g.H.Hub.held c.take.new.hub) (node_step m e).acts) is told.acts),
        told.ok ∙ ap (λ m. (node_step m e).state) is ∙ sym (after_more n es e),
      );
      goes = sym c.has_ended.ensures ∙ c.if-has_ended.false;
      count = told.count ∙ c.in-Ok.ensures.cause.ok ∙ c.turns.invariant.count;
    }

pub returns-in-Err-clause-ends : goal.returns-in-Err-clause-ends
returns-in-Err-clause-ends g c =
    let (es, count, went, is) = c.turns.invariant.went in
    let e = c.in-Ok.event in
    let n = node_of c.args.node.now in
    let stop = c.in-Err.stop in
    let other : e ≢ Over = λ over. (let t = c.if-is_over.ensures.1 over in cc) in
    let one = took _ _ _ n es e went c.in-Ok.ensures.ok c.in-Ok.ensures.event other in
    let until = subst (λ (m : NodeState). ActsUntil stop (g.H.Hub.held c.next.new.self) (g.H.Hub.held c.take.new.hub) (node_step m e).acts) is c.in-Err.ensures.err in (
      es,
      omega (arith, count, c.turns-test.true),
      ap (λ (m : NodeState). has_ended m.control) (sym is) ∙ c.turns.invariant.goes,
      inr (e, went_into stop _ _ _ n es e one until),
    )

pub returns-then-has_ended-clause-ends : goal.returns-then-has_ended-clause-ends
returns-then-has_ended-clause-ends g c =
    let (es, count, went, is) = c.turns.invariant.went in
    let e = c.in-Ok.event in
    let n = node_of c.args.node.now in
    let other : e ≢ Over = λ over. (let t = c.if-is_over.ensures.1 over in cc) in
    let one = took _ _ _ n es e went c.in-Ok.ensures.ok c.in-Ok.ensures.event other in
    let told = c.in-Ok-take.ensures in (
      es,
      e,
      omega (arith, count, c.turns-test.true),
      ap (λ (m : NodeState). has_ended m.control) (sym is) ∙ c.turns.invariant.goes,
      went_more _ _ _ n es e one (subst (λ (m : NodeState). Acts (g.H.Hub.held c.next.new.self) (g.H.Hub.held c.take.new.hub) (node_step m e).acts) is told.acts),
      told.ok ∙ ap (λ m. (node_step m e).state) is ∙ sym (after_more n es e),
      sym c.has_ended.ensures ∙ c.if-has_ended.true,
    )
