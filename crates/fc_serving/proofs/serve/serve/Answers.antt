use Rattle.std.proofs.Common.{◌≢◌, ◌∙◌, sym, ap, refl, [], ◌∷◌, ◌++◌, ◌+◌, length-append}
use Rattle.fc_hub.specs.declared.event.HubEvent.TheVariants.{Over}
use Rattle.fc_serving.specs.ElementNode.{node_step}
use Rattle.fc_serving.proofs.Serving.{after_more, took, went_more, went_none}
use Rattle.fc_serving.proofs.serve.serve.Goals as goal

pub turns-init : goal.turns-init
turns-init g c = record { went = ([], refl, went_none _ _, refl); count = refl }

pub turns-preserved : goal.turns-preserved
turns-preserved g c =
    let (es, count, went, is) = c.turns.invariant.went in
    let e = c.in-Ok.event in
    let n = c.args.node.now in
    let other : e ≢ Over = λ over. (let t = c.if-is_over.ensures.1 over in cc) in
    let one = took _ _ _ n es e went c.in-Ok.ensures.ok c.in-Ok.ensures.event other in
    let told = c.in-Ok-take.ensures in
    record {
      went = (
        es ++ e ∷ [],
        length-append es (e ∷ []) ∙ ap (λ k. k + 1) count,
        went_more _ _ _ n es e one (rw is at told.acts),
        told.ok ∙ ap (λ m. (node_step m e).state) is ∙ sym (after_more n es e),
      );
      count = told.count ∙ c.in-Ok.ensures.cause.ok ∙ c.turns.invariant.count;
    }
