use Rattle.std.proofs.Common.{[], ◌∷◌, arith, subst, sym, ◌∙◌}
use Rattle.std.specs.FinMap.{len-entries}
use Rattle.fc_element.proofs.Beats.{all_sent, beats_length, one_more}
use Rattle.std.specs.List.{AllByRecursion}
use Rattle.fc_performing.specs.Sending.{IsSaid}
use Rattle.fc_element.proofs.Telling.{all_append}
use Rattle.fc_element.proofs.replies.push_beats.Goals as goal

pub loop-place-preserved : goal.loop-place-preserved
loop-place-preserved c = record {
  sent = c.push_reserved.ensures.items ∙ one_more _ _ _ _ _ c.in-Some.ensures.exact c.loop-place.invariant.sent;
  room = omega (arith, c.push_reserved.ensures.len, c.loop-place.invariant.room);
  capacity = c.push_reserved.ensures.capacity ∙ c.loop-place.invariant.capacity;
  proper = λ all. subst (AllByRecursion IsSaid) (sym c.push_reserved.ensures.items) (all_append IsSaid c.loop-place.outs.items (c.in-Some.out ∷ []) (c.loop-place.invariant.proper all) (c.in-Some.ensures.proper, tt));
}

pub returns-clause-sent : goal.returns-clause-sent
returns-clause-sent c =
    all_sent _ _ _ c.loop-place.place (omega (arith, len-entries c.args.associations.now, beats_length c.args.id c.args.associations.now, c.len-place-end.ensures.same, c.loop-place-test.false))
    c.loop-place.invariant.sent
