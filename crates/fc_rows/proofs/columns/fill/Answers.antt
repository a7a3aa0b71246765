use Rattle.std.proofs.Common.{refl, ◌∙◌}
use Rattle.fc_rows.proofs.Filling.{filled_on, none_filled}
use Rattle.fc_rows.proofs.columns.fill.Goals as goal

pub loop-subscript-init : goal.loop-subscript-init
loop-subscript-init c = (none_filled _ c.requires.none, refl, c.into_iter-subscript-iterator.ensures.into_iter_gives.0)

pub loop-subscript-preserved : goal.loop-subscript-preserved
loop-subscript-preserved c =
    let next = filled_on c.loop-subscript.rows.1.1 c.args.rows.now.1.1 c.args.entries.items c.loop-subscript.yielded c.loop-subscript.subscript-iterator.rest.items c.next.new.self.rest.items (c.in-Some.subscript, c.in-Some.value)
    c.loop-subscript.rows.0 c.put.new.self.0 c.in_ok-put.field-0 c.requires.rising c.requires.apart c.loop-subscript.invariant.1 c.loop-subscript.invariant.0 c.loop-subscript.invariant.2 c.in-Some.ensures.steps.0
    c.in_ok-put.ensures.done c.in_ok-put.ensures.rows in
    (next.0, c.put.ensures.shape ∙ c.loop-subscript.invariant.1, next.1)
