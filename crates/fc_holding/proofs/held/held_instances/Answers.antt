use Rattle.fc_holding.proofs.Recorded.{held_begun, held_further, held_whole}
use Rattle.fc_holding.proofs.held.held_instances.Goals as goal

pub loop-at-init : goal.loop-at-init
loop-at-init c = held_begun c.args.all.now c.args.but.now c.first_held-at.result c.args.records.now.entries c.new-held.result.items c.new-held.ensures.items c.first_held-at.ensures

pub loop-at-preserved : goal.loop-at-preserved
loop-at-preserved c = held_further c.args.all.now c.args.but.now c.args.records.now.entries c.loop-at.at c.loop-at.held.items c.push_held_at.new.held.items c.in_ok-push_held_at.ensures c.loop-at.invariant

pub returns : goal.returns
returns c = held_whole c.args.all.now c.args.but.now c.args.records.now.entries c.loop-at.at c.len-at-end.result c.loop-at.held.items c.len-at-end.ensures.same c.loop-at-test.false c.loop-at.invariant
