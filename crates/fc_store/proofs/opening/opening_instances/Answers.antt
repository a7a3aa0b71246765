use Rattle.std.proofs.Common.{slice_index_or}
use Rattle.fc_store.proofs.Kept.{instances_more}
use Rattle.fc_store.proofs.Lists.{get_again}
use Rattle.fc_store.proofs.opening.opening_instances.Goals as goal

pub loop-pair-preserved : goal.loop-pair-preserved
loop-pair-preserved c =
    instances_more c.args.classes.now c.args.pairs.now c.loop-pair.pair-index (slice_index_or c.args.pairs.now c.loop-pair.pair-index (0, 0)) c.loop-pair.instances.items c.push.new.self.items c.in_ok-opening_instance.field-0
    c.loop-pair.invariant c.loop-pair-test.true (get_again c.args.pairs.now c.loop-pair.pair-index (0, 0) c.loop-pair-test.true) c.in_ok-opening_instance.ensures c.in_ok-push.ensures.items
