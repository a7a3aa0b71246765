use Rattle.std.proofs.Common.{◌∙◌}
use Rattle.fc_keys.proofs.Spread.{moved_on}
use Rattle.fc_keys.proofs.table.move_all.Goals as goal

pub loop-tree-preserved : goal.loop-tree-preserved
loop-tree-preserved c = record {
  pairs = λ q. moved_on _ q c.loop-tree.tree-iterator.rest.items c.next.new.self.rest.items c.in-Some.tree c.loop-tree.table.0 c.move_in.new.table.0 (c.loop-tree.invariant.pairs q) c.in-Some.ensures.steps.0 (c.move_in.ensures.pairs q);
  buckets = c.move_in.ensures.buckets ∙ c.loop-tree.invariant.buckets;
}
