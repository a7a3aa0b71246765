use Rattle.std.proofs.Common.{◌≡◌, replicate, vec_capacity}
use Rattle.fc_keys.specs.declared.tree.Tree.TheVariants.{Leaf}
use Rattle.fc_keys.proofs.table.Table.with_buckets.Given as goal

abbrev pub invariant-loop : goal.invariant-loop
invariant-loop l = record {
  items : l.buckets.items ≡ replicate l.counter Leaf;
  capacity : vec_capacity l.buckets ≡ l.count;
}
