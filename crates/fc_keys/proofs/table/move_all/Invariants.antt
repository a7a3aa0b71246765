use Rattle.std.proofs.Common.{◌≡◌, ℕ, List}
use Rattle.std.specs.Option.{option_or}
use Rattle.std.specs.FinMap as map
use Rattle.std.specs.FinMap.{find}
use Rattle.std.specs.Vec.Iter.{into_iter_items}
use Rattle.fc_keys.specs.Buckets.{pairs_in}
use Rattle.fc_keys.specs.Keys.{key_cmp}
use Rattle.fc_keys.proofs.table.move_all.Given as goal

abbrev pub invariant-loop-tree : goal.invariant-loop-tree
invariant-loop-tree l = record {
  pairs : (q : List ℕ) → option_or (map.get l.table.0 q) (find key_cmp q (pairs_in (into_iter_items l.tree-iterator))) ≡ option_or (map.get l.fn.table.0 q) (find key_cmp q (pairs_in l.fn.trees.items));
  buckets : l.table.1 ≡ l.fn.table.1;
}
