use Rattle.std.proofs.Common.{◌≡◌, ◌++◌, drop}
use Rattle.fc_store.specs.Stores.{map_from}
use Rattle.fc_store.specs.Trees.{settled_held}
use Rattle.fc_store.proofs.copies.copy_each.Given as goal

abbrev pub invariant-loop-place : goal.invariant-loop-place
invariant-loop-place l = l.others.items ++ map_from (settled_held l.marks) l.place (drop l.place l.instances) ≡ map_from (settled_held l.marks) 0 l.instances
