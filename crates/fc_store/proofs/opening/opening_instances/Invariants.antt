use Rattle.std.proofs.Common.{take}
use Rattle.fc_store.specs.Stores.{Pairwise}
use Rattle.fc_store.specs.Trees.{IsOpened}
use Rattle.fc_store.proofs.opening.opening_instances.Given as goal

abbrev pub invariant-loop-pair : goal.invariant-loop-pair
invariant-loop-pair l = Pairwise (IsOpened l.classes) (take l.pair-index l.pairs) l.instances.items
