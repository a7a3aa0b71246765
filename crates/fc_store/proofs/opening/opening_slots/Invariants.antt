use Rattle.std.proofs.Common.{take}
use Rattle.fc_instance.specs.Histories.{values_of}
use Rattle.fc_store.specs.Stores.{Pairwise}
use Rattle.fc_store.specs.Trees.{Opens}
use Rattle.fc_store.proofs.opening.opening_slots.Given as goal

abbrev pub invariant-loop-component : goal.invariant-loop-component
invariant-loop-component l = Pairwise (Opens l.class) (take l.component-index l.components) (values_of l.slots.items)
