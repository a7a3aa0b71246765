use Rattle.std.proofs.Common.{◌≡◌, map, take}
use Rattle.fc_types.proofs.ids.ids_of.Given as goal

abbrev pub invariant-loop-item : goal.invariant-loop-item
invariant-loop-item g l = l.ids.items ≡ map g.T.Identified.id_of (take l.item-index l.item-items)
