use Rattle.std.proofs.Common.{◌≡◌, take}
use Rattle.fc_tree.specs.Finding.{picked}
use Rattle.fc_tree.proofs.find.picked_fields.Given as goal

abbrev pub invariant-loop-id : goal.invariant-loop-id
invariant-loop-id l = l.found ≡ picked l.fields (take l.id-index l.ids)
