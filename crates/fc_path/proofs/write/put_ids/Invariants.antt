use Rattle.std.proofs.Common.{◌≡◌, ◌++◌, take}
use Rattle.std.specs.List.{flat_map}
use Rattle.fc_wire.specs.Bytes.{u32_bytes}
use Rattle.fc_wire.specs.Writing.{writing}
use Rattle.fc_path.proofs.write.put_ids.Given as goal

abbrev pub invariant-loop-id : goal.invariant-loop-id
invariant-loop-id l = l.to ≡ writing (l.fn.to.text ++ flat_map u32_bytes (take l.id-index l.ids)) l.fn.to.places
