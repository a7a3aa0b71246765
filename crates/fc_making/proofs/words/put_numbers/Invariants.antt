use Rattle.std.proofs.Common.{◌≡◌, ◌++◌, length}
use Rattle.std.specs.List.{flat_map}
use Rattle.fc_wire.specs.Bytes.{u32_bytes}
use Rattle.fc_wire.specs.Writing.{writing}
use Rattle.fc_making.proofs.words.put_numbers.Given as goal

abbrev pub invariant-numbers : goal.invariant-numbers
invariant-numbers l = writing (l.to.text ++ flat_map u32_bytes l.numbers) l.to.places ≡ writing (l.fn.to.text ++ flat_map u32_bytes l.fn.numbers) l.fn.to.places

abbrev pub decreases-numbers : goal.decreases-numbers
decreases-numbers l = length l.numbers
