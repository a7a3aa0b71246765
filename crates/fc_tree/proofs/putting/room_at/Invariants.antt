use Rattle.std.proofs.Common.{◌<◌, ℕ}
use Rattle.std.specs.List.{AllWithin}
use Rattle.fc_value.specs.declared.value.Value.{Value}
use Rattle.fc_tree.proofs.putting.room_at.Given as goal

abbrev pub invariant-loop-place : goal.invariant-loop-place
invariant-loop-place l = AllWithin (λ (e : ℕ × Value). e.0 < l.subscript) l.entries 0 l.place
