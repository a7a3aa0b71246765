use Rattle.std.proofs.Common.{◌≡◌, ℕ, bytes_eq, false}
use Rattle.std.specs.List.{AllWithin}
use Rattle.fc_value.specs.Keys.{key_value}
use Rattle.fc_value.specs.declared.value.Value.{Value}
use Rattle.fc_tree.proofs.find.place_with_key.Given as goal

abbrev pub invariant-loop-place : goal.invariant-loop-place
invariant-loop-place l = AllWithin (λ (e : ℕ × Value). bytes_eq (key_value l.fields l.key e.1) l.bytes ≡ false) l.entries 0 l.place
