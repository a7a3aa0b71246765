use Rattle.std.proofs.Common.{◌≡◌, map, take}
use Rattle.fc_types.specs.declared.ty.KeyDecl.{KeyDecl}
use Rattle.fc_value.specs.Keys.{key_value}
use Rattle.fc_rows.proofs.columns.keys_of_entry.Given as goal

abbrev pub invariant-loop-key : goal.invariant-loop-key
invariant-loop-key l = l.found.items ≡ map (λ (key : KeyDecl). key_value l.fields key l.value) (take l.key-index l.keys)
