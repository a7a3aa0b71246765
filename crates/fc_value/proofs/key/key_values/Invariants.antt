use Rattle.std.proofs.Common.{◌≡◌, map, take}
use Rattle.fc_value.specs.Keys.{key_values}
use Rattle.fc_value.proofs.key.key_values.Given as goal

abbrev pub invariant-loop-entry : goal.invariant-loop-entry
invariant-loop-entry l = map (λ v. v.items) l.values.items ≡ key_values l.fields l.key (take l.entry-index l.entries)
