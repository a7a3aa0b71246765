use Rattle.std.proofs.Common.{◌≡◌, ◌++◌, take}
use Rattle.fc_value.specs.Keys.{fields_bytes}
use Rattle.fc_value.proofs.key.write_some.Given as goal

abbrev pub invariant-loop-id : goal.invariant-loop-id
invariant-loop-id l = l.into.items ≡ l.fn.into.items ++ fields_bytes l.fields (take l.id-index l.ids) l.values
