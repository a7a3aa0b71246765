use Rattle.std.proofs.Common.{◌≡◌, drop}
use Rattle.fc_value.specs.Keys.{keys_differ}
use Rattle.fc_value.proofs.key.keys_differ.Given as goal

abbrev pub invariant-loop-key : goal.invariant-loop-key
invariant-loop-key l = keys_differ l.fields (drop l.key-index l.keys) l.entries ≡ keys_differ l.fields l.keys l.entries
