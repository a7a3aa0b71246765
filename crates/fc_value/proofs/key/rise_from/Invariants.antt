use Rattle.std.proofs.Common.{◌≡◌, ◌∷◌, drop}
use Rattle.fc_value.specs.Keys.{is_rising, key_values}
use Rattle.fc_value.proofs.key.rise_from.Given as goal

abbrev pub invariant-loop-entry : goal.invariant-loop-entry
invariant-loop-entry l = is_rising (l.last.items ∷ key_values l.fields l.key (drop l.entry-index l.entries)) ≡ is_rising (l.fn.first.items ∷ key_values l.fields l.key l.entries)
