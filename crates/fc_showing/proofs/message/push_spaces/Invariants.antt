use Rattle.std.proofs.Common.{◌≡◌, ◌++◌}
use Rattle.fc_showing.specs.Appending.{Keeps}
use Rattle.fc_text.specs.Text.{indent}
use Rattle.fc_showing.proofs.message.push_spaces.Given as goal

abbrev pub invariant-loop : goal.invariant-loop
invariant-loop l = record { text : l.into.items ≡ l.fn.into.items ++ indent l.counter; kept : Keeps l.fn.into.items l.into.items }
