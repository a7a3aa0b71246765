use Rattle.std.proofs.Common.{◌≡◌, ◌++◌, length}
use Rattle.fc_base.specs.Hex.{hex_text}
use Rattle.fc_showing.specs.Appending.{Keeps}
use Rattle.fc_showing.proofs.append.push_hex.Given as goal

abbrev pub invariant-eights : goal.invariant-eights
invariant-eights l = record {
  text : l.into.items ++ hex_text l.rest ≡ l.fn.into.items ++ hex_text l.bytes;
  kept : Keeps l.fn.into.items l.into.items;
}

abbrev pub decreases-eights : goal.decreases-eights
decreases-eights l = length l.rest
