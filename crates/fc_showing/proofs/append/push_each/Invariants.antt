use Rattle.std.proofs.Common.{◌≡◌, ◌++◌, drop}
use Rattle.fc_base.specs.Hex.{hex_text}
use Rattle.fc_showing.specs.Appending.{Keeps}
use Rattle.fc_showing.proofs.append.push_each.Given as goal

abbrev pub invariant-bytes : goal.invariant-bytes
invariant-bytes l = record {
  text : l.into.items ++ hex_text (drop l.byte-index l.bytes) ≡ l.fn.into.items ++ hex_text l.bytes;
  kept : Keeps l.fn.into.items l.into.items;
}
