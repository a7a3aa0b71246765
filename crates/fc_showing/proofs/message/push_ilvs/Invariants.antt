use Rattle.std.proofs.Common.{◌≡◌, ◌++◌, take}
use Rattle.std.specs.List.{flat_map}
use Rattle.fc_showing.specs.Appending.{Keeps}
use Rattle.fc_text.specs.Text.{ilv_text}
use Rattle.fc_showing.proofs.message.push_ilvs.Given as goal

abbrev pub invariant-loop-ilv : goal.invariant-loop-ilv
invariant-loop-ilv l = record {
  text : l.into.items ≡ l.fn.into.items ++ flat_map (ilv_text l.level) (take l.ilv-index l.ilvs);
  kept : Keeps l.fn.into.items l.into.items;
}
