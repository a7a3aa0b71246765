use Rattle.std.proofs.Common.{◌≡◌, ◌++◌, take}
use Rattle.std.specs.List.{flat_map}
use Rattle.fc_showing.specs.Appending.{Keeps}
use Rattle.fc_text.specs.Text.{select_text}
use Rattle.fc_showing.proofs.message.push_selects.Given as goal

abbrev pub invariant-loop-select : goal.invariant-loop-select
invariant-loop-select l = record {
  text : l.into.items ≡ l.fn.into.items ++ flat_map select_text (take l.select-index l.selects);
  kept : Keeps l.fn.into.items l.into.items;
}
