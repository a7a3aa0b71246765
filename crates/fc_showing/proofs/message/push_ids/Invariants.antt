use Rattle.std.proofs.Common.{◌≡◌, ◌++◌, take}
use Rattle.std.specs.List.{flat_map}
use Rattle.fc_showing.specs.Appending.{Keeps}
use Rattle.fc_text.specs.Text.{id_text}
use Rattle.fc_showing.proofs.message.push_ids.Given as goal

abbrev pub invariant-loop-id : goal.invariant-loop-id
invariant-loop-id l = record {
  text : l.into.items ≡ l.fn.into.items ++ flat_map id_text (take l.id-index l.ids);
  kept : Keeps l.fn.into.items l.into.items;
}
