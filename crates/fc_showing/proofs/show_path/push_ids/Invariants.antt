use Rattle.std.proofs.Common.{◌≡◌, ◌++◌, length}
use Rattle.std.specs.List.{flat_map}
use Rattle.fc_showing.specs.Appending.{Keeps}
use Rattle.fc_text.specs.Text.{id_text}
use Rattle.fc_showing.proofs.show_path.push_ids.Given as goal

abbrev pub invariant-ids : goal.invariant-ids
invariant-ids l = record {
  text : l.into.items ++ flat_map id_text l.ids ≡ l.fn.into.items ++ flat_map id_text l.fn.ids;
  kept : Keeps l.fn.into.items l.into.items;
}

abbrev pub decreases-ids : goal.decreases-ids
decreases-ids l = length l.ids
