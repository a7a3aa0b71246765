use Rattle.std.proofs.Common.{◌≡◌, length}
use Rattle.std.specs.List.{flat_map}
use Rattle.fc_path.specs.Reading.{sparse_in}
use Rattle.fc_showing.specs.Appending.{Keeps, shown}
use Rattle.fc_text.specs.Text.{ilv_text}
use Rattle.fc_showing.proofs.show_path.show_ilvs.Given as goal

abbrev pub invariant-items : goal.invariant-items
invariant-items l = record {
  text : shown (sparse_in l.ilvs.items l.ilvs.fault) (flat_map (ilv_text l.level)) l.into.items ≡ shown (sparse_in l.fn.ilvs.items l.fn.ilvs.fault) (flat_map (ilv_text l.level)) l.fn.into.items;
  kept : Keeps l.fn.into.items l.into.items;
}

abbrev pub decreases-items : goal.decreases-items
decreases-items l = length l.ilvs.items
