use Rattle.std.proofs.Common.{◌+◌, ◌*◌, length}
use Rattle.fc_path.specs.Stray.{beside}
use Rattle.fc_path.specs.Reading.{each_in, path_or, path_at}
use Rattle.fc_text.specs.Text.{path_text}
use Rattle.fc_showing.specs.Appending.{Keeps}
use Rattle.fc_showing.proofs.Appending.{Appended}
use Rattle.fc_showing.proofs.show_path.+show.Given as goal

abbrev pub decreases-show_path_at : goal.decreases-show_path_at
decreases-show_path_at l = 5 * l.depth

abbrev pub decreases-show_more_nested : goal.decreases-show_more_nested
decreases-show_more_nested l = 5 * l.depth + 1

abbrev pub decreases-show_nested : goal.decreases-show_nested
decreases-show_nested l = 5 * l.depth + 2

abbrev pub decreases-show_held : goal.decreases-show_held
decreases-show_held l = 5 * l.depth + 3

abbrev pub decreases-show_body : goal.decreases-show_body
decreases-show_body l = 5 * l.depth + 4

abbrev pub invariant-show_more_nested-items : goal.invariant-show_more_nested-items
invariant-show_more_nested-items l = record {
  so_far : Appended (path_or beside (path_at l.kind l.depth)) (λ path. path_text path l.level) l.tlvs.items l.tlvs.fault l.fn.into.items l.into.items
      (each_in (path_or beside (path_at l.kind l.depth)) l.fn.tlvs.items l.fn.tlvs.fault);
  kept : Keeps l.fn.into.items l.into.items;
}

abbrev pub decreases-show_more_nested-items : goal.decreases-show_more_nested-items
decreases-show_more_nested-items l = length l.tlvs.items
