use Rattle.std.proofs.Common.{length}
use Rattle.fc_path.specs.Stray.{misplaced}
use Rattle.fc_path.specs.Reading.{each_in, path_or, path_at}
use Rattle.fc_text.specs.Text.{path_text}
use Rattle.fc_showing.specs.Appending.{Keeps}
use Rattle.fc_showing.proofs.Appending.{Appended}
use Rattle.fc_showing.proofs.showing.show_more_paths.Given as goal

abbrev pub invariant-items : goal.invariant-items
invariant-items l = record {
  so_far : Appended (path_or misplaced (path_at l.kind 16)) (λ path. path_text path 3) l.tlvs.items l.tlvs.fault l.fn.into.items l.into.items
      (each_in (path_or misplaced (path_at l.kind 16)) l.fn.tlvs.items l.fn.tlvs.fault);
  kept : Keeps l.fn.into.items l.into.items;
}

abbrev pub decreases-items : goal.decreases-items
decreases-items l = length l.tlvs.items
