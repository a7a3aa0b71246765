use Rattle.std.proofs.Common.{◌≡◌, ◌++◌, take}
use Rattle.std.specs.List.{flat_map}
use Rattle.fc_showing.specs.Appending.{Keeps}
use Rattle.fc_text.specs.Text.{path_text}
use Rattle.fc_showing.proofs.message.+show.Given as goal

abbrev pub invariant-push_paths-loop-path : goal.invariant-push_paths-loop-path
invariant-push_paths-loop-path l = record {
  text : l.into.items ≡ l.fn.into.items ++ flat_map (λ path. path_text path l.level) (take l.path-index l.paths);
  kept : Keeps l.fn.into.items l.into.items;
}
