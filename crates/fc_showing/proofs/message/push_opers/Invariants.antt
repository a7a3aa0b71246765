use Rattle.std.proofs.Common.{◌≡◌, ◌++◌, take}
use Rattle.std.specs.List.{flat_map}
use Rattle.fc_showing.specs.Appending.{Keeps}
use Rattle.fc_text.specs.Text.{oper_text}
use Rattle.fc_showing.proofs.message.push_opers.Given as goal

abbrev pub invariant-loop-oper : goal.invariant-loop-oper
invariant-loop-oper l = record {
  text : l.into.items ≡ l.fn.into.items ++ flat_map oper_text (take l.oper-index l.opers);
  kept : Keeps l.fn.into.items l.into.items;
}
