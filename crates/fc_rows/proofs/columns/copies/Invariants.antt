use Rattle.std.proofs.Common.{◌≡◌, take}
use Rattle.fc_rows.proofs.columns.copies.Given as goal

abbrev pub invariant-loop-subscript : goal.invariant-loop-subscript
invariant-loop-subscript l = l.others.items ≡ take l.subscript-index l.entries
