use Rattle.std.proofs.Common.{◌≡◌, ◌++◌}
use Rattle.std.specs.FinMap.{from_sorted}
use Rattle.std.specs.Vec.Iter.{into_iter_items}
use Rattle.fc_rows.proofs.columns.fill.Given as goal

abbrev pub invariant-loop-subscript : goal.invariant-loop-subscript
invariant-loop-subscript l =
    (l.rows.0 ≡ from_sorted l.yielded) × (l.rows.1.1 ≡ l.fn.rows.1.1) × (l.yielded ++ into_iter_items l.subscript-iterator ≡ l.fn.entries.items)
