use Rattle.std.proofs.Common.{◌≡◌, arith, length}
use Rattle.fc_rows.proofs.Updating.{on_ok}
use Rattle.fc_rows.proofs.ColumnLaws.{room_next, wider_all, wider_length, wider_twice}
use Rattle.fc_rows.proofs.columns.+reserve_first.Goals as goal

pub returns-then-places-eq0-clause-wider : goal.returns-then-places-eq0-clause-wider
returns-then-places-eq0-clause-wider t c = wider_all c.args.indexes.now.items

pub reserve_first-requires : goal.reserve_first-requires
reserve_first-requires t c = (omega arith, let n : length c.reserve_at.new.indexes.items ≡ length c.args.indexes.now.items = wider_length c.args.indexes.now.items c.reserve_at.new.indexes.items c.reserve_at.ensures.wider in omega (arith, n))

pub returns-clause-wider : goal.returns-clause-wider
returns-clause-wider t c = wider_twice c.args.indexes.now.items c.reserve_at.new.indexes.items c.reserve_first.new.indexes.items c.reserve_at.ensures.wider c.reserve_first.ensures.wider

pub returns-clause-ok : goal.returns-clause-ok
returns-clause-ok t c = on_ok c.reserve_first.result _ _ (room_next c.args.count c.args.places c.reserve_at.new.indexes.items c.reserve_first.new.indexes.items (omega arith) c.in_ok-reserve_at.ensures.ok c.reserve_first.ensures.wider) c.reserve_first.ensures.ok
