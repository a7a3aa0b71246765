use Rattle.fc_rows.proofs.Updating.{on_ok}
use Rattle.fc_rows.proofs.ColumnLaws.{room_set, wider_set}
use Rattle.fc_rows.proofs.columns.reserve_at.Goals as goal

pub returns-clause-wider : goal.returns-clause-wider
returns-clause-wider c = wider_set c.args.indexes.now.items c.args.place c.index_mut.result.now c.reserve.new.self c.requires c.index_mut.ensures.value c.reserve.ensures.same c.reserve.ensures.room

pub returns-clause-ok : goal.returns-clause-ok
returns-clause-ok c = on_ok c.reserve.result _ _ (room_set c.args.count c.args.indexes.now.items c.args.place c.reserve.new.self) c.reserve.ensures.ok
