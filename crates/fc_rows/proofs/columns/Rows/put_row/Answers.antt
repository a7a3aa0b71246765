use Rattle.fc_rows.proofs.ColumnLaws.{swap_ready}
use Rattle.fc_rows.proofs.columns.Rows.put_row.Goals as goal

pub swap-requires : goal.swap-requires
swap-requires c = swap_ready c.args.self.now c.reserve.new.self c.args.subscript c.args.value c.args.entering c.args.leaving c.as_slice.result.now c.requires c.as_slice.ensures c.reserve.ensures.same c.reserve.ensures.shape c.in_ok-reserve.ensures.ok
