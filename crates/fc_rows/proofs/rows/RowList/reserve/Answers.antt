use Rattle.std.proofs.Common.{arith}
use Rattle.fc_rows.proofs.RowPlaces.{count}
use Rattle.fc_rows.proofs.rows.RowList.reserve.Goals as goal

pub returns-clause-ok : goal.returns-clause-ok
returns-clause-ok c = omega (arith, count c.args.self.now c.self.inside.entries.items _ c.self.view_is c.self.invariant, c.in_ok-reserve.ensures.ok, c.reserve.ensures.len)
