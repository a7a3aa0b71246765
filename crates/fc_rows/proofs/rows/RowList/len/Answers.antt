use Rattle.std.proofs.Common.{arith}
use Rattle.fc_rows.proofs.RowPlaces.{count}
use Rattle.fc_rows.proofs.rows.RowList.len.Goals as goal

pub returns : goal.returns
returns c = omega (arith, count c.args.self.now c.self.inside.entries.items _ c.self.view_is c.self.invariant)
