use Rattle.std.proofs.Common.{sym}
use Rattle.fc_rows.proofs.RowPlaces.{found, missing}
use Rattle.fc_rows.proofs.rows.RowList.get.Goals as goal

pub returns-in-Ok : goal.returns-in-Ok
returns-in-Ok c = sym (found c.args.self.now c.self.inside.entries.items c.as_slice.result.now _ c.args.subscript c.in-Ok.place c.index.result.now c.self.view_is c.self.invariant c.as_slice.ensures.value c.in-Ok.ensures.place c.in-Ok.ensures.range c.index.ensures)

pub returns-in-Err : goal.returns-in-Err
returns-in-Err c = sym (missing c.args.self.now c.self.inside.entries.items c.as_slice.result.now _ c.args.subscript c.in-Err.field-0 c.self.view_is c.self.invariant c.as_slice.ensures.value c.in-Err.ensures.place)
