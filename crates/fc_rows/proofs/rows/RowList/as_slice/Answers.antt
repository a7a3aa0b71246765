use Rattle.std.proofs.Common.{◌∙◌}
use Rattle.fc_rows.proofs.RowPlaces.{listed}
use Rattle.fc_rows.proofs.rows.RowList.as_slice.Goals as goal

pub returns : goal.returns
returns c = c.as_slice.ensures.value ∙ listed c.args.self.now c.self.inside.entries.items _ c.self.view_is c.self.invariant
