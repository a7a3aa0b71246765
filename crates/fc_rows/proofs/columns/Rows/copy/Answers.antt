use Rattle.std.proofs.Common.{◌∙◌}
use Rattle.fc_rows.proofs.Filling.{copied_apart, copied_rising, copied_rows}
use Rattle.fc_rows.proofs.columns.Rows.copy.Goals as goal

pub of-requires-clause-rising : goal.of-requires-clause-rising
of-requires-clause-rising c = copied_rising c.args.self.now.0 _ c.in_ok-to_list.ensures

pub of-requires-clause-apart : goal.of-requires-clause-apart
of-requires-clause-apart c = copied_apart c.args.self.now c.self.inside.entries.0 c.self.inside.room (c.self.inside.fields, c.self.inside.keys) c.self.inside.indexes.items _ _ _ c.self.view_is c.self.invariant.each
    (c.fields.view_is ∙ c.in_ok-fields.ensures) c.in_ok-keys.ensures c.in_ok-to_list.ensures

pub returns-clause-rows : goal.returns-clause-rows
returns-clause-rows c = copied_rows c.args.self.now.0 c.in_ok-rows.rows.0 _ _ c.reserve.ensures.same c.in_ok-rows.ensures.rows c.in_ok-to_list.ensures
