use Rattle.std.proofs.Common.{◌∙◌, ap}
use Rattle.std.specs.FinMap.{get}
use Rattle.fc_rows.specs.Rowed.{RowMap, values_of_keys}
use Rattle.fc_rows.proofs.ColumnLaws.{free_seen, keys_seen, rows_seen}
use Rattle.fc_rows.proofs.columns.Rows.keys_for.Goals as goal

pub returns-then-not-are_free : goal.returns-then-not-are_free
returns-then-not-are_free c = free_seen c.args.self.now c.self.inside.entries.0 c.self.inside.room (c.self.inside.fields, c.self.inside.keys) c.self.inside.indexes.items c.as_slice.result.now c.args.subscript _ c.as_slice-2.result.now _ _ c.are_free.result
    c.self.view_is c.self.invariant.each c.as_slice.ensures.value (c.as_slice-2.ensures ∙ c.in_ok-entering.ensures) c.as_slice-fields.ensures c.as_slice-keys.ensures c.are_free.ensures ∙ c.if-not-are_free.true

pub returns : goal.returns
returns c = record {
  enters = keys_seen c.args.self.now c.self.inside.entries.0 c.self.inside.room (c.self.inside.fields, c.self.inside.keys) _ c.in_ok-entering.entering _ _ c.self.view_is c.in_ok-entering.ensures c.as_slice-fields.ensures c.as_slice-keys.ensures;
  leaves = keys_seen c.args.self.now c.self.inside.entries.0 c.self.inside.room (c.self.inside.fields, c.self.inside.keys) _ c.in_ok-leaving.leaving _ _ c.self.view_is c.in_ok-leaving.ensures c.as_slice-fields.ensures c.as_slice-keys.ensures
      ∙ ap (values_of_keys c.args.self.now.1.1.0 c.args.self.now.1.1.1) (c.get.ensures ∙ ap (λ (m : RowMap). get m c.args.subscript) (rows_seen c.args.self.now c.self.inside.entries.0 c.self.inside.room (c.self.inside.fields, c.self.inside.keys) c.self.view_is));
  apart = free_seen c.args.self.now c.self.inside.entries.0 c.self.inside.room (c.self.inside.fields, c.self.inside.keys) c.self.inside.indexes.items c.as_slice.result.now c.args.subscript _ c.as_slice-2.result.now _ _ c.are_free.result
      c.self.view_is c.self.invariant.each c.as_slice.ensures.value (c.as_slice-2.ensures ∙ c.in_ok-entering.ensures) c.as_slice-fields.ensures c.as_slice-keys.ensures c.are_free.ensures ∙ c.if-not-are_free.false;
}
