use Rattle.fc_instance.proofs.Kept.{kept_cell, kept_rising}
use Rattle.fc_instance.proofs.slots.of_entries.Goals as goal

pub of-requires-clause-rising : goal.of-requires-clause-rising
of-requires-clause-rising c = kept_rising c.args.entries c.as_slice.result.now c.rise.result c.as_slice.ensures c.rise.ensures c.if-not-rise.false

pub returns : goal.returns
returns c = kept_cell c.args.entries c.as_slice.result.now c.as_slice-3.result.now c.args.fields.now c.in_ok-fields.fields c.args.fields.now c.args.keys.now c.in_ok-keys.keys c.as_slice-2.result.now c.in_ok-of.field-0 c.rise.result c.in_ok-keys_differ.field-0
    c.as_slice.ensures c.rise.ensures c.if-not-rise.false c.as_slice-3.ensures c.as_slice-2.ensures c.in_ok-keys_differ.ensures c.if-not-branch.false c.in_ok-of.ensures.rows c.in_ok-of.ensures.shape
    c.in_ok-fields.ensures c.in_ok-keys.ensures
