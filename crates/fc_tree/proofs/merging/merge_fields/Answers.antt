use Rattle.fc_tree.specs.Merging.{merged_fields}
use Rattle.fc_tree.proofs.Merges.{fields_popped}
use Rattle.fc_tree.proofs.merging.merge_fields.Goals as goal

pub loop-id-preserved : goal.loop-id-preserved
loop-id-preserved c = fields_popped c.args.fields.now c.loop-id.changes.items c.pop.new.self.items c.loop-id.value (merged_fields c.args.fields.now c.args.changes c.args.value) c.in-Some.id c.in-Some.new c.set_field-value.result c.in-Some.ensures.items c.set_field-value.ensures c.loop-id.invariant
