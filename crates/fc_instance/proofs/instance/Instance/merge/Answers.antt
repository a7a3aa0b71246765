use Rattle.fc_instance.proofs.EntryChanges.{merge_by_path, split}
use Rattle.fc_instance.proofs.instance.Instance.merge.Goals as goal

pub returns-in-Some-clause-changed : goal.returns-in-Some-clause-changed
returns-in-Some-clause-changed c = merge_by_path c.merge_row.result c.args.ty.now c.args.component c.args.self.now.now c.merge_row.new.self.now c.args.steps.now _ c.first-item.result c.args.ilvs.now c.in_ok-path-in-len1-up.field-0 c.in-Some.path
    (split c.args.steps.now c.first-item.result c.in-len1-up.len_at_least c.first-item.is) c.in-Some.is c.in_ok-path-in-len1-up.ensures c.merge_row.ensures.changes
