use Rattle.fc_instance.proofs.EntryChanges.{put_by_path, split}
use Rattle.fc_instance.proofs.instance.Instance.put.Goals as goal

pub returns-in-Some-clause-changed : goal.returns-in-Some-clause-changed
returns-in-Some-clause-changed c = put_by_path c.put_row.result c.args.ty.now c.args.component c.args.self.now.now c.put_row.new.self.now c.args.steps.now _ c.first-item.result c.args.full.now c.in_ok-path-in-len1-up.field-0 c.in-Some.path
    (split c.args.steps.now c.first-item.result c.in-len1-up.len_at_least c.first-item.is) c.in-Some.is c.in_ok-path-in-len1-up.ensures c.put_row.ensures.changes
