use Rattle.fc_instance.proofs.EntryChanges.{leads_along, split}
use Rattle.fc_instance.proofs.instance.Instance.remove.Goals as goal

pub remove_row-requires-clause-path : goal.remove_row-requires-clause-path
remove_row-requires-clause-path c = leads_along c.args.ty.now _ c.args.steps.now _ c.first-item.result c.in_ok-path-in-len1-up.field-0 c.in-Some.path (split c.args.steps.now c.first-item.result c.in-len1-up.len_at_least c.first-item.is) c.in-Some.is c.in_ok-path-in-len1-up.ensures
