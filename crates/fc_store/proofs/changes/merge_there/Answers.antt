use Rattle.fc_instance.specs.Cells.{merge_cell}
use Rattle.fc_store.proofs.Doing.{changes_there}
use Rattle.fc_store.proofs.changes.merge_there.Goals as goal

pub returns : goal.returns
returns c =
    changes_there c.merge.result (λ v. merge_cell c.args.steps.now c.args.ilvs.now c.args.ty.now v) c.args.ty.now c.args.place c.args.instances.now.items
    c.index_mut.result.now c.merge.new.self c.requires c.index_mut.ensures.value c.merge.ensures.changed c.merge.ensures.held
