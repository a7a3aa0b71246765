use Rattle.fc_instance.specs.Cells.{remove_cell}
use Rattle.fc_store.proofs.Doing.{changes_there}
use Rattle.fc_store.proofs.changes.remove_there.Goals as goal

pub returns : goal.returns
returns c =
    changes_there c.remove.result (λ v. remove_cell c.args.optional c.args.steps.now c.args.ty.now v) c.args.ty.now c.args.place c.args.instances.now.items
    c.index_mut.result.now c.remove.new.self c.requires c.index_mut.ensures.value c.remove.ensures.changed c.remove.ensures.held
