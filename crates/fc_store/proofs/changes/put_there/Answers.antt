use Rattle.fc_instance.specs.Cells.{put_cell}
use Rattle.fc_store.proofs.Doing.{changes_there}
use Rattle.fc_store.proofs.changes.put_there.Goals as goal

pub returns : goal.returns
returns c =
    changes_there c.put.result (λ v. put_cell c.args.steps.now c.args.full.now c.args.ty.now v) c.args.ty.now c.args.place c.args.instances.now.items
    c.index_mut.result.now c.put.new.self c.requires c.index_mut.ensures.value c.put.ensures.changed c.put.ensures.held
