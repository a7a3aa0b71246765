use Rattle.fc_store.proofs.Kept.{new_kept, new_seen}
use Rattle.fc_store.proofs.store.Store.new.Goals as goal

pub invariant_of-result : goal.invariant_of-result
invariant_of-result c =
    new_kept c.classes.result.now c.args.library.now c.in_ok-library.library c.pairs.result.now c.args.instances.now c.in_ok-instances.instances c.in_ok-trees.trees.items
    c.classes.ensures.same c.in_ok-library.ensures c.pairs.ensures.same c.in_ok-instances.ensures c.in_ok-trees.ensures

pub returns : goal.returns
returns c =
    new_seen c.classes.result.now c.args.library.now c.in_ok-library.library c.pairs.result.now c.args.instances.now c.in_ok-instances.instances c.in_ok-trees.trees.items
    c.classes.ensures.same c.in_ok-library.ensures c.pairs.ensures.same c.in_ok-instances.ensures c.in_ok-trees.ensures
