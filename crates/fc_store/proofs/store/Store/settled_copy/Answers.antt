use Rattle.fc_store.proofs.Kept.{settled_kept, settled_seen}
use Rattle.fc_store.proofs.store.Store.settled_copy.Goals as goal

pub invariant_of-result : goal.invariant_of-result
invariant_of-result c =
    settled_kept c.self.inside.library c.in_ok-library.library c.self.inside.instances c.in_ok-instances.instances c.args.marks.now c.self.inside.trees.items c.deref.result.now c.in_ok-trees.trees.items
    c.in_ok-trees.ensures c.deref.ensures.value c.in_ok-library.ensures c.in_ok-instances.ensures c.self.invariant

pub returns : goal.returns
returns c =
    settled_seen c.self.inside.library c.in_ok-library.library c.self.inside.instances c.in_ok-instances.instances c.args.marks.now c.self.inside.trees.items c.deref.result.now c.in_ok-trees.trees.items c.args.self.now
    c.in_ok-trees.ensures c.deref.ensures.value c.in_ok-library.ensures c.in_ok-instances.ensures c.self.view_is
