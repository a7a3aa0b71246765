use Rattle.std.proofs.Common.{◌∙◌}
use Rattle.fc_store.proofs.Kept.{release_kept, release_seen}
use Rattle.fc_store.proofs.store.Store.release.Goals as goal

pub invariant_of-self : goal.invariant_of-self
invariant_of-self c = release_kept c.self.inside.library c.self.inside.instances c.deref.result.now c.self.inside.trees.items c.release_each.new.instances.items c.release_each.ensures c.self.invariant

pub returns : goal.returns
returns c =
    release_seen c.self.inside.library c.self.inside.instances c.deref.result.now c.args.mark c.self.inside.trees.items c.release_each.new.instances.items c.args.self.now
    c.release_each.ensures (c.deref.ensures.value ∙ c.mark.view_is) c.self.view_is
