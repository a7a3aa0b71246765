use Rattle.std.proofs.Common.{◌∙◌}
use Rattle.fc_store.proofs.Kept.{roll_kept, roll_seen}
use Rattle.fc_store.proofs.store.Store.rollback.Goals as goal

pub invariant_of-self : goal.invariant_of-self
invariant_of-self c = roll_kept c.self.inside.library c.self.inside.instances c.deref.result.now c.self.inside.trees.items c.roll_each.new.instances.items c.roll_each.ensures c.self.invariant

pub returns : goal.returns
returns c =
    roll_seen c.self.inside.library c.self.inside.instances c.deref.result.now c.args.mark c.self.inside.trees.items c.roll_each.new.instances.items c.args.self.now
    c.roll_each.ensures (c.deref.ensures.value ∙ c.mark.view_is) c.self.view_is
