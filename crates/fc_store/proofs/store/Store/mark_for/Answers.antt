use Rattle.fc_store.proofs.Kept.{depths_seen, mark_kept, mark_seen}
use Rattle.fc_store.proofs.store.Store.mark_for.Goals as goal

pub invariant_of-self-2 : goal.invariant_of-self-2
invariant_of-self-2 c = mark_kept c.self.inside.library c.self.inside.instances c.deref-2.result.now c.self.inside.trees.items c.mark_each.new.instances.items c.in_ok-mark_each.ensures.ok c.self.invariant

pub returns-clause-ok : goal.returns-clause-ok
returns-clause-ok c =
    depths_seen c.self.inside.library c.self.inside.instances c.pairs.result.now c.args.scope.now c.self.inside.trees.items c.deref.result.now c.in_ok-places.places.items c.args.self.now
    c.in_ok-places.ensures c.pairs.ensures.same c.deref.ensures.value c.self.view_is

pub returns-clause-marked : goal.returns-clause-marked
returns-clause-marked c =
    mark_seen c.self.inside.library c.self.inside.instances c.deref-2.result.now c.in_ok-places.places.items c.self.inside.trees.items c.mark_each.new.instances.items c.args.self.now
    c.in_ok-mark_each.ensures.ok c.deref-2.ensures.value c.self.view_is
