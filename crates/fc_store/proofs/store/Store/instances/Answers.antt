use Rattle.std.proofs.Common.{subst}
use Rattle.fc_store.specs.Stores.{IsWhole}
use Rattle.fc_store.proofs.PutFound.{whole}
use Rattle.fc_store.proofs.store.Store.instances.Goals as goal

pub returns-clause-whole : goal.returns-clause-whole
returns-clause-whole c = subst IsWhole c.self.view_is (whole c.self.inside.library c.self.inside.instances c.self.inside.trees.items c.self.invariant)
