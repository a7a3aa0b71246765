use Rattle.std.proofs.Common.{subst}
use Rattle.fc_types.specs.Libraries.{IsLibrary}
use Rattle.fc_types.proofs.BuiltIns.{own_pairs, library_with, known_with}
use Rattle.fc_types.proofs.library.Library.with_built_in.Goals as goal

pub with_built_in-requires : goal.with_built_in-requires
with_built_in-requires c = own_pairs c.args.self c.args.instances c.requires.absent c.requires.known

pub with-requires : goal.with-requires
with-requires c = library_with c.args.self c.args.built_in.items (subst IsLibrary c.self.view_is c.self.invariant) c.requires.ids c.requires.kept c.requires.absent

pub returns-clause-known : goal.returns-clause-known
returns-clause-known c =
    rw c.in_ok-library.ensures
    (known_with c.args.self c.args.built_in.items c.args.instances c.in_ok-instances.instances c.requires.ids c.requires.known c.in_ok-instances.ensures.same)
