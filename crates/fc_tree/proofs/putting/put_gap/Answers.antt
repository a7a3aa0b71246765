use Rattle.std.proofs.Common.{subst, ◌≡◌, Ok, None}
use Rattle.fc_tree.specs.Finding.{place_in}
use Rattle.fc_tree.proofs.Rooms.{gap_is}
use Rattle.fc_tree.proofs.putting.put_gap.Goals as goal

pub create-requires : goal.create-requires
create-requires c = gap_is c.args.ty.now c.args.value _ (subst (λ s. place_in c.args.ty.now c.args.value s ≡ Ok None) c.in-Id.is c.requires)
