use Rattle.std.proofs.Common.{subst, arith}
use Rattle.fc_wire.proofs.Spelled.{bytes_all}
use Rattle.fc_value.specs.Outcomes.{Gives}
use Rattle.fc_value.proofs.Complete.{full_read}
use Rattle.fc_value.proofs.Sound.{found_of}
use Rattle.fc_value.proofs.read.read_full.Goals as goal

pub returns-clause-found : goal.returns-clause-found
returns-clause-found c = λ s. found_of c.read_whole.result c.args.ty.now c.args.bytes.now s (bytes_all c.args.bytes.now (λ i. omega (arith, c.type_inv.bytes i))) c.read_whole.ensures

pub returns-clause-only : goal.returns-clause-only
returns-clause-only c = λ v h. subst (Gives (λ w. w) c.read_whole.result) (full_read c.args.ty.now v c.args.bytes.now h) c.read_whole.ensures
