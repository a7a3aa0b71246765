use Rattle.std.proofs.Common.{refl, []}
use Rattle.fc_msg.specs.Splitting.{unfed}
use Rattle.fc_msg.proofs.Splitting.{kept}
use Rattle.fc_msg.proofs.laws.any_pieces.Goals as goal

pub returns-clause-taken : goal.returns-clause-taken
returns-clause-taken c = λ calls. kept calls unfed [] refl tt

pub returns-clause-all : goal.returns-clause-all
returns-clause-all c =
    λ calls partial.
    let after = kept calls unfed [] refl tt in
    record { whole = after.0; each = after.1; partial = partial }
