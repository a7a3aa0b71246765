use Rattle.std.proofs.Common.{subst}
use Rattle.std.specs.List.{AllByRecursion}
use Rattle.fc_scripts.specs.Kept.{CanBeSaid}
use Rattle.fc_generating.proofs.Tries.{has_round}
use Rattle.fc_generating.proofs.trying.try_all.Goals as goal

pub try_step-requires-clause-round : goal.try_step-requires-clause-round
try_step-requires-clause-round c = has_round c.in-Some.step (subst (AllByRecursion CanBeSaid) c.in-Some.ensures.steps.0 c.loop-place.invariant.said).0
