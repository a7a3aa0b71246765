use Rattle.std.proofs.Common.{refl}
use Rattle.fc_generating.proofs.Tries.{trail_behind}
use Rattle.fc_generating.proofs.laws.trails_go_on.Goals as goal

pub returns-clause-behind : goal.returns-clause-behind
returns-clause-behind c ps qs = trail_behind ps qs

pub returns-clause-row : goal.returns-clause-row
returns-clause-row c = refl
