use Rattle.fc_watch.proofs.Again.{arms_above, arms_below}
use Rattle.fc_watch.proofs.laws.arms_beyond_the_hysteresis.Goals as goal

pub returns : goal.returns
returns c = record { greater = arms_above; less = arms_below }
