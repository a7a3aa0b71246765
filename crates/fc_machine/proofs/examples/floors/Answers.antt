use Rattle.std.proofs.Common.{refl}
use Rattle.fc_machine.proofs.examples.floors.Goals as goal

pub returns-clause-held_back : goal.returns-clause-held_back
returns-clause-held_back c = refl

pub returns-clause-above : goal.returns-clause-above
returns-clause-above c = refl

pub returns-clause-below : goal.returns-clause-below
returns-clause-below c = refl

pub returns-clause-records : goal.returns-clause-records
returns-clause-records c = refl

pub returns-clause-floor : goal.returns-clause-floor
returns-clause-floor c = refl

pub returns-clause-kept : goal.returns-clause-kept
returns-clause-kept c = refl

pub returns-clause-restarted : goal.returns-clause-restarted
returns-clause-restarted c = refl
