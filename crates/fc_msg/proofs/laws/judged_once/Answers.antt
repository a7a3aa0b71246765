use Rattle.fc_msg.proofs.Reading.{judged, never_both}
use Rattle.fc_msg.proofs.laws.judged_once.Goals as goal

pub returns-clause-either : goal.returns-clause-either
returns-clause-either c = judged

pub returns-clause-never_both : goal.returns-clause-never_both
returns-clause-never_both c = never_both
