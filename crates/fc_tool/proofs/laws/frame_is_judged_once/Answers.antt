use Rattle.fc_msg.proofs.Reading.{judged, never_both}
use Rattle.fc_tool.proofs.Judged.{is_frame}
use Rattle.fc_tool.proofs.laws.frame_is_judged_once.Goals as goal

pub returns-clause-either : goal.returns-clause-either
returns-clause-either c = judged

pub returns-clause-never_both : goal.returns-clause-never_both
returns-clause-never_both c = never_both

pub returns-clause-frame : goal.returns-clause-frame
returns-clause-frame c = λ bytes m is. is_frame m bytes is
