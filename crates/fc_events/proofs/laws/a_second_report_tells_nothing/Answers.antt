use Rattle.fc_events.proofs.Again.{second_report}
use Rattle.fc_events.proofs.laws.a_second_report_tells_nothing.Goals as goal

pub returns : goal.returns
returns c = second_report
