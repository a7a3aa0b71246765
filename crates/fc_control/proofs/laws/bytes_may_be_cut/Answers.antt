use Rattle.fc_control.proofs.Pieces.{bytes_alike}
use Rattle.fc_control.proofs.Runs.{run_alike}
use Rattle.fc_control.proofs.laws.bytes_may_be_cut.Goals as goal

pub returns-clause-event : goal.returns-clause-event
returns-clause-event c = bytes_alike

pub returns-clause-run : goal.returns-clause-run
returns-clause-run c = run_alike
