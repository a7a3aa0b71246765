use Rattle.fc_serving.proofs.Pieces.{bytes_alike}
use Rattle.fc_serving.proofs.Runs.{run_alike}
use Rattle.fc_serving.proofs.RunsAlike.{cut_alike}
use Rattle.fc_serving.proofs.laws.bytes_may_be_cut.Goals as goal

pub returns-clause-event : goal.returns-clause-event
returns-clause-event c = bytes_alike

pub returns-clause-run : goal.returns-clause-run
returns-clause-run c = run_alike

pub returns-clause-status : goal.returns-clause-status
returns-clause-status c = cut_alike
