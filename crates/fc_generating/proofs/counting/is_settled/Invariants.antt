use Rattle.std.proofs.Common.{◌≡◌, drop}
use Rattle.fc_protocol.specs.Jobs.{all_settled}
use Rattle.fc_jobs.specs.JobViews.{job_of}
use Rattle.fc_generating.proofs.counting.is_settled.Given as goal

abbrev pub invariant-loop-participant : goal.invariant-loop-participant
invariant-loop-participant l = all_settled (job_of l.job) (drop l.participant-index l.job.participants) ≡ all_settled (job_of l.job) l.job.participants
