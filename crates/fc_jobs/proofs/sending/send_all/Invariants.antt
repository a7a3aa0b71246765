use Rattle.std.proofs.Common.{◌≡◌, ℕ, length}
use Rattle.fc_jobs.specs.Sending.{Begun}
use Rattle.fc_jobs.proofs.SendingAll.{Goes}
use Rattle.fc_jobs.proofs.sending.send_all.Given as goal

abbrev pub invariant-loop-at : goal.invariant-loop-at
invariant-loop-at l = record { count : length l.seats ≡ length l.fn.seats; goes : (k : ℕ) (begun : Begun) → Goes l.life l.jobs k begun l.seats l.fn.seats l.at l.outs }
