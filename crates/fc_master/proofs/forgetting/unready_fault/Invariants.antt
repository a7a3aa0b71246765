use Rattle.std.proofs.Common.{◌≡◌, ℕ, drop}
use Rattle.fc_master.specs.Refusals.{unready_seats}
use Rattle.fc_master.proofs.forgetting.unready_fault.Given as goal

abbrev pub invariant-loop-seat : goal.invariant-loop-seat
invariant-loop-seat l = (e : ℕ) → unready_seats e (drop l.seat-index l.seats) ≡ unready_seats e l.seats
