use Rattle.std.proofs.Common.{◌≡◌, ℕ, drop}
use Rattle.fc_master.specs.Refusals.{engaged_seats}
use Rattle.fc_master.proofs.forgetting.engaged_fault.Given as goal

abbrev pub invariant-loop-seat : goal.invariant-loop-seat
invariant-loop-seat l = (e : ℕ) → engaged_seats e (drop l.seat-index l.seats) ≡ engaged_seats e l.seats
