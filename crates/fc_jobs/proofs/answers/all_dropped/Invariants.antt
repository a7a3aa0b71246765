use Rattle.std.proofs.Common.{◌≡◌, map, take}
use Rattle.fc_jobs.specs.Seats.{seat_dropped}
use Rattle.fc_jobs.proofs.answers.all_dropped.Given as goal

abbrev pub invariant-loop-seat : goal.invariant-loop-seat
invariant-loop-seat l = l.others ≡ map seat_dropped (take l.seat-index l.seats)
