use Rattle.std.proofs.Common.{◌≡◌, map, take}
use Rattle.fc_jobs.specs.Seats.{new_seat}
use Rattle.fc_master.proofs.opening.new_seats.Given as goal

abbrev pub invariant-loop-element : goal.invariant-loop-element
invariant-loop-element l = l.seats ≡ map new_seat (take l.element-index l.elements)
