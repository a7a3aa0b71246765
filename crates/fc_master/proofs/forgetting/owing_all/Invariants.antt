use Rattle.std.proofs.Common.{◌≡◌, Some, map, take}
use Rattle.fc_master.specs.Refusals.{seat_owing}
use Rattle.fc_master.proofs.forgetting.owing_all.Given as goal

abbrev pub invariant-loop-seat : goal.invariant-loop-seat
invariant-loop-seat l = l.others ≡ map (seat_owing (Some l.floor)) (take l.seat-index l.seats)
