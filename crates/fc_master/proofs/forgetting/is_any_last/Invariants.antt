use Rattle.std.proofs.Common.{◌≡◌, drop}
use Rattle.std.specs.List.{list_any}
use Rattle.fc_master.specs.Refusals.{is_used_up}
use Rattle.fc_master.proofs.forgetting.is_any_last.Given as goal

abbrev pub invariant-loop-seat : goal.invariant-loop-seat
invariant-loop-seat l = list_any is_used_up (drop l.seat-index l.seats) ≡ list_any is_used_up l.seats
