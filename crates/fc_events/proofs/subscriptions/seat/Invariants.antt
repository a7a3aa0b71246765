use Rattle.std.proofs.Common.{◌≡◌, drop}
use Rattle.fc_events.specs.Subscribing.{seat}
use Rattle.fc_events.proofs.Seats.{shifted}
use Rattle.fc_events.proofs.subscriptions.seat.Given as goal

abbrev pub invariant-loop-at : goal.invariant-loop-at
invariant-loop-at l = seat l.place l.subscriptions ≡ shifted l.at (seat l.place (drop l.at l.subscriptions))
