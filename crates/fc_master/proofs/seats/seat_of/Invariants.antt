use Rattle.std.proofs.Common.{◌≡◌, ℕ, Option, drop}
use Rattle.fc_base.specs.Ids.{Txn}
use Rattle.fc_protocol.specs.Collections.{among}
use Rattle.fc_jobs.specs.Seats.{elements_of, peer_at}
use Rattle.fc_master.proofs.seats.seat_of.Given as goal

abbrev pub invariant-loop-seat : goal.invariant-loop-seat
invariant-loop-seat l = ((e : ℕ) (w : Option Txn) → peer_at e w (drop l.seat-index l.seats) l.element ≡ peer_at e w l.seats l.element) × (among l.element (elements_of (drop l.seat-index l.seats)) ≡ among l.element (elements_of l.seats))
