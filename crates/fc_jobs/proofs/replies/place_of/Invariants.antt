use Rattle.std.proofs.Common.{◌≡◌, ℕ, drop, Option}
use Rattle.fc_base.specs.Ids.{Txn}
use Rattle.fc_protocol.specs.Collections.{among}
use Rattle.fc_jobs.specs.Seats.{elements_of, peer_at}
use Rattle.fc_jobs.proofs.replies.place_of.Given as goal

abbrev pub invariant-loop-at : goal.invariant-loop-at
invariant-loop-at l = record {
  peer : (e : ℕ) (w : Option Txn) → peer_at e w (drop l.at l.seats) l.element ≡ peer_at e w l.seats l.element;
  listed : among l.element (elements_of (drop l.at l.seats)) ≡ among l.element (elements_of l.seats);
}
