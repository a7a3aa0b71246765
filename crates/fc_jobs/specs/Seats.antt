-- What a master keeps of its elements, seen as the protocol's peers. This profile's own.
use Rattle.std.specs.Prelude.{ℕ, ◌==◌, false, if◌then◌else◌, List, [], ◌∷◌, map, Option, None, option_map}
use Rattle.fc_base.specs.Ids.{Txn}
use Rattle.fc_protocol.specs.Jobs.{Job}
use Rattle.fc_protocol.specs.MasterMachine.{Peer, Waiting, new_peer, Master}
use Rattle.fc_asks.specs.Bodies.{body_of}
use Rattle.fc_jobs.specs.declared.seat.Waits.{Waits}
use Rattle.fc_jobs.specs.declared.seat.Seat.{Seat}

-- a message of the life e that waits for its response
abbrev pub waiting_of : ℕ → Waits → Waiting
waiting_of e w = record { stamp = record { life = e; count = w.count }; body = body_of e w.asks }

abbrev pub peer_of : ℕ → Seat → Peer
peer_of e s = record {
  met = s.met;
  claimed = s.claimed;
  answered = s.answered;
  doubt = s.doubt;
  lost = s.lost;
  owes = s.owes;
  waits = option_map (waiting_of e) s.waits;
  last = s.last;
  queries = s.queries;
}

-- a floor is wanted there
abbrev pub owing : Option Txn → Peer → Peer
owing w y = record y { owes = w }

-- the element p of the life e, which wants the floor w everywhere: nothing else is known of what is no element
abbrev pub peer_at : ℕ → Option Txn → List Seat → ℕ → Peer
peer_at e w [] p = owing w new_peer
peer_at e w (s ∷ ss) p = if p == s.element then peer_of e s else peer_at e w ss p

abbrev pub elements_of : List Seat → List ℕ
elements_of = map (λ s. s.element)

-- a master of the life e that has these jobs, as far as one element goes: what is due there depends on nothing else
abbrev pub alone : ℕ → Peer → List Job → Option ℕ → Master
alone e y js d = record { epoch = e; elements = []; at = λ _. y; jobs = js; begun = 0; deposed = d }

-- the seat of an element of which nothing is known yet
abbrev pub new_seat : ℕ → Seat
new_seat p = record { element = p; met = false; claimed = false; answered = false; doubt = false; lost = false; owes = None; waits = None; last = 0; queries = 0 }

-- the seat without what waits there
abbrev pub seat_dropped : Seat → Seat
seat_dropped s = record s { waits = None }
