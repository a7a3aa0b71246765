-- What a master sends, as the messages that it is (this profile's own).
use Rattle.std.specs.Prelude.{ℕ, ◌&&◌, Bool, true, not, List, [], ◌∷◌, ◌++◌, Option, None}
use Rattle.fc_base.specs.Ids.{Txn}
use Rattle.fc_msg.specs.declared.message.Message.{Message as Wire}
use Rattle.fc_protocol.specs.Collections.{among}
use Rattle.fc_protocol.specs.MasterMachine.{Peer, Master, Waiting, sending, stamp_of}
use Rattle.fc_protocol.specs.Messages.{Body, correlator, Message, Setup, Beat, Request, Reply, Holds, Tells, Unread, Other_up, Other_down, Sent}
use Rattle.fc_asks.specs.declared.life.Life.{Life}
use Rattle.fc_jobs.specs.declared.job.Job.{Job}
use Rattle.fc_jobs.specs.declared.seat.Seat.{Seat}
use Rattle.fc_jobs.specs.declared.sending.CeOut.{CeOut}
use Rattle.fc_asks.specs.Requests.{request_of}
use Rattle.fc_jobs.specs.Seats.{elements_of, peer_at}
use Rattle.fc_jobs.specs.JobViews.{jobs_of}

abbrev pub out : ℕ → Wire → CeOut
out p m = record { to = p; message = m }

-- a request of the life to p
abbrev pub spelled_to : Life → ℕ → Message → List CeOut
spelled_to life p Setup = []
spelled_to life p Beat = []
spelled_to life p (Request s b) = out p (request_of life p (correlator s) b) ∷ []
spelled_to life p (Reply s code) = []
spelled_to life p (Holds s e ns) = []
spelled_to life p (Tells s x e t) = []
spelled_to life p (Unread s e) = []
spelled_to life p Other_up = []
spelled_to life p Other_down = []

abbrev pub spelled : Life → List Sent → List CeOut
spelled life [] = []
spelled life (s ∷ ss) = spelled_to life s.element s.message ++ spelled life ss

-- no two elements are the same
abbrev pub are_apart : List ℕ → Bool
are_apart [] = true
are_apart (p ∷ ps) = not (among p ps) && are_apart ps

-- what a life has begun
pub record Begun : Type 0 where
  pub count : ℕ  -- how many transactions
  pub wanted : Option Txn  -- the floor that it wants at every element, once it wants one

abbrev pub nothing_begun : Begun
nothing_begun = record { count = 0; wanted = None }

-- the protocol's master that these seats and jobs of the life e are
abbrev pub core_by : ℕ → List Seat → List Job → Begun → Option ℕ → Master
core_by e ss js begun deposed = record { epoch = e; elements = elements_of ss; at = peer_at e begun.wanted ss; jobs = jobs_of js; begun = begun.count; deposed = deposed }

-- what is sent to a peer, and the peer then
abbrev pub waiting : ℕ → Peer → Body → Waiting
waiting e y b = record { stamp = stamp_of e b y; body = b }

abbrev pub sent_peer : ℕ → Peer → Body → Peer
sent_peer e y b = sending y (waiting e y b)

abbrev pub sent_out : Life → ℕ → Peer → Body → CeOut
sent_out life p y b = out p (request_of life p (correlator (stamp_of life.epoch b y)) b)
