-- A network element as a whole: its forwarding elements, its control elements as they run or stand still, and all messages that were ever
-- sent between them. This profile's own.
use Rattle.std.specs.Prelude.{ℕ, ◌*◌, ◌+◌, ◌%◌, List, [], map, Option, None}
use Rattle.fc_asks.specs.declared.life.Life.{Life}
use Rattle.fc_element.specs.ElementState.{opened}
use Rattle.fc_jobs.specs.declared.sending.CeOut.{CeOut}
use Rattle.fc_msg.specs.declared.message.Message.{Message}
use Rattle.fc_performing.specs.declared.out.Out.{Out}
use Rattle.fc_protocol.specs.MasterMachine.{Master as Core, Refusal}
use Rattle.fc_world.specs.declared.nodes.Node.{Node}
use Rattle.fc_world.specs.declared.sent.Parcel.{Parcel}
use Rattle.fc_world.specs.declared.sent.Parcel.TheVariants.{Upward, Downward}
use Rattle.fc_world.specs.declared.setting.Setting.{Setting}

-- one life of a control element: what stays with it, and the protocol's master that it is
pub record Ruling : Type 0 where
  pub life : Life
  pub core : Core

-- a control element: its ID, the rounds that it has used, and its life where it runs
pub record Standing : Type 0 where
  pub ce : ℕ
  pub used : List ℕ
  pub running : Option Ruling

pub record WorldState : Type 0 where
  pub nodes : List Node  -- in the order of the script
  pub controllers : List Standing  -- in the order of the script
  pub sent : List Parcel  -- all messages ever sent, the oldest first
  pub refused : List (ℕ × Refusal)  -- the calls that were refused, each with the place of its step, the oldest first

-- ---- messages
abbrev pub message_of : Parcel → Message
message_of (Upward f c m) = m
message_of (Downward c f m) = m

-- what an element sends: a peer is the number of a control element
abbrev pub upward : ℕ → List Out → List Parcel
upward f outs = map (λ (o : Out). Upward f o.peer o.message) outs

-- what a control element sends
abbrev pub downward : ℕ → List CeOut → List Parcel
downward c outs = map (λ (o : CeOut). Downward c o.to o.message) outs

-- ---- lives
abbrev pub number_of : ℕ → ℕ
number_of ce = ce % 256

abbrev pub epoch_of : ℕ → ℕ → ℕ
epoch_of round ce = round * 256 + ce % 256

-- a life of a control element that begins
abbrev pub first_life : ℕ → ℕ → Life
first_life ce epoch = record { ce = ce; epoch = epoch; plans = []; plains = []; alloc = record { memory = record { seal = tt } } }

-- ---- the world before the first step: each element is new, no control element runs, and nothing was sent
abbrev pub first_node : Setting → ℕ × ℕ → Node
first_node s e = record { id = e.0; element = opened e.0 e.1 s.library s.instances }

abbrev pub first_controller : ℕ → Standing
first_controller ce = record { ce = ce; used = []; running = None }

abbrev pub first_world : Setting → WorldState
first_world s = record {
  nodes = map (first_node s) s.elements;
  controllers = map first_controller s.controllers;
  sent = [];
  refused = [];
}
