-- What a node makes of one event in two parts, and of all events with such a one among them. This profile's own.
use Rattle.std.specs.Prelude.{◌≡◌, ℕ, List, ◌++◌, map}
use Rattle.fc_hub.specs.declared.event.HubEvent.{HubEvent}
use Rattle.fc_hub.specs.declared.event.Act.{Act}
use Rattle.fc_serving.specs.ElementNode.{Move, NodeState, acts_of, node_after}

-- two moves one after the other are alike this one: the node is the same afterwards, and the acts are the same in the same order
pub record AreAlike (first second whole : Move) : Type 0 where
  pub state : second.state ≡ whole.state
  pub acts : first.acts ++ second.acts ≡ whole.acts

-- acts without the number of events that were taken before each
abbrev pub unnumbered : List (ℕ × Act) → List Act
unnumbered acts = map (λ act. act.1) acts

-- these events make the same of a node as those, whatever was taken before: the node is the same afterwards, and the acts are
-- the same in the same order but for their numbers
pub record MakeTheSame (n : NodeState) (these those : List HubEvent) : Type 0 where
  pub state : node_after n these ≡ node_after n those
  pub acts : (taken : ℕ) → unnumbered (acts_of taken n these) ≡ unnumbered (acts_of taken n those)
