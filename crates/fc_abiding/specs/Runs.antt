-- Configs that come to an element, one after the other: RFC 5810, section 7.6. This profile's own.
use Rattle.std.specs.Prelude.{◌≡◌, ℕ, List, [], ◌∷◌, ◌++◌}
use Rattle.fc_exec.specs.declared.operations.Operation.{Operation}
use Rattle.fc_machine.specs.Trace.{Fact, bare_facts}
use Rattle.fc_msg.specs.declared.message.Message.{Message}
use Rattle.fc_path.specs.declared.oper.Select.{Select}
use Rattle.fc_protocol.specs.ElementMachine.{new_element}
use Rattle.fc_protocol.specs.OneElement.{Arrival, hears_all}
use Rattle.fc_store.specs.Stores.{Stored}
use Rattle.fc_transactions.specs.Order.{configured}
use Rattle.fc_transactions.specs.State.{TransactionState, opened}
use Rattle.fc_abiding.specs.Abiding.{IsLike}

-- a Config with its selects, and the peer over which it came
pub record Came : Type 0 where
  pub peer : ℕ
  pub message : Message
  pub selects : List Select

-- what an element has become, and all that has happened there, the newest first
pub record Life : Type 0 where
  pub state : TransactionState
  pub facts : List (Fact Operation)

-- after all these Configs
abbrev pub life_from : List Came → TransactionState → List (Fact Operation) → Life
life_from [] s fs = record { state = s; facts = fs }
life_from (c ∷ cs) s fs = let r = configured s c.peer c.message c.selects in life_from cs r.state (r.facts ++ fs)

-- of a new element, with its control element and its opening configuration
abbrev pub life_of : ℕ → ℕ → Stored → List Came → Life
life_of id ce store came = life_from came (opened id ce store) []

-- the life is that of an element of the protocol which hears some requests
abbrev pub IsHeard : ℕ → ℕ → Life → Type 0
IsHeard id ce life = (arrivals : List Arrival) × IsLike life.state (hears_all id arrivals (new_element ce) []).element × (bare_facts life.facts ≡ (hears_all id arrivals (new_element ce) []).facts)
