-- What holds of each rest that an element keeps of a transaction that it holds. RFC 5810, sections 7.1 and 7.6; rests are this profile's own.
use Rattle.std.specs.Prelude.{◌≡◌, true, List}
use Rattle.std.specs.List.{AllByRecursion}
use Rattle.fc_element.specs.ElementMachine.{IsProperIn}
use Rattle.fc_element.specs.declared.input.ElIn.{ElIn}
use Rattle.fc_holding.specs.declared.holding.Holding.{Holding}
use Rattle.fc_msg.specs.MessageTypes as types
use Rattle.fc_msg.specs.Messages.{ProperSelects, message_fits}
use Rattle.fc_msg.specs.declared.message.Message.{Message}
use Rattle.fc_msg.specs.declared.message.MsgBody.TheVariants.{Config}
use Rattle.fc_path.specs.declared.oper.Select.{Select}

-- It is a list of selects that the grammar has in a Config, not empty, and a Config with these selects passes no length field.
pub record IsKeptRest (rest : List Select) : Type 0 where
  pub proper : ProperSelects types.config rest
  pub fits : (m : Message) → m.body ≡ Config rest → message_fits m ≡ true

-- so it is with each rest of each transaction that is held
abbrev pub AreKeptRests : List Holding → Type 0
AreKeptRests hs = AllByRecursion (λ (h : Holding). AllByRecursion IsKeptRest h.rests) hs

-- each message that comes is one that the grammar has
abbrev pub AreProperIns : List ElIn → Type 0
AreProperIns is = AllByRecursion IsProperIn is
