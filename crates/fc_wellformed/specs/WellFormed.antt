-- Messages that can be encoded (RFC 5810, sections 6.1 and 7): the flags fit their bits, the selects are ones of the grammar, and each length fits
-- its field. Where the IDs and the correlator are within their fields too, which each message of the program has by its type, it is proper, and so
-- read as what it is. Of what the life of a control element was asked to change this holds from the start.
use Rattle.std.specs.Prelude.{◌≡◌, ◌++◌, ◌∷◌, [], ℕ, true, List, map, Some, None}
use Rattle.std.specs.List.{AllByRecursion}
use Rattle.fc_wire.specs.Flags.{FlagsFit}
use Rattle.fc_path.specs.declared.oper.Select.{Select}
use Rattle.fc_msg.specs.Messages.{ProperMsgBody, ProperSelects, canonical, message_fits}
use Rattle.fc_msg.specs.MessageTypes as types
use Rattle.fc_msg.specs.declared.message.Message.{Message}
use Rattle.fc_plans.specs.Changes.{change_fault}
use Rattle.fc_plans.specs.declared.plan.Part.{Part}
use Rattle.fc_asks.specs.Tables.{found, placed}
use Rattle.fc_asks.specs.declared.life.Life.{Life}
use Rattle.fc_jobs.specs.declared.sending.CeOut.{CeOut}
use Rattle.fc_protocol.specs.MasterMachine.{Master}
use Rattle.fc_hub.specs.declared.event.Act.{Act}
use Rattle.fc_hub.specs.declared.event.Act.TheVariants.{Sent}
use Rattle.fc_control.specs.ControlNode.{ControlState, peer_of}
use Rattle.fc_documents.specs.Parts.{begun as parts_of}
use Rattle.fc_documents.specs.declared.transaction.PlanTxn.{PlanTxn}
use Rattle.fc_wellformed.specs.Saying.{MaySpeak}

pub record IsWellFormed (m : Message) : Type 0 where
  pub flags : FlagsFit m.flags
  pub body : ProperMsgBody m.body
  pub fits : message_fits m ≡ true

-- all that is sent is
abbrev pub AreWellFormed : List CeOut → Type 0
AreWellFormed outs = AllByRecursion (λ (o : CeOut). IsWellFormed o.message) outs

-- selects of the grammar that are a change
abbrev pub IsChange : List Select → Type 0
IsChange selects = (change_fault selects ≡ None) × ProperSelects types.config selects

abbrev pub HasChanges : Part → Type 0
HasChanges part = AllByRecursion IsChange part.changes

-- whatever the life was asked to change is a change
pub record KeepsChanges (life : Life) : Type 0 where
  pub plans : AllByRecursion (λ (parts : List Part). AllByRecursion HasChanges parts) life.plans
  pub plains : AllByRecursion (λ (plain : ℕ × List Select). IsChange plain.1) life.plains

-- each part of a transaction of a document changes something by selects of the grammar
abbrev pub TxnHolds : PlanTxn → Type 0
TxnHolds t = AllByRecursion HasChanges (parts_of t)

-- a plain change was made at p
abbrev pub HasPlain : Life → ℕ → Type 0
HasPlain life p = (selects : List Select) × (found p life.plains ≡ Some selects)

-- a master of this life that says nothing but what can be encoded
abbrev pub SpeaksClearly : Life → Master → Type 0
SpeaksClearly life m = KeepsChanges life × MaySpeak (HasPlain life) m

-- a control element whose master does, and whose plan changes things so
pub record IsClear (n : ControlState) : Type 0 where
  pub says : SpeaksClearly n.life n.core
  pub plan : AllByRecursion TxnHolds n.plan

-- the same life with one plan more, or with another plain change at p
abbrev pub with_plan : Life → List Part → Life
with_plan life parts = record life { plans = life.plans ++ parts ∷ [] }

abbrev pub with_plain : Life → ℕ → List Select → Life
with_plain life p selects = record life { plains = placed p selects life.plains }

-- each message as its canonical bytes, to the peer of its element
abbrev pub all_sent : List ℕ → List CeOut → List Act
all_sent elements outs = map (λ (o : CeOut). Sent (peer_of o.to elements) (canonical o.message)) outs
