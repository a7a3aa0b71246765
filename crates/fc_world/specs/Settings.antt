-- What the setting of a script keeps, so that it makes a network. This profile's own.
use Rattle.std.specs.Prelude.{◌≡◌, ℕ, true, map, None}
use Rattle.std.specs.List.{AllByRecursion, list_all}
use Rattle.fc_base.specs.Ids.{IsCe, IsFe}
use Rattle.fc_documents.specs.Parts.{begun}
use Rattle.fc_documents.specs.declared.transaction.PlanTxn.{PlanTxn}
use Rattle.fc_jobs.specs.Sending.{are_apart}
use Rattle.fc_numbering.specs.Numbering.{AreInstances}
use Rattle.fc_plans.specs.Plans.{plan_fault}
use Rattle.fc_plans.specs.declared.plan.Part.{Part}
use Rattle.fc_types.specs.Libraries.{AreKnown, is_own}
use Rattle.fc_wellformed.specs.WellFormed.{TxnHolds}
use Rattle.fc_world.specs.declared.setting.Setting.{Setting}

-- the ID of an element that is listed with its control element
abbrev pub node_id : ℕ × ℕ → ℕ
node_id e = e.0

-- the element of a part has an ID of one, and the numbers of the scope fit in 32 bits
abbrev pub FitsWords : Part → Type 0
FitsWords part = IsFe part.element × AreInstances part.scope

-- a transaction of a script: a plan over elements that changes something by selects of the grammar, in numbers that fit
pub record IsPlanned (t : PlanTxn) : Type 0 where
  pub plan : plan_fault (begun t) ≡ None
  pub holds : TxnHolds t
  pub words : AllByRecursion FitsWords (begun t)

-- A setting of which a network can be made: the classes are none of those that each element has, and the instances are of these classes or of
-- those; no element is listed twice, each control element has an ID of one, and each transaction is one of a script.
pub record IsNetwork (s : Setting) : Type 0 where
  pub own : list_all is_own s.library ≡ true
  pub known : AreKnown s.library s.instances
  pub apart : are_apart (map node_id s.elements) ≡ true
  pub controls : AllByRecursion IsCe s.controllers
  pub planned : AllByRecursion IsPlanned s.transactions

-- each transaction changes something by selects of the grammar
abbrev pub IsClearSetting : Setting → Type 0
IsClearSetting s = AllByRecursion TxnHolds s.transactions
