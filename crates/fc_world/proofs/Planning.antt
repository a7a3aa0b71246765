-- A transaction that may change everything is begun in the numbers of its participants.
use Rattle.std.proofs.Common.{◌≡◌, ℕ, Bool, true, false, if◌then◌else◌, List, map, Option, Some, None, is_none, refl, sym, ap, subst}
use Rattle.std.specs.List.{AllByRecursion}
use Rattle.fc_documents.specs.Parts.{begun, makes_plan}
use Rattle.fc_documents.specs.declared.transaction.PlanTxn.{PlanTxn}
use Rattle.fc_plans.specs.Plans.{plan_fault, scoped, whole}
use Rattle.fc_plans.specs.declared.fault.PlanFault.{PlanFault}
use Rattle.fc_plans.specs.declared.plan.Part.{Part}
use Rattle.fc_wellformed.specs.WellFormed.{TxnHolds}
use Rattle.fc_world.specs.Settings.{FitsWords, IsPlanned}

none_told : (o : Option PlanFault) → is_none o ≡ true → o ≡ None
none_told None e = refl
none_told (Some fault) e = cc

begun_whole : (t : PlanTxn) → t.scoped ≡ false → begun t ≡ map whole t.parts
begun_whole t e = ap (λ b. if b then map scoped t.parts else map whole t.parts) e

pub planned_whole : (t : PlanTxn) → t.scoped ≡ false → makes_plan t ≡ true → TxnHolds t → AllByRecursion FitsWords (map whole t.parts) → IsPlanned t
planned_whole t e makes holds words =
    record { plan = none_told (plan_fault (begun t)) makes; holds = holds; words = subst (AllByRecursion FitsWords) (sym (begun_whole t e)) words }
