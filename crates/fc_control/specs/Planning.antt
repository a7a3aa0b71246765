-- The plan of a planned transaction, if it is one. This profile's own.
use Rattle.std.specs.Prelude.{◌≡◌, ⊤, List, [], ◌∷◌, Option, Some, None, Result, Ok, Err}
use Rattle.fc_base.specs.declared.faults.Memory.{Memory}
use Rattle.fc_plans.specs.Plans.{plan_fault}
use Rattle.fc_plans.specs.declared.fault.PlanFault.{PlanFault}
use Rattle.fc_plans.specs.declared.fault.PlanFault.TheVariants as fault
use Rattle.fc_plans.specs.declared.plan.Part.{Part}
use Rattle.fc_documents.specs.Parts.{begun as parts_of}
use Rattle.fc_documents.specs.declared.transaction.PlanTxn.{PlanTxn}

-- parts that have no fault
abbrev pub plan_if : Option PlanFault → List Part → Option (List Part)
plan_if None parts = Some parts
plan_if (Some f) parts = None

abbrev pub whole_plan : List Part → Option (List Part)
whole_plan parts = plan_if (plan_fault parts) parts

-- the plan of the first of these
abbrev pub next_parts : List PlanTxn → Option (List Part)
next_parts [] = None
next_parts (t ∷ ts) = whole_plan (parts_of t)

-- a plan exactly where one was made
abbrev pub AreOf : Result (List Part) PlanFault → Result (Option (List Part)) Memory → Type 0
AreOf (Ok parts) (Ok told) = told ≡ Some parts
AreOf (Ok parts) (Err e) = ⊥
AreOf (Err fault.Memory) (Ok told) = ⊥
AreOf (Err fault.Memory) (Err e) = ⊤
AreOf (Err fault.Empty) (Ok told) = told ≡ None
AreOf (Err fault.Empty) (Err e) = ⊥
AreOf (Err fault.Order) (Ok told) = told ≡ None
AreOf (Err fault.Order) (Err e) = ⊥
AreOf (Err fault.Changes) (Ok told) = told ≡ None
AreOf (Err fault.Changes) (Err e) = ⊥
