-- What a life was asked to do: transactions by their number, and plain changes. This profile's own.
use Rattle.std.specs.Prelude.{ℕ, ◌-◌, List, [], ◌∷◌, slice_get, Option, Some, None}
use Rattle.fc_path.specs.declared.oper.Select.{Select}
use Rattle.fc_plans.specs.declared.plan.Part.{Part}
use Rattle.fc_base.specs.Ids.{Txn}
use Rattle.std.specs.Prelude.{◌==◌, if◌then◌else◌}

-- the changes of a participant
abbrev pub changes_of : ℕ → List Part → List (List Select)
changes_of p [] = []
changes_of p (part ∷ parts) = if p == part.element then part.changes else changes_of p parts

-- the item of this number, counted from 1
abbrev pub numbered : {A : Type 0} → List A → ℕ → Option A
numbered xs n = slice_get xs (n - 1)

abbrev pub selects_of : Option (List Select) → List Select
selects_of None = []
selects_of (Some selects) = selects

abbrev pub changes_in : Option (List Part) → ℕ → List (List Select)
changes_in None p = []
changes_in (Some parts) p = changes_of p parts

-- the selects of the change of this number in that transaction at p
abbrev pub change_at : List (List Part) → Txn → ℕ → ℕ → List Select
change_at plans x p i = selects_of (numbered (changes_in (numbered plans x.number) p) i)
