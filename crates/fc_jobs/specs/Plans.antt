-- What the job of a transaction takes from its plan. This profile's own.
use Rattle.std.specs.Prelude.{ℕ, List, map, length}
use Rattle.fc_protocol.specs.Scopes.{Scope}
use Rattle.fc_asks.specs.Tables.{counts}
use Rattle.fc_plans.specs.declared.plan.Part.{Part}
use Rattle.fc_jobs.specs.Scopes.{scope_of}
use Rattle.fc_jobs.specs.declared.job.Scoped.{Scoped}

-- the participants
abbrev pub participants_of : List Part → List ℕ
participants_of = map (λ (part : Part). part.element)

-- how many changes each one has
abbrev pub counted : Part → ℕ × ℕ
counted part = (part.element, length part.changes)

abbrev pub changes_in : List Part → ℕ → ℕ
changes_in parts = counts (map counted parts)

-- what the transaction may change there
abbrev pub scoped : Part → Scoped
scoped part = record { element = part.element; scope = part.scope }

abbrev pub scopes_in : List Part → ℕ → Scope
scopes_in parts p = scope_of p (map scoped parts)
