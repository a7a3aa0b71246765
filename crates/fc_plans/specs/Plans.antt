-- What a transaction changes: at each of its participants, whose IDs rise, from 1 to 256 changes, at all LFB instances or at those that it names. This profile's own.
use Rattle.std.specs.Prelude.{ℕ, ◌&&◌, Bool, true, not, nat_le, nat_lt, List, [], ◌∷◌, length, Option, Some, None, if◌then◌else◌}
use Rattle.std.specs.List.{list_all}
use Rattle.fc_path.specs.declared.oper.Select.{Select}
use Rattle.fc_protocol.specs.Collections.{or_next}
use Rattle.fc_protocol.specs.Scopes.{Scope, stands_before}
use Rattle.fc_plans.specs.declared.fault.PlanFault.{PlanFault}
use Rattle.fc_plans.specs.declared.fault.PlanFault.TheVariants as fault
use Rattle.fc_plans.specs.declared.plan.Part.{Part}

-- the instance at its place among others that rise, once
abbrev pub entered : ℕ × ℕ → Scope → Scope
entered i [] = i ∷ []
entered i (j ∷ js) = if stands_before i j then i ∷ j ∷ js else (if stands_before j i then j ∷ entered i js else j ∷ js)

-- and those that selects name
abbrev pub entered_all : List Select → Scope → Scope
entered_all [] is = is
entered_all (s ∷ ss) is = entered_all ss (entered (s.class, s.instance) is)

-- and those that changes name
abbrev pub entered_by : List (List Select) → Scope → Scope
entered_by [] is = is
entered_by (c ∷ cs) is = entered_by cs (entered_all c is)

-- the instances that changes name, which rise
abbrev pub named : List (List Select) → Scope
named cs = entered_by cs []

-- a participant with its changes, which may change everything there
abbrev pub whole : ℕ × List (List Select) → Part
whole p = record { element = p.0; changes = p.1; scope = [] }

-- and one that may change what its changes name
abbrev pub scoped : ℕ × List (List Select) → Part
scoped p = record { element = p.0; changes = p.1; scope = named p.1 }

abbrev pub rescoped : Part → Part
rescoped part = record { element = part.element; changes = part.changes; scope = named part.changes }

-- the IDs of the participants rise
abbrev pub rises_after : ℕ → List Part → Bool
rises_after p [] = true
rises_after p (part ∷ parts) = nat_lt p part.element && rises_after part.element parts

abbrev pub is_rising : List Part → Bool
is_rising [] = true
is_rising (part ∷ parts) = rises_after part.element parts

abbrev pub has_changes : Part → Bool
has_changes part = nat_le 1 (length part.changes) && nat_le (length part.changes) 256

abbrev pub has_scope : Part → Bool
has_scope part = nat_le (length part.scope) 4096

-- why parts are no plan, whatever their scopes: the first of these
abbrev pub order_fault : List Part → Option PlanFault
order_fault [] = Some fault.Empty
order_fault (part ∷ parts) = if not (is_rising (part ∷ parts)) then Some fault.Order else (if list_all has_changes (part ∷ parts) then None else Some fault.Changes)

-- and then where a scope has too many instances
abbrev pub scope_fault : List Part → Option PlanFault
scope_fault parts = if list_all has_scope parts then None else Some fault.Changes

-- why parts are no plan: the first of these
abbrev pub plan_fault : List Part → Option PlanFault
plan_fault parts = or_next (order_fault parts) (scope_fault parts)
