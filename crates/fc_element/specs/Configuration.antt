-- What is configured: the components that have another value than at first. This profile's own.
use Rattle.std.specs.Prelude.{ℕ, Bool, true, false, List, [], ◌∷◌, Option, Some, None, Result, Ok, Err, bytes_eq, if◌then◌else◌}
use Rattle.std.specs.BTreeSet.{insert_key}
use Rattle.std.specs.List.{flat_map, fold}
use Rattle.std.specs.Ordering.{nat_cmp}
use Rattle.fc_path.specs.declared.oper.Spot.{Spot}
use Rattle.fc_path.specs.declared.oper.Step.TheVariants as step
use Rattle.fc_store.specs.Stores.{Stored, declared_in, opened, seen}
use Rattle.fc_store.specs.declared.spots.Purpose.TheVariants as purpose
use Rattle.fc_types.specs.BuiltIn.{is_live}
use Rattle.fc_types.specs.Components.{ComponentDecl}
use Rattle.fc_types.specs.declared.ty.Ty.{Ty}
use Rattle.fc_value.specs.Writing.{full_bytes}
use Rattle.fc_value.specs.declared.value.Value.{Value}
use Rattle.fc_element.specs.declared.configured.Configured.{Configured}

-- the spot of a component of an instance
abbrev pub component_spot : ℕ × ℕ → ℕ → Spot
component_spot pair id = record { class = pair.0; instance = pair.1; steps = step.Id id ∷ [] }

-- a node in its full form, where there is one
abbrev pub form_of : Result (Ty × Value) ℕ → Option (List ℕ)
form_of (Ok x) = Some (full_bytes x.0 x.1)
form_of (Err code) = None

-- the full form of a component, where it has a value
abbrev pub form_at : Spot → Stored → Option (List ℕ)
form_at spot s = form_of (seen purpose.Look spot s)

abbrev pub same_form : Option (List ℕ) → Option (List ℕ) → Bool
same_form None None = true
same_form None (Some other) = false
same_form (Some now) None = false
same_form (Some now) (Some other) = bytes_eq now other

-- a component of an instance, if it is not live and has another value than in the first store
abbrev pub changed_to : ℕ × ℕ → ℕ → Option (List ℕ) → Configured
changed_to pair id form = record { class = pair.0; instance = pair.1; component = id; form = form }

abbrev pub component_changes : Stored → Stored → ℕ × ℕ → ℕ → List Configured
component_changes first s pair id =
    if is_live pair.0 id then []
    else (if same_form (form_at (component_spot pair id) s) (form_at (component_spot pair id) first) then []
    else changed_to pair id (form_at (component_spot pair id) s) ∷ [])

-- the IDs of components, by rising ID
abbrev pub rising_ids : List ComponentDecl → List ℕ
rising_ids components = fold (λ ids (c : ComponentDecl). insert_key nat_cmp ids c.id) [] components

-- those of an instance
abbrev pub instance_changes : Stored → Stored → ℕ × ℕ → List Configured
instance_changes first s pair = flat_map (component_changes first s pair) (rising_ids (declared_in s.library pair.0))

-- by class, instance and component: what is not as in a new store with this library and these instances
abbrev pub configured : Stored → List Configured
configured s = flat_map (instance_changes (opened s.library s.instances) s) s.instances
