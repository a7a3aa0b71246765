-- Classes of logical functional blocks (RFC 5812, section 4.7), and the rules that a declared class keeps (this profile's own).
use Rattle.std.specs.Prelude.{ℕ, ◌+◌, ◌==◌, nat_eq, nat_le, Bool, true, false, not, ◌&&◌, ◌||◌, List, [], ◌∷◌, map, sum, length, Option, Some, None, find, if◌then◌else◌}
use Rattle.std.specs.List.{list_all, list_any}
use Rattle.fc_types.specs.Ids.{is_distinct}
use Rattle.fc_types.specs.Types.{field_id, field_ty, fields_of, fields_within, nests, throughout, inside, is_atom, has_distinct_ids, is_in_range, fits_inside, has_atomic_keys}
use Rattle.fc_types.specs.Components.{ComponentDecl}
use Rattle.fc_types.specs.declared.class.Class.{Class}
use Rattle.fc_types.specs.declared.class.EventDecl.{EventDecl}
use Rattle.fc_types.specs.declared.class.When.{When}
use Rattle.fc_types.specs.declared.class.When.TheVariants as when
use Rattle.fc_types.specs.declared.class_rules.ClassRule.{ClassRule}
use Rattle.fc_types.specs.declared.class_rules.ClassRule.TheVariants.{Small, DistinctIds, Shallow, Ranges, AtomicKeys, Targets}
use Rattle.fc_types.specs.declared.ty.Ty.{Ty}
use Rattle.fc_types.specs.declared.ty.Ty.TheOpen.{Ty-F}
use Rattle.fc_types.specs.declared.ty.Ty.TheViews.{out-Ty}
use Rattle.fc_types.specs.declared.ty.Field.{Field}

-- whether the type of each component passes a test
abbrev pub each_type : (Ty → Bool) → Class → Bool
each_type test class = list_all (λ (x : ComponentDecl). test x.ty) class.components

-- a component and the fields in it
abbrev pub members_at : ComponentDecl → ℕ
members_at x = 1 + fields_within x.ty

-- the components of a class, their fields at any depth and its events
abbrev pub members : Class → ℕ
members class = length class.events + sum (map members_at class.components)

-- the IDs of the components of a class
abbrev pub component_ids : Class → List ℕ
component_ids class = map (λ (x : ComponentDecl). x.id) class.components

-- No two components, and no component and the event base, where there is one, have one ID.
abbrev pub components_differ : Class → Bool
components_differ class =
    is_distinct nat_eq (component_ids class)
    && ((class.event_base == 0) || not (list_any (λ id. class.event_base == id) (component_ids class)))

-- So do no two events, fields of one struct and keys of one array.
abbrev pub ids_differ : Class → Bool
ids_differ class =
    components_differ class && is_distinct nat_eq (map (λ (e : EventDecl). e.id) class.events)
    && each_type (throughout has_distinct_ids) class

-- A range, a length or a number of entries is one that the type can have, and an array inside a struct or an entry fits.
abbrev pub type_is_ranged : Ty → Bool
type_is_ranged ty = throughout is_in_range ty && inside fits_inside ty

abbrev pub some_type : Option Field → (Ty → Option Ty) → Option Ty
some_type None next = None
some_type (Some f) next = next (field_ty f)

-- the type that IDs of fields lead to, from a type through structs
abbrev pub type_at : List ℕ → Ty → Option Ty
type_at [] ty = Some ty
type_at (id ∷ ids) ty = some_type (find (λ f. field_id f == id) (fields_of ty)) (type_at ids)

abbrev pub type_in : List ℕ → Option ComponentDecl → Option Ty
type_in ids None = None
type_in ids (Some x) = if x.optional then None else type_at ids x.ty

-- the type of the target to which IDs lead, from a component that is not optional
abbrev pub target_type : List ComponentDecl → List ℕ → Option Ty
target_type components [] = None
target_type components (id ∷ ids) = type_in ids (find (λ x. x.id == id) components)

abbrev pub is_number_layer : Ty-F Ty Field → Bool
is_number_layer (Ty-F.Number bytes signed min max) = true
is_number_layer _ = false

abbrev pub is_array_layer : Ty-F Ty Field → Bool
is_array_layer (Ty-F.Array entry entries keys) = true
is_array_layer _ = false

-- A value that becomes greater or less is a number, one that changes is no struct or array, and entries are those of an array.
abbrev pub suits : When → Ty → Bool
suits when.Changed ty = is_atom ty
suits when.Created ty = is_array_layer (out-Ty ty)
suits when.Deleted ty = is_array_layer (out-Ty ty)
suits when.Greater ty = is_number_layer (out-Ty ty)
suits when.Less ty = is_number_layer (out-Ty ty)

abbrev pub suits_some : When → Option Ty → Bool
suits_some w None = false
suits_some w (Some ty) = suits w ty

-- the event has a target, and one that it suits
abbrev pub has_target : List ComponentDecl → EventDecl → Bool
has_target components event = suits_some event.when (target_type components event.target)

-- whether a class keeps the rule
abbrev pub class_keeps : ClassRule → Class → Bool
class_keeps Small class = nat_le (members class) 1024
class_keeps DistinctIds class = ids_differ class
class_keeps Shallow class = each_type (nests 8) class
class_keeps Ranges class = each_type type_is_ranged class
class_keeps AtomicKeys class = each_type (throughout has_atomic_keys) class
class_keeps Targets class = list_all (has_target class.components) class.events
