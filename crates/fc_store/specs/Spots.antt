-- The component to which a spot leads: RFC 5810, section 7.1, on paths; the codes, their order and the rights are this profile's own.
use Rattle.std.specs.Prelude.{ℕ, ◌==◌, Bool, not, ◌&&◌, ◌||◌, List, [], ◌∷◌, find, position, Option, Some, None, Result, Ok, Err, if◌then◌else◌}
use Rattle.fc_path.specs.declared.oper.Step.{Step}
use Rattle.fc_path.specs.declared.oper.Step.TheVariants as step
use Rattle.fc_tree.specs.Finding.{invalid_path, no_component, or_code}
use Rattle.fc_types.specs.Components.{ComponentDecl}
use Rattle.fc_types.specs.declared.class.Class.{Class}
use Rattle.fc_base.specs.Answers.{◌>>=◌}
use Rattle.fc_store.specs.declared.spots.Purpose.{Purpose}
use Rattle.fc_store.specs.declared.spots.Purpose.TheVariants as purpose

-- no LFB has the class
abbrev pub unknown_class : ℕ
unknown_class = 5

-- the class has no such instance
abbrev pub unknown_instance : ℕ
unknown_instance = 7

-- the component can't be written
abbrev pub read_only : ℕ
read_only = 12

-- the path names an event
abbrev pub event_error : ℕ
event_error = 20

-- the component can't be read
abbrev pub not_supported : ℕ
not_supported = 21

-- the class whose components only the element itself writes
abbrev pub mastership : ℕ
mastership = 126977

-- the first step, which has to be an ID
abbrev pub first_id : List Step → Result ℕ ℕ
first_id [] = Err invalid_path
first_id (step.Id id ∷ ss) = Ok id
first_id (step.Key id bytes ∷ ss) = Err invalid_path

abbrev pub is_event_base : ℕ → ℕ → Bool
is_event_base base id = not (base == 0) && (id == base)

-- an ID that is not that of the events, of which 0 is none
abbrev pub no_event : ℕ → ℕ → Result ℕ ℕ
no_event base id = if is_event_base base id then Err event_error else Ok id

-- whether rights are those to read, and those to write
abbrev pub may_read : ℕ → Bool
may_read access = (access == 1) || (access == 3)

abbrev pub may_write : ℕ → Bool
may_write access = (access == 2) || (access == 3)

-- the component, where its rights allow what is meant
abbrev pub allowed : Purpose → ℕ → ComponentDecl → ℕ → Result ℕ ℕ
allowed purpose.Read class component place = if may_read component.access then Ok place else Err not_supported
allowed purpose.Look class component place = Ok place
allowed purpose.Write class component place = if may_write component.access && not (class == mastership) then Ok place else Err read_only

abbrev pub allowed_at : Purpose → ℕ → ℕ → Option ComponentDecl → Result ℕ ℕ
allowed_at p class place None = Err no_component
allowed_at p class place (Some component) = allowed p class component place

abbrev pub placed : Purpose → ℕ → Option ComponentDecl → Option ℕ → Result ℕ ℕ
placed p class component None = Err no_component
placed p class component (Some place) = allowed_at p class place component

-- the place of the component with an ID among those of a class
abbrev pub component_place : Purpose → ℕ → List ComponentDecl → ℕ → Result ℕ ℕ
component_place p class components id = placed p class (find (λ (c : ComponentDecl). c.id == id) components) (position (λ (c : ComponentDecl). c.id == id) components)

-- the place of the component to which the first step leads within a class
abbrev pub place_in_class : Purpose → Class → List Step → Result ℕ ℕ
place_in_class p class ss = (first_id ss >>= no_event class.event_base) >>= component_place p class.id class.components

abbrev pub paired : ℕ → Result ℕ ℕ → Result (ℕ × ℕ) ℕ
paired i r = r >>= λ c. Ok (i, c)

abbrev pub in_class : Purpose → List (ℕ × ℕ) → ℕ → List Step → Class → Result (ℕ × ℕ) ℕ
in_class p pairs instance ss class = or_code unknown_instance (position (λ (q : ℕ × ℕ). (q.0 == class.id) && (q.1 == instance)) pairs) >>= λ i. paired i (place_in_class p class ss)

-- the place of the instance among the pairs, and that of the component within its class; or the first code: an unknown class, an unknown
-- instance, a first step that is no ID, the events, no such component, no right
abbrev pub resolved : Purpose → List Class → List (ℕ × ℕ) → ℕ → ℕ → List Step → Result (ℕ × ℕ) ℕ
resolved p classes pairs class instance ss = or_code unknown_class (find (λ (c : Class). c.id == class) classes) >>= in_class p pairs instance ss
