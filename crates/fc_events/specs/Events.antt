-- Where events stand, and what there is at their targets: RFC 5812, section 4.8.5; the codes and their order are this profile's own.
use Rattle.std.specs.Prelude.{ℕ, ℤ, pos, ◌==◌, ◌&&◌, Bool, false, List, [], ◌∷◌, map, find, Option, Some, None, Result, Ok, Err, if◌then◌else◌}
use Rattle.std.specs.List.{list_any}
use Rattle.fc_base.specs.Answers.{◌>>=◌}
use Rattle.fc_path.specs.declared.oper.Spot.{Spot}
use Rattle.fc_path.specs.declared.oper.Step.{Step}
use Rattle.fc_path.specs.declared.oper.Step.TheVariants as step
use Rattle.fc_store.specs.Spots.{event_error, is_event_base, read_only, unknown_class, unknown_instance}
use Rattle.fc_store.specs.Stores.{Stored, seen}
use Rattle.fc_store.specs.declared.spots.Purpose.TheVariants as purpose
use Rattle.fc_tree.specs.Finding.{entries_of, invalid_path, or_code}
use Rattle.fc_types.specs.declared.class.Class.{Class}
use Rattle.fc_types.specs.declared.class.EventDecl.{EventDecl}
use Rattle.fc_types.specs.declared.class.When.{When}
use Rattle.fc_types.specs.declared.ty.Field.{Field}
use Rattle.fc_types.specs.declared.ty.Ty.{Ty}
use Rattle.fc_types.specs.declared.ty.Ty.TheOpen.{Ty-F}
use Rattle.fc_types.specs.declared.ty.Ty.TheViews.{out-Ty}
use Rattle.fc_value.specs.Writing.{full_bytes}
use Rattle.fc_value.specs.declared.value.Value.{Value, out-Value}
use Rattle.fc_value.specs.declared.value.Value.TheOpen.{Value-F}
use Rattle.fc_watch.specs.declared.watch.Seen.{Seen}
use Rattle.fc_watch.specs.declared.watch.Seen.TheVariants as seen_as
use Rattle.fc_events.specs.declared.subscriptions.EventPlace.{EventPlace}

abbrev pub place : ℕ → ℕ → ℕ → EventPlace
place class instance event = record { class = class; instance = instance; event = event }

-- ---- which event a spot names
-- the step behind the event base, which has to be the ID of a declared event
abbrev pub event_named : List EventDecl → Step → Result ℕ ℕ
event_named events (step.Id id) = if list_any (λ (e : EventDecl). e.id == id) events then Ok id else Err event_error
event_named events (step.Key id bytes) = Err event_error

-- it is the only one
abbrev pub event_behind : List EventDecl → List Step → Result ℕ ℕ
event_behind events [] = Err event_error
event_behind events (s ∷ []) = event_named events s
event_behind events (s ∷ t ∷ ss) = Err event_error

-- the ID of the event to which steps lead within a class
abbrev pub event_in : Class → List Step → Result ℕ ℕ
event_in class [] = Err invalid_path
event_in class (step.Key id bytes ∷ ss) = Err invalid_path
event_in class (step.Id id ∷ ss) = if is_event_base class.event_base id then event_behind class.events ss else Err read_only

-- the class of a spot, where its instance is there
abbrev pub has_instance : List (ℕ × ℕ) → ℕ → ℕ → Bool
has_instance pairs class instance = list_any (λ (q : ℕ × ℕ). (q.0 == class) && (q.1 == instance)) pairs

abbrev pub event_by : List (ℕ × ℕ) → Spot → Class → Result EventPlace ℕ
event_by pairs spot class =
    if has_instance pairs class.id spot.instance then (event_in class spot.steps >>= λ event. Ok (place spot.class spot.instance event))
    else Err unknown_instance

-- the event that a spot names, or the first code: an unknown class, an unknown instance, a first step that is no ID, one that is not
-- that of the events, and steps behind that which name no event
abbrev pub event_at : List Class → List (ℕ × ℕ) → Spot → Result EventPlace ℕ
event_at classes pairs spot = or_code unknown_class (find (λ (c : Class). c.id == spot.class) classes) >>= event_by pairs spot

-- ---- targets
abbrev pub events_of : Option Class → List EventDecl
events_of None = []
events_of (Some class) = class.events

-- what is declared of an event
abbrev pub declared : List Class → EventPlace → Option EventDecl
declared classes p = find (λ (e : EventDecl). e.id == p.event) (events_of (find (λ (c : Class). c.id == p.class) classes))

abbrev pub target_spot : EventPlace → EventDecl → Spot
target_spot p event = record { class = p.class; instance = p.instance; steps = map step.Id event.target }

-- what an evaluation needs of a target: when its event happens, its type and its value
pub record Sight : Type 0 where
  pub when : When
  pub ty : Ty
  pub value : Value

abbrev pub sight : When → Ty → Value → Sight
sight when ty v = record { when = when; ty = ty; value = v }

abbrev pub sighted : When → Result (Ty × Value) ℕ → Option Sight
sighted when (Err code) = None
sighted when (Ok x) = Some (sight when x.0 x.1)

abbrev pub sight_by : Stored → EventPlace → Option EventDecl → Option Sight
sight_by s p None = None
sight_by s p (Some event) = sighted event.when (seen purpose.Look (target_spot p event) s)

-- the target of an event, where it has a value in the configuration
abbrev pub sight_of : Stored → EventPlace → Option Sight
sight_of s p = sight_by s p (declared s.library p)

abbrev pub signed_layer : Ty-F Ty Field → Bool
signed_layer (Ty-F.Number bytes signed min max) = signed
signed_layer _ = false

-- whether the numbers of a type are signed
abbrev pub is_signed : Ty → Bool
is_signed ty = signed_layer (out-Ty ty)

abbrev pub number_layer : Value-F Value → ℤ
number_layer (Value-F.Number n) = n
number_layer _ = pos 0

abbrev pub seen_layer : Ty → Value → Ty-F Ty Field → Seen
seen_layer ty v (Ty-F.Number bytes signed min max) = seen_as.Number (number_layer (out-Value v))
seen_layer ty v (Ty-F.Array entry limit keys) = seen_as.Subscripts (map (λ e. e.0) (entries_of v))
seen_layer ty v _ = seen_as.Bytes (full_bytes ty v)

-- what an evaluation sees of a value: a number, the subscripts of an array, or the full form of another one
unfoldable pub seen_of : Ty → Value → Seen
seen_of ty v = seen_layer ty v (out-Ty ty)
