-- What a GET-PROP tells: RFC 5812, section 4.8; the numbers of the properties, the codes and their order are this profile's own.
use Rattle.std.specs.Prelude.{ℕ, ◌+◌, ◌%◌, ◌^◌, ◌==◌, Bool, false, List, [], ◌∷◌, map, find, length, slice_get, Option, Some, None, Result, Ok, Err, if◌then◌else◌}
use Rattle.fc_base.specs.Answers.{◌>>=◌}
use Rattle.fc_instance.specs.Cells.{look_cell}
use Rattle.fc_path.specs.declared.oper.Spot.{Spot}
use Rattle.fc_path.specs.declared.oper.Step.{Step}
use Rattle.fc_path.specs.declared.oper.Step.TheVariants as step
use Rattle.fc_store.specs.Spots.{is_event_base, resolved}
use Rattle.fc_store.specs.Stores.{Stored, declared_in, further, seen}
use Rattle.fc_store.specs.declared.spots.Purpose.TheVariants as purpose
use Rattle.fc_tree.specs.Finding.{entries_of, no_component}
use Rattle.fc_types.specs.BuiltIn.{is_live}
use Rattle.fc_types.specs.Components.{ComponentDecl}
use Rattle.fc_types.specs.declared.class.Class.{Class}
use Rattle.fc_types.specs.declared.ty.Field.{Field}
use Rattle.fc_types.specs.declared.ty.Ty.{Ty}
use Rattle.fc_types.specs.declared.ty.Ty.TheOpen.{Ty-F}
use Rattle.fc_types.specs.declared.ty.Ty.TheViews.{out-Ty}
use Rattle.fc_value.specs.Writing.{bare_bytes}
use Rattle.fc_value.specs.declared.value.Value.{Value}
use Rattle.fc_watch.specs.Settings.{event_props, prop}
use Rattle.fc_wire.specs.declared.ilvs.Ilv.{Ilv}
use Rattle.fc_events.specs.Events.{event_at}
use Rattle.fc_events.specs.Subscribing.{settings_at}
use Rattle.fc_events.specs.declared.subscriptions.Subscription.{Subscription}

-- the value of each live component
abbrev pub Told : Type 0
Told = ℕ → ℕ → ℕ → Option Value

-- ---- nodes
-- the last of rising subscripts, and 0 where there is none
abbrev pub highest : ℕ → List ℕ → ℕ
highest last [] = last
highest last (x ∷ xs) = highest x xs

-- the first number from one on that does not stand in front of rising subscripts
abbrev pub first_unused : ℕ → List ℕ → ℕ
first_unused n [] = n
first_unused n (x ∷ xs) = if x == n then first_unused (n + 1) xs else n

-- the last 32 bits of a number
abbrev pub word : ℕ → ℕ
word n = n % 2 ^ 32

abbrev pub array_props : List ℕ → List Ilv
array_props xs = prop 2 (word (length xs)) ∷ prop 3 (highest 0 xs) ∷ prop 4 (word (first_unused 0 xs)) ∷ []

abbrev pub length_props : ℕ → List ℕ → List Ilv
length_props longest bytes = prop 2 (word (length bytes)) ∷ prop 3 longest ∷ []

abbrev pub shape_props : Value → Ty-F Ty Field → List Ilv
shape_props v (Ty-F.Array entry limit keys) = array_props (map (λ e. e.0) (entries_of v))
shape_props v (Ty-F.String longest) = length_props longest (bare_bytes v)
shape_props v (Ty-F.Octets longest) = length_props longest (bare_bytes v)
shape_props v _ = []

-- the properties of a node in a component with these rights
abbrev pub node_props : ℕ → Ty × Value → List Ilv
node_props access x = prop 1 access ∷ shape_props x.1 (out-Ty x.0)

-- the node to which a spot leads in the configuration, with or without the right to read it
abbrev pub seen_there : Spot → Stored → Result (Ty × Value) ℕ
seen_there = seen purpose.Look

abbrev pub props_from : ℕ → Result (Ty × Value) ℕ → Result (List Ilv) ℕ
props_from access node = node >>= λ x. Ok (node_props access x)

-- the properties of a node in a component, whose value the element itself tells where it is a live one
abbrev pub props_of : Told → Stored → Spot → ComponentDecl → Result (List Ilv) ℕ
props_of told s spot component =
    if is_live spot.class component.id then props_from component.access (look_cell (further spot.steps) component.ty (told spot.class spot.instance component.id))
    else props_from component.access (seen_there spot s)

abbrev pub props_in : Told → Stored → Spot → Option ComponentDecl → Result (List Ilv) ℕ
props_in told s spot None = Err no_component
props_in told s spot (Some component) = props_of told s spot component

-- the properties of a component or of a node within it, which needs no right
abbrev pub props_of_node : Told → Stored → Spot → Result (List Ilv) ℕ
props_of_node told s spot =
    resolved purpose.Look s.library s.instances spot.class spot.instance spot.steps
    >>= λ place. props_in told s spot (slice_get (declared_in s.library spot.class) place.1)

-- ---- what a spot asks for
abbrev pub leads_to : ℕ → List Step → Bool
leads_to base [] = false
leads_to base (step.Id id ∷ ss) = is_event_base base id
leads_to base (step.Key id bytes ∷ ss) = false

abbrev pub leads_in : List Step → Option Class → Bool
leads_in ss None = false
leads_in ss (Some class) = leads_to class.event_base ss

abbrev pub leads_to_events : List Class → Spot → Bool
leads_to_events library spot = leads_in spot.steps (find (λ (c : Class). c.id == spot.class) library)

abbrev pub props_of_event : Stored → List Subscription → Spot → Result (List Ilv) ℕ
props_of_event s subs spot = event_at s.library s.instances spot >>= λ p. Ok (event_props (settings_at p subs))

-- the properties of what a spot leads to, an event where its first step is that of the events, or the code by which there are none
abbrev pub get_spot : Told → Stored → List Subscription → Spot → Result (List Ilv) ℕ
get_spot told s subs spot =
    if leads_to_events s.library spot then props_of_event s subs spot
    else props_of_node told s spot
