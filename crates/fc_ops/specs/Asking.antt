-- What the leaves of a query would hold: RFC 5810, section 7.1.6, on GET and GET-PROP. A component whose value the element itself tells is
-- read as it is told, by the rights and the steps of any other; this profile's own.
use Rattle.std.specs.Prelude.{ℕ, ◌==◌, ◌&&◌, Bool, true, false, if◌then◌else◌, List, [], ◌∷◌, map, slice_get, Option, Some, None, Result, Ok, Err}
use Rattle.std.specs.List.{flat_map}
use Rattle.fc_base.specs.Answers.{◌>>=◌}
use Rattle.fc_path.specs.Leaves.{select_leaves}
use Rattle.fc_path.specs.declared.oper.Leaf.{Leaf}
use Rattle.fc_path.specs.declared.oper.OperKind.{OperKind}
use Rattle.fc_path.specs.declared.oper.OperKind.TheVariants as kinds
use Rattle.fc_path.specs.declared.oper.Select.{Select}
use Rattle.fc_path.specs.declared.oper.Spot.{Spot}
use Rattle.fc_path.specs.declared.oper.Step.{Step}
use Rattle.fc_path.specs.declared.oper.Step.TheVariants as step
use Rattle.fc_tree.specs.Finding.{no_component}
use Rattle.fc_types.specs.BuiltIn.{is_live}
use Rattle.fc_types.specs.Components.{ComponentDecl}
use Rattle.fc_types.specs.declared.ty.Ty.{Ty}
use Rattle.fc_value.specs.Writing.{full_bytes}
use Rattle.fc_value.specs.declared.value.Value.{Value}
use Rattle.fc_instance.specs.Cells.{look_cell}
use Rattle.fc_store.specs.Spots.{not_supported, resolved}
use Rattle.fc_store.specs.Stores.{Stored, declared_in, further, seen}
use Rattle.fc_store.specs.declared.spots.Purpose.TheVariants as purpose
use Rattle.fc_ops.specs.declared.asking.Prop.{Prop}
use Rattle.fc_ops.specs.declared.asking.Prop.TheVariants as prop
use Rattle.fc_ops.specs.declared.offers.Content.{Content}
use Rattle.fc_ops.specs.declared.offers.Content.TheVariants as content

-- ---- what is asked for
-- an operation, and its place
abbrev pub Asked : Type 0
Asked = OperKind × Spot

abbrev pub question : Leaf → Asked
question l = (l.kind, l.spot)

-- what the leaves of selects ask for, in reading order
abbrev pub questions : List Select → List Asked
questions selects = flat_map (λ s. map question (select_leaves s)) selects

-- the steps of PATH-DATA that stand in each other
abbrev pub steps_along : List (List Step) → List Step
steps_along segments = flat_map (λ steps. steps) segments

-- ---- values
-- the value of each live component
abbrev pub Told : Type 0
Told = ℕ → ℕ → ℕ → Option Value

-- the live component into which steps lead
abbrev pub live_id : ℕ → ℕ → List Step → Option ℕ
live_id class instance [] = None
live_id class instance (step.Id id ∷ ss) = if is_live class id && (instance == 1) then Some id else None
live_id class instance (step.Key id bytes ∷ ss) = None

abbrev pub looked : List Step → Option Value → Option ComponentDecl → Result (Ty × Value) ℕ
looked ss v None = Err no_component
looked ss v (Some component) = look_cell ss component.ty v

-- the node to which a spot leads within what is told of a live component, with its type, or the first code: that of finding the component
-- to read it, and that of finding the node within
abbrev pub seen_live : Told → ℕ → Spot → Stored → Result (Ty × Value) ℕ
seen_live told id spot s =
    resolved purpose.Read s.library s.instances spot.class spot.instance spot.steps
    >>= λ place. looked (further spot.steps) (told spot.class spot.instance id) (slice_get (declared_in s.library spot.class) place.1)

abbrev pub seen_by : Told → Spot → Stored → Option ℕ → Result (Ty × Value) ℕ
seen_by told spot s None = seen purpose.Read spot s
seen_by told spot s (Some id) = seen_live told id spot s

-- the node that a GET reads
abbrev pub seen_now : Told → Spot → Stored → Result (Ty × Value) ℕ
seen_now told spot s = seen_by told spot s (live_id spot.class spot.instance spot.steps)

-- a node in its full form
abbrev pub in_full : Result (Ty × Value) ℕ → Result (List ℕ) ℕ
in_full node = node >>= λ x. Ok (full_bytes x.0 x.1)

abbrev pub value_content : Result (List ℕ) ℕ → Content
value_content (Ok bytes) = content.Full bytes
value_content (Err code) = content.Refused code

-- ---- properties
abbrev pub prop_content : Prop → Content
prop_content (prop.Held ilvs) = content.Sparse ilvs
prop_content (prop.Refused code) = content.Refused code

-- the next of the properties that are given, and those behind it; where there are no more, none are supported
abbrev pub next_prop : List Prop → Content × List Prop
next_prop [] = (content.Refused not_supported, [])
next_prop (p ∷ ps) = (prop_content p, ps)

-- ---- contents
abbrev pub takes_prop : OperKind → Bool
takes_prop kinds.GetProp = true
takes_prop _ = false

-- the content of a leaf, and the properties that are left for those behind it
abbrev pub content_by : Told → Stored → List Prop → Spot → Bool → Content × List Prop
content_by told s props spot true = next_prop props
content_by told s props spot false = (value_content (in_full (seen_now told spot s)), props)

abbrev pub content_of : Told → Stored → List Prop → Asked → Content × List Prop
content_of told s props asked = content_by told s props asked.1 (takes_prop asked.0)

-- the contents of leaves, in their order
abbrev pub contents_of : Told → Stored → List Prop → List Asked → List Content
contents_of told s props [] = []
contents_of told s props (asked ∷ more) =
    (content_of told s props asked).0 ∷ contents_of told s (content_of told s props asked).1 more
