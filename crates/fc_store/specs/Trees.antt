-- What a store keeps of the instances beside their values: each component lies in the form of its type. This profile's own.
use Rattle.std.specs.Prelude.{◌≡◌, ◌<◌, ℕ, List, [], length, map, slice_get, slice_set, slice_index_or, Option, Some, None, Result, Ok, Err}
use Rattle.std.specs.List.{AllByRecursion}
use Rattle.fc_base.specs.declared.faults.OpFault.{OpFault}
use Rattle.fc_types.specs.Components.{ComponentDecl}
use Rattle.fc_types.specs.declared.class.Class.{Class}
use Rattle.fc_types.specs.declared.ty.Ty.{Ty}
use Rattle.fc_value.specs.Outcomes.{Fails}
use Rattle.fc_value.specs.declared.value.Value.{Value}
use Rattle.fc_instance.specs.Cells.{IsShaped, cell_at, valued}
use Rattle.fc_instance.specs.Histories.{Cell, Held, Values}
use Rattle.fc_store.specs.Scopes.{at}
use Rattle.fc_store.specs.Stores.{Components, Pairwise, Stored, Tree, declared_in, depth_in, opens}

-- the values of what is seen of an instance
abbrev pub plain : Values → Components
plain = map valued

abbrev pub tree_of : Held → Tree
tree_of h = record { now = plain h.now; held = map plain h.held }

abbrev pub stored : List Class → List (ℕ × ℕ) → List Held → Stored
stored library instances hs = record { library = library; instances = instances; trees = map tree_of hs }

abbrev pub IsOfType : ComponentDecl → Option Cell → Type 0
IsOfType component cell = IsShaped component.ty cell

abbrev pub AreShaped : List ComponentDecl → Values → Type 0
AreShaped = Pairwise IsOfType

-- now, and at each mark
abbrev pub IsTree : List ComponentDecl → Held → Type 0
IsTree components h = AreShaped components h.now × AllByRecursion (AreShaped components) h.held

abbrev pub IsTreeOf : List Class → ℕ × ℕ → Held → Type 0
IsTreeOf library pair h = IsTree (declared_in library pair.0) h

abbrev pub AreTrees : List Class → List (ℕ × ℕ) → List Held → Type 0
AreTrees library = Pairwise (IsTreeOf library)

-- ---- opening values
abbrev pub Opens : ℕ → ComponentDecl → Option Cell → Type 0
Opens class component cell = (valued cell ≡ opens class component) × IsShaped component.ty cell

abbrev pub IsOpened : List Class → ℕ × ℕ → Held → Type 0
IsOpened library pair h = Pairwise (Opens pair.0) (declared_in library pair.0) h.now × (h.held ≡ [])

-- ---- one component
abbrev pub cell_of : ℕ → Option Held → Option Cell
cell_of c None = None
cell_of c (Some h) = cell_at c h.now

-- the value of the component at a place of an instance and one within it
abbrev pub value_there : List Held → ℕ × ℕ → Option Value
value_there hs place = valued (cell_of place.1 (slice_get hs place.0))

abbrev pub with_cell : ℕ → Option Cell → Held → Held
with_cell c cell h = record { now = slice_set h.now c cell; held = h.held }

-- there is such a component, in the form of its type
abbrev pub HasCell : Ty → ℕ → Option Held → Type 0
HasCell ty c None = ⊥
HasCell ty c (Some h) = (c < length h.now) × IsShaped ty (cell_at c h.now)

abbrev pub IsThere : Ty → ℕ × ℕ → List Held → Type 0
IsThere ty place hs = HasCell ty place.1 (slice_get hs place.0)

-- what a call answers and what stands then: another thing for the component, or after a fault what stood before
abbrev pub ChangedThere : Result (Unit {0}) OpFault → Result (Option Value) ℕ → Ty → ℕ × ℕ → List Held → List Held → Type 0
ChangedThere (Ok x) outcome ty place old new = (cell : Option Cell) × (outcome ≡ Ok (valued cell)) × IsShaped ty cell × (new ≡ at (with_cell place.1 cell) place.0 old)
ChangedThere (Err fault) outcome ty place old new = Fails fault outcome × (new ≡ old)

-- ---- copies
abbrev pub held_then : Option ℕ → Held → Values
held_then None h = h.now
held_then (Some d) h = slice_index_or h.held d h.now

abbrev pub settled_held : List (List (ℕ × ℕ)) → ℕ → Held → Held
settled_held marks i h = record { now = held_then (depth_in marks i) h; held = [] }
