-- What an instance holds, and how changes of it are undone. This profile's own.
use Rattle.std.specs.Prelude.{◌≡◌, ◌<◌, ◌≤◌, ◌+◌, ℕ, Bool, false, option_map, List, [], ◌∷◌, length, map, drop, slice_get, slice_set, Option, Some, None, refl}
use Rattle.std.specs.Coded.{Coded, code_by, coded×, coded_list, coded_option}
use Rattle.fc_value.specs.contracts.value.Value as contracts
use Rattle.std.specs.List.{AllByRecursion}
use Rattle.std.specs.FinMap.{entries, from_sorted, get, len}
use Rattle.fc_value.specs.declared.value.Value.{Value}
use Rattle.fc_value.specs.declared.value.Value.TheVariants as value
use Rattle.fc_tree.specs.Finding.{entries_of}
use Rattle.fc_value.specs.Keys.{keys_differ}
use Rattle.fc_rows.specs.Rowed.{CanSwap, KeysFit, RowMap, Shape, shape_code, updated}
use Rattle.fc_instance.specs.declared.instance.Slot.{Slot}
use Rattle.fc_instance.specs.declared.instance.Slot.TheVariants as slot
use Rattle.fc_instance.specs.declared.instance.Inverse.{Inverse}
use Rattle.fc_instance.specs.declared.instance.Inverse.TheVariants as inverse

-- what is seen of a component that has a value: that value, and of an array also what tells its entries apart
abbrev pub Cell : Type 0
Cell = Value × Option Shape

abbrev pub slot_cell : Slot → Option Cell
slot_cell slot.Absent = None
slot_cell (slot.Whole v) = Some (v, None)
slot_cell (slot.Entries rows) = Some (value.Table (entries rows.0), Some rows.1.1)

-- the components in their order
abbrev pub Values : Type 0
Values = List (Option Cell)

abbrev pub values_of : List Slot → Values
values_of = map slot_cell

abbrev pub swapped : ℕ → Option Value → Slot → Slot
swapped s v (slot.Entries rows) = slot.Entries (updated rows.0 s v, rows.1)
swapped s v other = other

abbrev pub at_slot : (Slot → Slot) → ℕ → List Slot → Option Slot → List Slot
at_slot change c slots None = slots
at_slot change c slots (Some slot) = slice_set slots c (change slot)

-- what an inverse makes of the components
abbrev pub undo : Inverse → List Slot → List Slot
undo (inverse.Whole c old) slots = slice_set slots c old
undo (inverse.Entry c s row) slots = at_slot (swapped s row.value) c slots (slice_get slots c)

-- what the inverses, the last of them first, make of the components
abbrev pub undone : List Inverse → List Slot → List Slot
undone [] slots = slots
undone (i ∷ is) slots = undo i (undone is slots)

-- a value, or none, can be put at a subscript, with the keys that enter and those that leave
abbrev pub HasRoom : ℕ → Option Value → List (List ℕ) → List (List ℕ) → Option Slot → Type 0
HasRoom s v entering leaving (Some (slot.Entries rows)) = CanSwap rows s v entering leaving
HasRoom s v entering leaving _ = ⊥

abbrev pub CanUndo : Inverse → List Slot → Type 0
CanUndo (inverse.Whole c old) slots = c < length slots
CanUndo (inverse.Entry c s row) slots = HasRoom s row.value row.entering row.leaving (slice_get slots c)

-- each inverse can be undone, after those behind it
abbrev pub Undoable : List Inverse → List Slot → Type 0
Undoable [] slots = Unit {0}
Undoable (i ∷ is) slots = CanUndo i (undone is slots) × Undoable is slots

-- the values that stood when there were so many inverses
abbrev pub values_at : List Inverse → List Slot → ℕ → Values
values_at log slots m = values_of (undone (drop m log) slots)

-- the marks rise, and none is above a bound
abbrev pub Within : ℕ → List ℕ → Type 0
Within bound [] = Unit {0}
Within bound (m ∷ ms) = (m ≤ bound) × Within bound ms

abbrev pub Rising : List ℕ → Type 0
Rising [] = Unit {0}
Rising (m ∷ ms) = AllByRecursion (λ n. m ≤ n) ms × Rising ms

-- the oldest mark stands before all changes that are kept; without a mark none is kept
abbrev pub Begun : List ℕ → List Inverse → Type 0
Begun [] log = log ≡ []
Begun (m ∷ ms) log = m ≡ 0

-- what an instance keeps: each change since the oldest mark can be undone, and the marks lie within the changes
pub record Kept (slots : List Slot) (log : List Inverse) (marks : List ℕ) : Type 0 where
  pub undoable : Undoable log slots
  pub within : Within (length log) marks
  pub rising : Rising marks
  pub begun : Begun marks log

-- what an instance is seen as: the values of its components, and those that stood at each mark that stands, the oldest first
pub record Held : Type 0 where
  pub now : Values
  pub held : List Values

abbrev pub seen : List Slot → List Inverse → List ℕ → Held
seen slots log marks = record { now = values_of slots; held = map (values_at log slots) marks }

abbrev pub values_code : Coded Values
values_code = coded_list (coded_option (coded× contracts.the_row.coded (coded_option shape_code)))

abbrev pub held_code : Coded Held
held_code = code_by (Values × List Values) (coded× values_code (coded_list values_code)) (λ h. (h.now, h.held)) (λ p. record { now = p.0; held = p.1 }) (λ _. refl)

-- ---- a change of an entry
-- an array
abbrev pub IsArray : Option Slot → Type 0
IsArray (Some (slot.Entries rows)) = Unit {0}
IsArray _ = ⊥

-- the same values, with at least as much room
abbrev pub IsRoomier : Slot → Slot → Type 0
IsRoomier (slot.Entries a) (slot.Entries b) = (b.0 ≡ a.0) × (a.1.0 ≤ b.1.0) × (b.1.1 ≡ a.1.1)
IsRoomier slot.Absent slot.Absent = Unit {0}
IsRoomier (slot.Whole v) (slot.Whole w) = w ≡ v
IsRoomier _ _ = ⊥

abbrev pub AreRoomier : List Slot → List Slot → Type 0
AreRoomier [] [] = Unit {0}
AreRoomier [] (t ∷ ts) = ⊥
AreRoomier (s ∷ ss) [] = ⊥
AreRoomier (s ∷ ss) (t ∷ ts) = IsRoomier s t × AreRoomier ss ts

abbrev pub IsRoomyArray : Option Slot → Type 0
IsRoomyArray (Some (slot.Entries rows)) = len rows.0 + 1 ≤ rows.1.0
IsRoomyArray _ = ⊥

-- an array with room for one entry more
abbrev pub HasPlace : Slot → Type 0
HasPlace (slot.Entries rows) = len rows.0 + 1 ≤ rows.1.0
HasPlace _ = Unit {0}

-- the entries of a value that is an array, as a map
abbrev pub rows_of : Value → RowMap
rows_of v = from_sorted (entries_of v)

abbrev pub differ_with : ℕ → Option Value → Value → Option Shape → Bool
differ_with s v w None = false
differ_with s v w (Some shape) = keys_differ shape.0 shape.1 (entries (updated (rows_of w) s v))

abbrev pub takes_in : ℕ → Option Value → Option Cell → Bool
takes_in s v None = false
takes_in s v (Some cell) = differ_with s v cell.0 cell.1

-- whether a component is an array whose entries differ in each key with another one, or none, at a subscript
abbrev pub takes : ℕ → Option Value → Option (Option Cell) → Bool
takes s v None = false
takes s v (Some cell) = takes_in s v cell

-- the keys of an array are those that enter and those that leave
abbrev pub Fits : ℕ → Option Value → List (List ℕ) → List (List ℕ) → Slot → Type 0
Fits s v entering leaving (slot.Entries rows) = KeysFit rows.1.1 rows.0 s v entering leaving
Fits s v entering leaving _ = ⊥

abbrev pub FitsAt : ℕ → Option Value → List (List ℕ) → List (List ℕ) → Option Slot → Type 0
FitsAt s v entering leaving None = ⊥
FitsAt s v entering leaving (Some slot) = Fits s v entering leaving slot

-- the keys that enter and those that leave, or none, where it is no array or another entry has a key of the new one
abbrev pub FoundKeys : ℕ → Option Value → Option Slot → Option (List (List ℕ) × List (List ℕ)) → Type 0
FoundKeys s v slot None = takes s v (option_map slot_cell slot) ≡ false
FoundKeys s v slot (Some x) = FitsAt s v x.0 x.1 slot

abbrev pub entry_at : ℕ → Slot → Option Value
entry_at s (slot.Entries rows) = get rows.0 s
entry_at s _ = None

abbrev pub entry_in : ℕ → Option Slot → Option Value
entry_in s None = None
entry_in s (Some slot) = entry_at s slot

abbrev pub entry_put : ℕ → Option Value → Option Cell → Option Cell
entry_put s v None = None
entry_put s v (Some cell) = Some (value.Table (entries (updated (rows_of cell.0) s v)), cell.1)

abbrev pub put_among : ℕ → ℕ → Option Value → Values → Option (Option Cell) → Values
put_among c s v vs None = vs
put_among c s v vs (Some w) = slice_set vs c (entry_put s v w)

-- the values with another one, or none, at a subscript of a component that is an array
abbrev pub with_entry : ℕ → ℕ → Option Value → Values → Values
with_entry c s v vs = put_among c s v vs (slice_get vs c)

-- the values that stood after each of the changes that were noted before are as they were, and all can still be undone
pub record AreHeld (old : List Slot) (before : List Inverse) (new : List Slot) (log : List Inverse) : Type 0 where
  pub longer : length before ≤ length log
  pub same : (m : ℕ) → m ≤ length before → values_at log new m ≡ values_at before old m
  pub undoable : Undoable log new
