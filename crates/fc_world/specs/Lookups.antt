-- What of a world, or of its script, has a name. This profile's own.
use Rattle.std.specs.Prelude.{◌≡◌, ℕ, zero, suc, ◌==◌, Bool, List, [], ◌∷◌, map, slice_get, Option, Some, None, option_map, is_some, if◌then◌else◌}
use Rattle.std.specs.FinMap.{get}
use Rattle.std.specs.Str.{bytes_eq}
use Rattle.fc_documents.specs.declared.transaction.PlanTxn.{PlanTxn}
use Rattle.fc_element.specs.ElementState.{ElementState}
use Rattle.fc_keys.specs.Keys.{KeyMap}
use Rattle.fc_path.specs.declared.oper.Select.{Select}
use Rattle.fc_world.specs.Worlds.{Ruling, Standing, number_of}
use Rattle.fc_world.specs.declared.sent.Parcel.{Parcel}
use Rattle.fc_world.specs.declared.nodes.Node.{Node}

-- the item at a place is changed
abbrev pub changed_at : {A : Type 0} → (A → A) → ℕ → List A → List A
changed_at f i [] = []
changed_at f zero (x ∷ xs) = f x ∷ xs
changed_at f (suc i) (x ∷ xs) = x ∷ changed_at f i xs

-- the place of the first item for which this holds
abbrev pub place_in : {A : Type 0} → (A → Bool) → List A → Option ℕ
place_in is [] = None
place_in is (x ∷ xs) = if is x then Some 0 else option_map suc (place_in is xs)

-- and that item, where there is one
abbrev pub in_place : {A : Type 0} → (A → A) → Option ℕ → List A → List A
in_place f None xs = xs
in_place f (Some i) xs = changed_at f i xs

-- ---- elements, by their IDs
abbrev pub is_node : ℕ → Node → Bool
is_node f n = f == n.id

abbrev pub element_in : ℕ → List Node → Option ElementState
element_in f [] = None
element_in f (n ∷ ns) = if is_node f n then Some n.element else element_in f ns

abbrev pub has_element : ℕ → List Node → Bool
has_element f ns = is_some (element_in f ns)

abbrev pub node_place : ℕ → List Node → Option ℕ
node_place f ns = place_in (is_node f) ns

-- the first element of this ID is now this one
abbrev pub node_with : ElementState → Node → Node
node_with e n = record { id = n.id; element = e }

abbrev pub with_element : ℕ → ElementState → List Node → List Node
with_element f e [] = []
with_element f e (n ∷ ns) = if is_node f n then node_with e n ∷ ns else n ∷ with_element f e ns

-- the IDs, in the order of the script
abbrev pub ids_of : List Node → List ℕ
ids_of ns = map (λ (n : Node). n.id) ns

-- ---- control elements, by their numbers
abbrev pub is_controller : ℕ → Standing → Bool
is_controller c s = c == number_of s.ce

abbrev pub controller_in : ℕ → List Standing → Option Standing
controller_in c [] = None
controller_in c (s ∷ ss) = if is_controller c s then Some s else controller_in c ss

abbrev pub has_controller : ℕ → List Standing → Bool
has_controller c ss = is_some (controller_in c ss)

abbrev pub controller_place : ℕ → List Standing → Option ℕ
controller_place c ss = place_in (is_controller c) ss

-- the first control element of this number is now this one
abbrev pub with_controller : ℕ → Standing → List Standing → List Standing
with_controller c new [] = []
with_controller c new (s ∷ ss) = if is_controller c s then new ∷ ss else s ∷ with_controller c new ss

-- the life of a control element, where it is there and runs
abbrev pub life_of : Option Standing → Option Ruling
life_of None = None
life_of (Some s) = s.running

abbrev pub ruling_in : ℕ → List Standing → Option Ruling
ruling_in c ss = life_of (controller_in c ss)

abbrev pub is_running : ℕ → List Standing → Bool
is_running c ss = is_some (ruling_in c ss)

-- ---- transactions, by their names
abbrev pub transaction_in : List ℕ → List PlanTxn → Option PlanTxn
transaction_in name [] = None
transaction_in name (t ∷ ts) = if bytes_eq name t.name then Some t else transaction_in name ts

abbrev pub is_named : List ℕ → PlanTxn → Bool
is_named name t = bytes_eq name t.name

-- for each name the place of the first transaction that has it
abbrev pub IsIndex : KeyMap → List PlanTxn → Type 0
IsIndex names ts = (name : List ℕ) → get names name ≡ place_in (is_named name) ts

-- the one change of a transaction that has exactly one in all, with its element
abbrev pub lone_change : ℕ → List (List Select) → Option (ℕ × List Select)
lone_change f [] = None
lone_change f (c ∷ []) = Some (f, c)
lone_change f (c ∷ d ∷ cs) = None

abbrev pub lone_part : List (ℕ × List (List Select)) → Option (ℕ × List Select)
lone_part [] = None
lone_part (p ∷ []) = lone_change p.0 p.1
lone_part (p ∷ q ∷ ps) = None

abbrev pub lone_of : Option PlanTxn → Option (ℕ × List Select)
lone_of None = None
lone_of (Some t) = lone_part t.parts

abbrev pub plain_in : List ℕ → List PlanTxn → Option (ℕ × List Select)
plain_in name ts = lone_of (transaction_in name ts)

-- ---- messages, by their numbers from 1
abbrev pub parcel_in : ℕ → List Parcel → Option Parcel
parcel_in zero ps = None
parcel_in (suc i) ps = slice_get ps i
