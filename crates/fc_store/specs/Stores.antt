-- A store: what the instances of an element hold, found by spots, and at marks over some of them. RFC 5810, section 7.1, on SET and DEL;
-- the marks, the scopes and the opening values are this profile's own.
use Rattle.std.specs.Prelude.{◌≡◌, ◌+◌, ◌-◌, ◌==◌, ℕ, ℤ, pos, Bool, true, ◌&&◌, ◌||◌, List, [], ◌∷◌, ◌++◌, length, map, take, find, slice_get, slice_set, slice_index_or, Option, Some, None, option_map, Result, Ok, Err, if◌then◌else◌, refl}
use Rattle.std.specs.List.{list_any}
use Rattle.std.specs.Coded.{Coded, code_by, coded×, coded_ℕ, coded_list, coded_option}
use Rattle.fc_base.specs.Answers.{◌>>=◌}
use Rattle.fc_base.specs.declared.faults.OpFault.{OpFault}
use Rattle.fc_path.specs.declared.oper.Spot.{Spot}
use Rattle.fc_path.specs.declared.oper.Step.{Step}
use Rattle.fc_path.specs.declared.oper.Step.TheVariants as step
use Rattle.fc_tree.specs.Finding.{no_component}
use Rattle.fc_types.specs.BuiltIn.{is_live}
use Rattle.fc_types.specs.Components.{ComponentDecl}
use Rattle.fc_types.specs.Libraries.{same_instance}
use Rattle.fc_types.specs.declared.class.Class.{Class}
use Rattle.fc_types.specs.contracts.class.Class as class_contracts
use Rattle.fc_types.specs.declared.ty.Ty.{Ty}
use Rattle.fc_value.specs.Opening.{opening}
use Rattle.fc_value.specs.Outcomes.{Fails}
use Rattle.fc_value.specs.Reading.{full_in}
use Rattle.fc_value.specs.declared.value.Value.{Value}
use Rattle.fc_value.specs.declared.value.Value.TheVariants as value
use Rattle.fc_value.specs.contracts.value.Value as value_contracts
use Rattle.fc_wire.specs.declared.ilvs.Ilv.{Ilv}
use Rattle.fc_instance.specs.Cells.{look_cell, merge_cell, put_cell, remove_cell}
use Rattle.fc_store.specs.Scopes.{at, each_at}
use Rattle.fc_store.specs.Spots.{mastership, resolved}
use Rattle.fc_store.specs.declared.spots.Purpose.{Purpose}
use Rattle.fc_store.specs.declared.spots.Purpose.TheVariants as purpose

-- the values of the components of an instance, in the order of its class, each one or none
abbrev pub Components : Type 0
Components = List (Option Value)

-- what an instance holds now, and what it held at each mark that stands, the oldest first
pub record Tree : Type 0 where
  pub now : Components
  pub held : List Components

-- the instances of an element, in their order, with the tree of each
pub record Stored : Type 0 where
  pub library : List Class
  pub instances : List (ℕ × ℕ)
  pub trees : List Tree

abbrev pub components_code : Coded Components
components_code = coded_list (coded_option value_contracts.the_row.coded)

abbrev pub tree_code : Coded Tree
tree_code = code_by (Components × List Components) (coded× components_code (coded_list components_code)) (λ t. (t.now, t.held)) (λ p. record { now = p.0; held = p.1 }) (λ _. refl)

abbrev pub Parts : Type 0
Parts = List Class × (List (ℕ × ℕ) × List Tree)

abbrev pub stored_code : Coded Stored
stored_code =
    code_by Parts (coded× (coded_list class_contracts.the_row.coded) (coded× (coded_list (coded× coded_ℕ coded_ℕ)) (coded_list tree_code)))
    (λ s. (s.library, (s.instances, s.trees))) (λ p. record { library = p.0; instances = p.1.0; trees = p.1.1 }) (λ _. refl)

-- ---- opening values
abbrev pub components_of : Option Class → List ComponentDecl
components_of None = []
components_of (Some class) = class.components

-- the components of a class of a library
abbrev pub declared_in : List Class → ℕ → List ComponentDecl
declared_in library class = components_of (find (λ (k : Class). k.id == class) library)

-- the opening and the subject of a transaction, which hold nothing
abbrev pub holds_nothing : ℕ → ℕ → Bool
holds_nothing class id = (class == mastership) && ((id == 4) || (id == 5))

abbrev pub opens_absent : ℕ → ComponentDecl → Bool
opens_absent class component = component.optional || (is_live class component.id || holds_nothing class component.id)

-- the opening values that are not those of their types: FEState, CEHDI and FEHI
abbrev pub opening_number : ℕ → ℕ → Option ℤ
opening_number class id =
    if (class == 1) && (id == 7) then Some (pos 2)
    else (if (class == 2) && (id == 5) then Some (pos 30000) else (if (class == 2) && (id == 7) then Some (pos 500) else None))

abbrev pub number_or : Option ℤ → Ty → Value
number_or None ty = opening ty
number_or (Some n) ty = value.Number n

-- the value that a component opens with, or none: where it may be absent, where it stands in no configuration, and where it holds nothing
abbrev pub opens : ℕ → ComponentDecl → Option Value
opens class component = if opens_absent class component then None else Some (number_or (opening_number class component.id) component.ty)

abbrev pub opening_tree : List Class → ℕ × ℕ → Tree
opening_tree library pair = record { now = map (opens pair.0) (declared_in library pair.0); held = [] }

-- a new store
abbrev pub opened : List Class → List (ℕ × ℕ) → Stored
opened library instances = record { library = library; instances = instances; trees = map (opening_tree library) instances }

-- two lists of one length whose members belong together, place by place
abbrev pub Pairwise : {A B : Type 0} → (A → B → Type 0) → List A → List B → Type 0
Pairwise R [] [] = Unit {0}
Pairwise R [] (y ∷ ys) = ⊥
Pairwise R (x ∷ xs) [] = ⊥
Pairwise R (x ∷ xs) (y ∷ ys) = R x y × Pairwise R xs ys

-- each instance has a value, or none, for each component of its class
abbrev pub IsWholeTree : List Class → ℕ × ℕ → Tree → Type 0
IsWholeTree library pair t = length t.now ≡ length (declared_in library pair.0)

abbrev pub IsWhole : Stored → Type 0
IsWhole s = Pairwise (IsWholeTree s.library) s.instances s.trees

-- ---- one component
abbrev pub present : Option (Option Value) → Option Value
present None = None
present (Some v) = v

abbrev pub value_of : ℕ → Option Tree → Option Value
value_of c None = None
value_of c (Some t) = present (slice_get t.now c)

-- the value of the component at a place of an instance and one within it
abbrev pub value_in : Stored → ℕ × ℕ → Option Value
value_in s place = value_of place.1 (slice_get s.trees place.0)

abbrev pub with_component : ℕ → Option Value → Tree → Tree
with_component c v t = record { now = slice_set t.now c v; held = t.held }

-- with another value of that component, or none
abbrev pub with_value : Stored → ℕ × ℕ → Option Value → Stored
with_value s place v = record { library = s.library; instances = s.instances; trees = at (with_component place.1 v) place.0 s.trees }

-- the steps behind the one to the component
abbrev pub further : List Step → List Step
further [] = []
further (s ∷ ss) = ss

-- what an operation makes of a component, of its declaration and its value
abbrev pub Change : Type 0
Change = ComponentDecl → Option Value → Result (Option Value) ℕ

abbrev pub changed_at : Change → Stored → ℕ × ℕ → Option ComponentDecl → Result Stored ℕ
changed_at change s place None = Err no_component
changed_at change s place (Some component) = change component (value_in s place) >>= λ v. Ok (with_value s place v)

-- what a change at a spot makes of a store, or the first code: that of finding the component to write it, and that of the change
abbrev pub changed : Change → Spot → Stored → Result Stored ℕ
changed change spot s =
    resolved purpose.Write s.library s.instances spot.class spot.instance spot.steps
    >>= λ place. changed_at change s place (slice_get (declared_in s.library spot.class) place.1)

-- one change, and then another
abbrev pub then_changed : Change → Spot → Result Stored ℕ → Result Stored ℕ
then_changed change spot r = r >>= changed change spot

-- two spots at different instances
abbrev pub AreApart : Spot → Spot → Type 0
AreApart a b = a.class ≡ b.class → a.instance ≡ b.instance → ⊥

-- a SET of FULLDATA, a SET of SPARSEDATA and a DEL
abbrev pub put_spot : Spot → List ℕ → Stored → Result Stored ℕ
put_spot spot bytes = changed (λ component v. put_cell (further spot.steps) bytes component.ty v) spot

abbrev pub merge_spot : Spot → List Ilv → Stored → Result Stored ℕ
merge_spot spot ilvs = changed (λ component v. merge_cell (further spot.steps) ilvs component.ty v) spot

abbrev pub remove_spot : Spot → Stored → Result Stored ℕ
remove_spot spot = changed (λ component v. remove_cell component.optional (further spot.steps) component.ty v) spot

abbrev pub seen_at : Spot → Stored → ℕ × ℕ → Option ComponentDecl → Result (Ty × Value) ℕ
seen_at spot s place None = Err no_component
seen_at spot s place (Some component) = look_cell (further spot.steps) component.ty (value_in s place)

-- the node to which a spot leads, with its type, or the first code: that of finding the component, and that of finding the node within
abbrev pub seen : Purpose → Spot → Stored → Result (Ty × Value) ℕ
seen p spot s =
    resolved p s.library s.instances spot.class spot.instance spot.steps
    >>= λ place. seen_at spot s place (slice_get (declared_in s.library spot.class) place.1)

-- all steps are IDs
abbrev pub AreIds : List Step → Type 0
AreIds [] = Unit {0}
AreIds (step.Id id ∷ ss) = AreIds ss
AreIds (step.Key id bytes ∷ ss) = ⊥

-- two ways that part at IDs which differ
abbrev pub DoPart : List Step → List Step → Type 0
DoPart [] ts = ⊥
DoPart (step.Id a ∷ ss) [] = ⊥
DoPart (step.Key k key ∷ ss) [] = ⊥
DoPart (step.Id a ∷ ss) (step.Id b ∷ ts) = a ≡ b → DoPart ss ts
DoPart (step.Id a ∷ ss) (step.Key k key ∷ ts) = ⊥
DoPart (step.Key k key ∷ ss) (t ∷ ts) = ⊥

-- two spots at different instances, or whose ways part
abbrev pub AreBeside : Spot → Spot → Type 0
AreBeside a b = a.class ≡ b.class → a.instance ≡ b.instance → DoPart a.steps b.steps

-- a node is found, and it is the value of its type that these bytes are
abbrev pub Found : List ℕ → Result (Ty × Value) ℕ → Type 0
Found bytes found = (x : Ty × Value) × (found ≡ Ok x) × (full_in x.0 bytes ≡ Ok x.1)

-- what a call answers and what stands then: what is meant, or after the code of a refusal, and for want of memory, what stood before
abbrev pub Did : Result (Unit {0}) OpFault → Result Stored ℕ → Stored → Stored → Type 0
Did (Ok x) meant old new = meant ≡ Ok new
Did (Err fault) meant old new = Fails fault meant × (new ≡ old)

-- ---- marks
-- whether a scope has an instance; the empty one has all
abbrev pub is_in : List (ℕ × ℕ) → ℕ × ℕ → Bool
is_in [] pair = true
is_in (q ∷ qs) pair = list_any (same_instance pair) (q ∷ qs)

-- the places, from one on, of the instances that a scope has
abbrev pub places_in : List (ℕ × ℕ) → ℕ → List (ℕ × ℕ) → List ℕ
places_in scope i [] = []
places_in scope i (pair ∷ pairs) = if is_in scope pair then i ∷ places_in scope (i + 1) pairs else places_in scope (i + 1) pairs

abbrev pub marks_of : Option Tree → ℕ
marks_of None = 0
marks_of (Some t) = length t.held

-- a mark over a scope: the place of each of its instances, with the number of marks that stand there before it
abbrev pub mark_of : List (ℕ × ℕ) → Stored → List (ℕ × ℕ)
mark_of scope s = map (λ i. (i, marks_of (slice_get s.trees i))) (places_in scope 0 s.instances)

-- with one mark more; without the newest one, where one stands; and what it held at that
abbrev pub with_mark : Tree → Tree
with_mark t = record { now = t.now; held = t.held ++ t.now ∷ [] }

abbrev pub without_mark : Tree → Tree
without_mark t = record { now = t.now; held = take (length t.held - 1) t.held }

abbrev pub gone_back : Tree → Tree
gone_back t = record { now = slice_index_or t.held (length t.held - 1) t.now; held = take (length t.held - 1) t.held }

-- with the trees at the places of a mark changed
abbrev pub over_mark : (Tree → Tree) → List (ℕ × ℕ) → Stored → Stored
over_mark change mark s = record { library = s.library; instances = s.instances; trees = each_at change mark s.trees }

-- ---- copies
-- the number of marks that stood before the first of these marks that has a place
abbrev pub depth_of : List (ℕ × ℕ) → ℕ → Option ℕ
depth_of mark i = option_map (λ m. m.1) (find (λ m. m.0 == i) mark)

abbrev pub or_else : Option ℕ → Option ℕ → Option ℕ
or_else None other = other
or_else (Some d) other = Some d

abbrev pub depth_in : List (List (ℕ × ℕ)) → ℕ → Option ℕ
depth_in [] i = None
depth_in (mark ∷ marks) i = or_else (depth_of mark i) (depth_in marks i)

-- what a tree held at the mark that stands on so many others, and where none does, what it holds now
abbrev pub held_at : Option ℕ → Tree → Components
held_at None t = t.now
held_at (Some d) t = slice_index_or t.held d t.now

abbrev pub settled_tree : List (List (ℕ × ℕ)) → ℕ → Tree → Tree
settled_tree marks i t = record { now = held_at (depth_in marks i) t; held = [] }

-- each member of a list, with its place from one on
abbrev pub map_from : {A B : Type 0} → (ℕ → A → B) → ℕ → List A → List B
map_from f i [] = []
map_from f i (x ∷ xs) = f i x ∷ map_from f (i + 1) xs

-- without marks, and with what each instance of one of these marks held at it
abbrev pub settled : List (List (ℕ × ℕ)) → Stored → Stored
settled marks s = record { library = s.library; instances = s.instances; trees = map_from (settled_tree marks) 0 s.trees }
