-- The indexes of the entries of an array, one for each of its keys. This profile's own.
use Rattle.std.specs.Prelude.{◌≡◌, ◌≤◌, ◌+◌, ◌-◌, ◌==◌, ◌&&◌, nat_lt, not, ℕ, zero, suc, Bool, true, List, [], ◌∷◌, Option, Some, None, if◌then◌else◌}
use Rattle.std.specs.FinMap.{contains_key, empty, get, insert, len, remove}
use Rattle.fc_keys.specs.Keys.{KeyMap}
use Rattle.fc_types.specs.declared.ty.Field.{Field}
use Rattle.fc_types.specs.declared.ty.KeyDecl.{KeyDecl}
use Rattle.fc_value.specs.Keys.{key_value}
use Rattle.fc_value.specs.declared.value.Value.{Value}
use Rattle.fc_keys.specs.Indexing.{Indexes}
use Rattle.fc_rows.specs.Rowed.{RowMap, Shape}

-- an index: its pairs, and for how many more there is room
abbrev pub Column : Type 0
Column = KeyMap × ℕ

-- there is an index for each key, it is that of the entries, and it has room for so many entries in all
abbrev pub AreIndexes : List Field → List KeyDecl → RowMap → ℕ → List Column → Type 0
AreIndexes fields [] m room [] = Unit {0}
AreIndexes fields [] m room (x ∷ xs) = ⊥
AreIndexes fields (k ∷ ks) m room [] = ⊥
AreIndexes fields (k ∷ ks) m room (x ∷ xs) = Indexes (key_value fields k) m x.0 × (room ≤ len m + x.1) × AreIndexes fields ks m room xs

-- an index without a key
abbrev pub less_key : List ℕ → Column → Column
less_key q x = (remove x.0 q, if contains_key x.0 q then x.1 + 1 else x.1)

-- an index with a key more, where there is room and the key is not there
abbrev pub more_key : ℕ → List ℕ → Column → Column
more_key s q x = if nat_lt 0 x.1 && not (contains_key x.0 q) then (insert x.0 q s, x.1 - 1) else x

abbrev pub at_column : (Column → Column) → ℕ → List Column → List Column
at_column change i [] = []
at_column change zero (x ∷ xs) = change x ∷ xs
at_column change (suc i) (x ∷ xs) = x ∷ at_column change i xs

-- each index changed by the key at its place; those without one stay
abbrev pub each_column : (List ℕ → Column → Column) → List (List ℕ) → List Column → List Column
each_column change [] xs = xs
each_column change (q ∷ qs) [] = []
each_column change (q ∷ qs) (x ∷ xs) = change q x ∷ each_column change qs xs

-- a key leads nowhere else
abbrev pub leads_here : ℕ → Option ℕ → Bool
leads_here s None = true
leads_here s (Some t) = t == s

-- no key leads to another entry
abbrev pub are_free : ℕ → List Column → List (List ℕ) → Bool
are_free s [] qs = true
are_free s (x ∷ xs) [] = true
are_free s (x ∷ xs) (q ∷ qs) = leads_here s (get x.0 q) && are_free s xs qs

-- the same pairs, with at least as much room
abbrev pub AreWider : List Column → List Column → Type 0
AreWider [] [] = Unit {0}
AreWider [] (y ∷ ys) = ⊥
AreWider (x ∷ xs) [] = ⊥
AreWider (x ∷ xs) (y ∷ ys) = (y.0 ≡ x.0) × (x.1 ≤ y.1) × AreWider xs ys

-- the first of them have room for so many pairs more
abbrev pub HaveRoom : ℕ → ℕ → List Column → Type 0
HaveRoom n zero xs = Unit {0}
HaveRoom n (suc i) [] = Unit {0}
HaveRoom n (suc i) (x ∷ xs) = (n ≤ x.1) × HaveRoom n i xs

-- the entry to which a key leads
pub record Leads (key : Value → List ℕ) (m : RowMap) (q : List ℕ) (o : Option ℕ) : Type 0 where
  pub found : (s : ℕ) → o ≡ Some s → (v : Value) × (get m s ≡ Some v) × (key v ≡ q)
  pub all : (s : ℕ) (v : Value) → get m s ≡ Some v → key v ≡ q → o ≡ Some s

abbrev pub LeadsBy : List Field → Option KeyDecl → RowMap → List ℕ → Option ℕ → Type 0
LeadsBy fields None m q o = o ≡ None
LeadsBy fields (Some key) m q o = Leads (key_value fields key) m q o

-- what is kept of the entries, the room and the indexes
pub record KeptRows (rows : RowMap × ℕ) (room : ℕ) (shape : Shape) (xs : List Column) : Type 0 where
  pub filled : len rows.0 ≤ room
  pub within : room ≤ rows.1
  pub each : AreIndexes shape.0 shape.1 rows.0 room xs

abbrev pub HasRoomAt : ℕ → Option Column → Type 0
HasRoomAt n None = Unit {0}
HasRoomAt n (Some x) = n ≤ x.1

-- so many indexes without a pair
abbrev pub AreEmpty : ℕ → List Column → Type 0
AreEmpty zero [] = Unit {0}
AreEmpty zero (x ∷ xs) = ⊥
AreEmpty (suc n) [] = ⊥
AreEmpty (suc n) (x ∷ xs) = (x.0 ≡ empty) × AreEmpty n xs
