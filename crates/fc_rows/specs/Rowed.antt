-- The entries of an array as a finite map from subscripts to values. This profile's own.
use Rattle.std.specs.Prelude.{◌≡◌, ◌≤◌, ℕ, true, false, List, [], map, Option, Some, None, Result}
use Rattle.std.specs.Coded.{Coded, coded×, coded_ℕ, coded_list}
use Rattle.std.specs.Ordering.{nat_cmp}
use Rattle.std.specs.FinMap.{FinMap, code, entries, get, len}
pub use Rattle.fc_keys.specs.Indexing.{updated}
use Rattle.fc_tree.specs.Places as places
use Rattle.fc_value.specs.declared.value.Value.{Value}
use Rattle.fc_value.specs.contracts.value.Value as contracts
use Rattle.fc_value.specs.Keys.{key_value, keys_differ}
use Rattle.fc_types.specs.declared.ty.Field.{Field}
use Rattle.fc_types.specs.declared.ty.KeyDecl.{KeyDecl}
use Rattle.fc_types.specs.contracts.ty.Field as field_contracts
use Rattle.fc_types.specs.contracts.ty.KeyDecl as key_contracts

abbrev pub RowMap : Type 0
RowMap = FinMap nat_cmp Value

abbrev pub row_map_code : Coded RowMap
row_map_code = code coded_ℕ contracts.the_row.coded

abbrev pub IsPlace : List (ℕ × Value) → ℕ → Result ℕ ℕ → Type 0
IsPlace = places.IsPlace nat_cmp

-- what tells the entries of an array apart: the fields of an entry, and the keys
abbrev pub Shape : Type 0
Shape = List Field × List KeyDecl

abbrev pub shape_code : Coded Shape
shape_code = coded× (coded_list field_contracts.the_row.coded) (coded_list key_contracts.the_row.coded)

-- what is seen of the entries of an array: their map, for how many there is memory in all, and what tells them apart
abbrev pub Seen : Type 0
Seen = RowMap × (ℕ × Shape)

abbrev pub seen_code : Coded Seen
seen_code = coded× row_map_code (coded× coded_ℕ shape_code)

abbrev pub values_of_keys : List Field → List KeyDecl → Option Value → List (List ℕ)
values_of_keys fields keys None = []
values_of_keys fields keys (Some v) = map (λ (key : KeyDecl). key_value fields key v) keys

-- the values that the keys have in an entry, and none where there is no entry
abbrev pub keys_at : Shape → Option Value → List (List ℕ)
keys_at shape o = values_of_keys shape.0 shape.1 o

-- a value, or none, may give way to another at a subscript: these are the keys of the new one and of the old one, and afterwards no
-- two entries have an equal key
pub record KeysFit (shape : Shape) (m : RowMap) (s : ℕ) (v : Option Value) (entering leaving : List (List ℕ)) : Type 0 where
  pub enters : entering ≡ keys_at shape v
  pub leaves : leaving ≡ keys_at shape (get m s)
  pub apart : keys_differ shape.0 shape.1 (entries (updated m s v)) ≡ true

-- and there is memory for it
abbrev pub CanSwap : Seen → ℕ → Option Value → List (List ℕ) → List (List ℕ) → Type 0
CanSwap rows s v entering leaving = (len (updated rows.0 s v) ≤ rows.1.0) × KeysFit rows.1.1 rows.0 s v entering leaving

-- the keys that enter and those that leave, and none where another entry has a key of the new one
abbrev pub Prepared : Shape → RowMap → ℕ → Option Value → Option (List (List ℕ) × List (List ℕ)) → Type 0
Prepared shape m s v None = keys_differ shape.0 shape.1 (entries (updated m s v)) ≡ false
Prepared shape m s v (Some x) = KeysFit shape m s v x.0 x.1
