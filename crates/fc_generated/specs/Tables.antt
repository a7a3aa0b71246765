-- What each element of a large run has beside its own classes: one table of rates, whose rows are found by name too. This profile's own.
use Rattle.std.specs.Prelude.{ℕ, pos, false, List, [], ◌∷◌, codes}
use Rattle.fc_types.specs.Components.{ComponentDecl}
use Rattle.fc_types.specs.declared.class.Class.{Class}
use Rattle.fc_types.specs.declared.ty.Field.{Field, roll-Field}
use Rattle.fc_types.specs.declared.ty.KeyDecl.{KeyDecl}
use Rattle.fc_types.specs.declared.ty.Ty.{Ty}
use Rattle.fc_types.specs.declared.ty.Ty as type

abbrev pub word : Ty
word = type.Number 4 false (pos 0) (pos 4294967295)

abbrev pub field : ℕ → List ℕ → Field
field id name = roll-Field (record { id = id; name = name; ty = word })

-- a row: a name and a rate
abbrev pub row : Ty
row = type.Struct (field 1 (codes "name") ∷ field 2 (codes "rate") ∷ [])

abbrev pub by_name : KeyDecl
by_name = record { id = 1; fields = 1 ∷ [] }

abbrev pub rows : Ty
rows = type.Array row 65536 (by_name ∷ [])

abbrev pub rates : ComponentDecl
rates = record { id = 1; name = codes "rates"; ty = rows; access = 3; optional = false }

-- the class of the table, of which there is one instance
abbrev pub class : ℕ
class = 8193

abbrev pub table : Class
table = record { id = class; name = codes "Rates"; components = rates ∷ []; event_base = 0; events = [] }

abbrev pub instance : ℕ × ℕ
instance = (class, 1)
