-- Which values of a component are kept as entries: arrays whose subscripts rise and whose keys differ. This profile's own.
use Rattle.std.specs.Prelude.{ℕ, nat_lt, ◌&&◌, Bool, true, List, [], ◌∷◌, Option, Some, None, if◌then◌else◌}
use Rattle.fc_rows.specs.Rowed.{Shape}
use Rattle.fc_types.specs.Types.{fields_of}
use Rattle.fc_types.specs.declared.ty.Field.{Field}
use Rattle.fc_types.specs.declared.ty.KeyDecl.{KeyDecl}
use Rattle.fc_types.specs.declared.ty.Ty.{Ty}
use Rattle.fc_value.specs.Keys.{keys_differ}
use Rattle.fc_value.specs.declared.value.Value.{Value, out-Value}
use Rattle.fc_value.specs.declared.value.Value.TheOpen.{Value-F}
use Rattle.fc_instance.specs.Histories.{Cell}
use Rattle.fc_instance.specs.Leading.{array_of}

-- a subscript is below that of the first entry, if any
abbrev pub is_below : ℕ → List (ℕ × Value) → Bool
is_below s [] = true
is_below s (e ∷ es) = nat_lt s e.0

-- each subscript is below the next one
abbrev pub is_rising : List (ℕ × Value) → Bool
is_rising [] = true
is_rising (e ∷ es) = is_below e.0 es && is_rising es

-- what tells entries apart, where their subscripts rise and their keys differ
abbrev pub kept_entries : List Field → List KeyDecl → List (ℕ × Value) → Option Shape
kept_entries fields keys es = if is_rising es && keys_differ fields keys es then Some (fields, keys) else None

abbrev pub kept_layer : List Field → List KeyDecl → Value-F Value → Option Shape
kept_layer fields keys (Value-F.Table es) = kept_entries fields keys es
kept_layer fields keys _ = None

abbrev pub kept_in : Option (Ty × ℕ × List KeyDecl) → Value → Option Shape
kept_in None v = None
kept_in (Some x) v = kept_layer (fields_of x.0) x.2 (out-Value v)

-- what is seen of a component of a type that has a value
abbrev pub kept_by : Ty → Value → Cell
kept_by ty v = (v, kept_in (array_of ty) v)
