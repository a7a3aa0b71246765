-- The full form that is written: entries by rising subscript, and zeros as padding (RFC 5810, section 7.1; RFC 5812, section 4.5;
-- what stands in a TLV of its own is this profile's own).
use Rattle.std.specs.Prelude.{ℕ, ◌+◌, ◌/◌, ◌%◌, true, false, List, [], ◌∷◌, ◌++◌, length}
use Rattle.std.specs.List.{flat_map}
use Rattle.fc_types.specs.declared.ty.Field.{Field}
use Rattle.fc_types.specs.declared.ty.Ty.{Ty}
use Rattle.fc_types.specs.declared.ty.Ty.TheOpen.{Ty-F, Field-F}
use Rattle.fc_types.specs.declared.ty.Ty.TheViews.{out-Ty}
use Rattle.fc_types.specs.declared.ty.Ty.TheFolds.{fold-Ty, fold-Field}
use Rattle.fc_wire.specs.Bytes.{u32_bytes}
use Rattle.fc_wire.specs.Writing.{padding}
use Rattle.fc_value.specs.Numbers.{number_bytes}
use Rattle.fc_value.specs.declared.value.Value.{Value, out-Value}
use Rattle.fc_value.specs.declared.value.Value.TheOpen.{Value-F}

-- what is written of a value
abbrev pub Writer : Type 0
Writer = Value → List ℕ

abbrev pub truth_layer : Value-F Value → List ℕ
truth_layer (Value-F.Truth true) = 1 ∷ []
truth_layer (Value-F.Truth false) = 0 ∷ []
truth_layer _ = []

abbrev pub number_layer : ℕ → Value-F Value → List ℕ
number_layer width (Value-F.Number z) = number_bytes width z
number_layer width _ = []

abbrev pub bare_layer : Value-F Value → List ℕ
bare_layer (Value-F.Text text) = text
bare_layer (Value-F.Raw bytes) = bytes
bare_layer _ = []

-- the bytes of a text or of octets
abbrev pub bare_bytes : Writer
bare_bytes v = bare_layer (out-Value v)

-- each value by its field's writer
abbrev pub each_bytes : List Writer → List Value → List ℕ
each_bytes [] vs = []
each_bytes (w ∷ ws) [] = []
each_bytes (w ∷ ws) (v ∷ vs) = w v ++ each_bytes ws vs

abbrev pub group_layer : List Writer → Value-F Value → List ℕ
group_layer ws (Value-F.Group vs) = each_bytes ws vs
group_layer ws _ = []

-- an entry: its subscript and its value
abbrev pub entry_bytes : Writer → ℕ × Value → List ℕ
entry_bytes w e = u32_bytes e.0 ++ w e.1

abbrev pub table_layer : Writer → Value-F Value → List ℕ
table_layer w (Value-F.Table es) = flat_map (entry_bytes w) es
table_layer w _ = []

-- a FULLDATA with its padding, whose value is at most 65,531 bytes long
unfoldable pub full_data_tlv : List ℕ → List ℕ
full_data_tlv bytes = 1 ∷ 18 ∷ (length bytes + 4) / 256 % 256 ∷ (length bytes + 4) % 256 ∷ bytes ++ padding (length bytes)

abbrev pub inside_step : Ty-F Writer Writer → Writer
inside_step Ty-F.Bool = λ v. truth_layer (out-Value v)
inside_step (Ty-F.Number width signed min max) = λ v. number_layer width (out-Value v)
inside_step (Ty-F.String length) = λ v. full_data_tlv (bare_bytes v)
inside_step (Ty-F.Octets length) = λ v. full_data_tlv (bare_bytes v)
inside_step (Ty-F.Bytes length) = bare_bytes
inside_step (Ty-F.Struct ws) = λ v. group_layer ws (out-Value v)
inside_step (Ty-F.Array w entries keys) = λ v. full_data_tlv (table_layer w (out-Value v))

abbrev pub field_step : Field-F Writer Writer → Writer
field_step f = f.ty

-- the full form of a value that stands in a struct or an entry: a text, octets or an array in a FULLDATA of its own
unfoldable pub inside_bytes : Ty → Writer
inside_bytes = fold-Ty Writer Writer inside_step field_step

unfoldable pub inside_bytes_at : Field → Writer
inside_bytes_at = fold-Field Writer Writer inside_step field_step

abbrev pub full_layer : Ty-F Ty Field → Ty → Writer
full_layer (Ty-F.String length) ty = bare_bytes
full_layer (Ty-F.Octets length) ty = bare_bytes
full_layer (Ty-F.Array entry entries keys) ty = λ v. table_layer (inside_bytes entry) (out-Value v)
full_layer _ ty = inside_bytes ty

-- the full form of a value that stands by itself
abbrev pub full_bytes : Ty → Writer
full_bytes ty = full_layer (out-Ty ty) ty
