-- The value that a component of a type begins with (this profile's own).
use Rattle.std.specs.Prelude.{ℤ, pos, int_lt, false, [], replicate, if◌then◌else◌}
use Rattle.fc_types.specs.declared.ty.Field.{Field}
use Rattle.fc_types.specs.declared.ty.Ty.{Ty}
use Rattle.fc_types.specs.declared.ty.Ty.TheOpen.{Ty-F, Field-F}
use Rattle.fc_types.specs.declared.ty.Ty.TheFolds.{fold-Ty, fold-Field}
use Rattle.fc_value.specs.declared.value.Value.{Value}
use Rattle.fc_value.specs.declared.value.Value.TheVariants as value

-- the number of a range that is nearest to 0
abbrev pub nearest : ℤ → ℤ → ℤ
nearest min max = if int_lt (pos 0) min then min else (if int_lt max (pos 0) then max else pos 0)

abbrev pub opening_step : Ty-F Value Value → Value
opening_step Ty-F.Bool = value.Truth false
opening_step (Ty-F.Number bytes signed min max) = value.Number (nearest min max)
opening_step (Ty-F.String length) = value.Text []
opening_step (Ty-F.Octets length) = value.Raw []
opening_step (Ty-F.Bytes length) = value.Raw (replicate length 0)
opening_step (Ty-F.Struct fields) = value.Group fields
opening_step (Ty-F.Array entry entries keys) = value.Table []

abbrev pub opening_field : Field-F Value Value → Value
opening_field f = f.ty

-- false, the number nearest to 0, no text or octets, zero bytes, a struct of opening values, and no entries
unfoldable pub opening : Ty → Value
opening = fold-Ty Value Value opening_step opening_field

unfoldable pub opening_at : Field → Value
opening_at = fold-Field Value Value opening_step opening_field
