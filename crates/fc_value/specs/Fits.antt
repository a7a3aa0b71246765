-- Which values a type has (RFC 5812, section 4.5; the limits are this profile's own).
use Rattle.std.specs.Prelude.{◌≡◌, ◌<◌, ◌≤◌, ◌^◌, ℕ, ℤ, zero, suc, Bool, IsUtf8, List, [], ◌∷◌, length}
use Rattle.std.specs.List.{AllByRecursion}
use Rattle.fc_types.specs.Types.{field_ty, fields_of}
use Rattle.fc_types.specs.declared.ty.Field.{Field}
use Rattle.fc_types.specs.declared.ty.Ty.{Ty}
use Rattle.fc_types.specs.declared.ty.Ty.TheOpen.{Ty-F}
use Rattle.fc_types.specs.declared.ty.Ty.TheViews.{out-Ty}
use Rattle.fc_wire.specs.Bytes.{AreBytes}
use Rattle.fc_value.specs.FullForm.{InRange, AreEntries}
use Rattle.fc_value.specs.declared.value.Value.{Value}
use Rattle.fc_value.specs.declared.value.Value.TheVariants as value

-- which values a type has
abbrev pub Holding : Type 1
Holding = Ty → Value → Type 0

-- one fitting value for each field
abbrev pub EachFits : Holding → List Field → List Value → Type 0
EachFits Holds [] [] = Unit {0}
EachFits Holds [] (v ∷ vs) = ⊥
EachFits Holds (f ∷ fs) [] = ⊥
EachFits Holds (f ∷ fs) (v ∷ vs) = Holds (field_ty f) v × EachFits Holds fs vs

-- an entry: a subscript of 32 bits, and a fitting value
abbrev pub EntryFits : Holding → Ty → ℕ × Value → Type 0
EntryFits Holds entry e = (e.0 < 2 ^ 32) × Holds entry e.1

abbrev pub FitsLayer : Holding → Ty-F Ty Field → Value → Type 0
FitsLayer Holds Ty-F.Bool v = (t : Bool) × (v ≡ value.Truth t)
FitsLayer Holds (Ty-F.Number width signed min max) v = (z : ℤ) × (v ≡ value.Number z) × InRange min max z
FitsLayer Holds (Ty-F.String limit) v = (text : List ℕ) × (v ≡ value.Text text) × IsUtf8 text × (length text ≤ limit)
FitsLayer Holds (Ty-F.Octets limit) v = (bytes : List ℕ) × (v ≡ value.Raw bytes) × AreBytes bytes × (length bytes ≤ limit)
FitsLayer Holds (Ty-F.Bytes n) v = (bytes : List ℕ) × (v ≡ value.Raw bytes) × AreBytes bytes × (length bytes ≡ n)
FitsLayer Holds (Ty-F.Struct fields) v = (vs : List Value) × (v ≡ value.Group vs) × EachFits Holds fields vs
FitsLayer Holds (Ty-F.Array entry limit keys) v =
    (es : List (ℕ × Value)) × (v ≡ value.Table es) × AreEntries (fields_of entry) limit keys es × AllByRecursion (EntryFits Holds entry) es

-- a value of a type that nests at most so deep
abbrev pub FitsIn : ℕ → Holding
FitsIn zero ty v = ⊥
FitsIn (suc depth) ty v = FitsLayer (FitsIn depth) (out-Ty ty) v

-- a value of a declared type, which nests at most eight deep
abbrev pub Fits : Holding
Fits ty v = FitsIn 8 ty v
