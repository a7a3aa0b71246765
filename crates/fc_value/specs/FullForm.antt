-- The full form of values, apart from how it is read (RFC 5810, section 7.1; RFC 5812, section 4.5; what stands in a TLV of its
-- own is this profile's own). The entries of an array may stand in any order, and padding is free.
use Rattle.std.specs.Prelude.{◌≡◌, ◌<◌, ◌≤◌, ℕ, ℤ, zero, suc, int_lt, Bool, true, false, IsUtf8, List, [], ◌∷◌, ◌++◌, length}
use Rattle.std.specs.List.{AllByRecursion}
use Rattle.fc_types.specs.Types.{field_ty, fields_of}
use Rattle.fc_types.specs.declared.ty.KeyDecl.{KeyDecl}
use Rattle.fc_types.specs.declared.ty.Field.{Field}
use Rattle.fc_types.specs.declared.ty.Ty.{Ty}
use Rattle.fc_types.specs.declared.ty.Ty.TheOpen.{Ty-F}
use Rattle.fc_types.specs.declared.ty.Ty.TheViews.{out-Ty}
use Rattle.fc_wire.specs.Bytes.{u32_bytes}
use Rattle.fc_wire.specs.Tlvs.{IsTlv}
use Rattle.fc_wire.specs.Types as types
use Rattle.fc_value.specs.Keys.{keys_differ}
use Rattle.fc_value.specs.Numbers.{is_width, number_of}
use Rattle.fc_value.specs.declared.value.Value.{Value}
use Rattle.fc_value.specs.declared.value.Value.TheVariants as value

-- which bytes are a value of a type
abbrev pub Forms : Type 1
Forms = Ty → Value → List ℕ → Type 0

-- 1 for true and 0 for false
abbrev pub IsBit : ℕ → Bool → Type 0
IsBit n true = n ≡ 1
IsBit n false = n ≡ 0

abbrev pub IsTruth : Value → List ℕ → Type 0
IsTruth v bytes = (n : ℕ) × (t : Bool) × (v ≡ value.Truth t) × (bytes ≡ n ∷ []) × IsBit n t

-- a number of the range
abbrev pub InRange : ℤ → ℤ → ℤ → Type 0
InRange min max z = (int_lt z min ≡ false) × (int_lt max z ≡ false)

-- a number in so many bytes, unsigned or in two's complement
abbrev pub IsNumber : ℕ → Bool → ℤ → ℤ → Value → List ℕ → Type 0
IsNumber width signed min max v bytes =
    (v ≡ value.Number (number_of signed bytes)) × (length bytes ≡ width) × (is_width width ≡ true) × InRange min max (number_of signed bytes)

abbrev pub IsText : ℕ → Value → List ℕ → Type 0
IsText limit v bytes = (v ≡ value.Text bytes) × IsUtf8 bytes × (length bytes ≤ limit)

abbrev pub IsOctets : ℕ → Value → List ℕ → Type 0
IsOctets limit v bytes = (v ≡ value.Raw bytes) × (length bytes ≤ limit)

abbrev pub IsFixed : ℕ → Value → List ℕ → Type 0
IsFixed n v bytes = (v ≡ value.Raw bytes) × (length bytes ≡ n)

-- one value of each field, one after the other
abbrev pub EachField : Forms → List Field → List Value → List ℕ → Type 0
EachField In [] [] bytes = bytes ≡ []
EachField In [] (v ∷ vs) bytes = ⊥
EachField In (f ∷ fs) [] bytes = ⊥
EachField In (f ∷ fs) (v ∷ vs) bytes =
    (front : List ℕ) × (back : List ℕ) × (bytes ≡ front ++ back) × In (field_ty f) v front × EachField In fs vs back

abbrev pub IsGroup : Forms → List Field → Value → List ℕ → Type 0
IsGroup In fields v bytes = (vs : List Value) × (v ≡ value.Group vs) × EachField In fields vs bytes

-- an entry: its subscript and its value
abbrev pub IsEntry : Forms → Ty → ℕ × Value → List ℕ → Type 0
IsEntry In entry e bytes = (rest : List ℕ) × (bytes ≡ u32_bytes e.0 ++ rest) × In entry e.1 rest

-- the entries, one after the other
abbrev pub EachEntry : Forms → Ty → List (ℕ × Value) → List ℕ → Type 0
EachEntry In entry [] bytes = bytes ≡ []
EachEntry In entry (e ∷ es) bytes =
    (front : List ℕ) × (back : List ℕ) × (bytes ≡ front ++ back) × IsEntry In entry e front × EachEntry In entry es back

-- each entry has a smaller subscript than those after it
abbrev pub AreRising : List (ℕ × Value) → Type 0
AreRising [] = Unit {0}
AreRising (e ∷ es) = AllByRecursion (λ (f : ℕ × Value). e.0 < f.0) es × AreRising es

-- es are the old entries with those of ps, each of which is put at some place among the ones before it
abbrev pub AreJoined : List (ℕ × Value) → List (ℕ × Value) → List (ℕ × Value) → Type 0
AreJoined old [] es = es ≡ old
AreJoined old (p ∷ ps) es =
    (front : List (ℕ × Value)) × (back : List (ℕ × Value)) × (old ≡ front ++ back) × AreJoined (front ++ p ∷ back) ps es

-- the entries of an array: they rise by subscript, are few enough, and no two have an equal key
pub record AreEntries (fields : List Field) (limit : ℕ) (keys : List KeyDecl) (es : List (ℕ × Value)) : Type 0 where
  pub rising : AreRising es
  pub few : length es ≤ limit
  pub keyed : keys_differ fields keys es ≡ true

-- an array, whose entries may stand in any order
abbrev pub IsTable : Forms → Ty → ℕ → List KeyDecl → Value → List ℕ → Type 0
IsTable In entry limit keys v bytes =
    (es : List (ℕ × Value)) × (ps : List (ℕ × Value)) × (v ≡ value.Table es) × AreEntries (fields_of entry) limit keys es
    × AreJoined [] ps es × EachEntry In entry ps bytes

-- a FULLDATA that holds the value
abbrev pub InFullData : (Value → List ℕ → Type 0) → Value → List ℕ → Type 0
InFullData Is v bytes = (body : List ℕ) × (padded : List ℕ) × IsTlv types.full_data body padded bytes × Is v body

-- a value that stands in a struct or an entry
abbrev pub InsideLayer : Forms → Ty-F Ty Field → Value → List ℕ → Type 0
InsideLayer In Ty-F.Bool v bytes = IsTruth v bytes
InsideLayer In (Ty-F.Number width signed min max) v bytes = IsNumber width signed min max v bytes
InsideLayer In (Ty-F.String limit) v bytes = InFullData (IsText limit) v bytes
InsideLayer In (Ty-F.Octets limit) v bytes = InFullData (IsOctets limit) v bytes
InsideLayer In (Ty-F.Bytes n) v bytes = IsFixed n v bytes
InsideLayer In (Ty-F.Struct fields) v bytes = IsGroup In fields v bytes
InsideLayer In (Ty-F.Array entry limit keys) v bytes = InFullData (IsTable In entry limit keys) v bytes

-- the same, of a type that nests at most so deep
abbrev pub IsInside : ℕ → Forms
IsInside zero ty v bytes = ⊥
IsInside (suc depth) ty v bytes = InsideLayer (IsInside depth) (out-Ty ty) v bytes

abbrev pub FullLayer : Forms → Ty-F Ty Field → Value → List ℕ → Type 0
FullLayer In (Ty-F.String limit) v bytes = IsText limit v bytes
FullLayer In (Ty-F.Octets limit) v bytes = IsOctets limit v bytes
FullLayer In (Ty-F.Array entry limit keys) v bytes = IsTable In entry limit keys v bytes
FullLayer In layer v bytes = InsideLayer In layer v bytes

-- the bytes are the full form of a value that stands by itself; declared types nest at most eight deep
abbrev pub IsFull : Forms
IsFull ty v bytes = FullLayer (IsInside 7) (out-Ty ty) v bytes
