-- The sparse form of changes, apart from how it is read (RFC 5810, section 7.1, on SPARSEDATA; that no identifier stands twice is
-- this profile's own).
use Rattle.std.specs.Prelude.{◌≡◌, ℕ, false, List, [], ◌∷◌, ◌++◌, Some}
use Rattle.std.specs.List.{AllByRecursion}
use Rattle.fc_types.specs.Types.{is_atom}
use Rattle.fc_types.specs.declared.ty.Ty.{Ty}
use Rattle.fc_wire.specs.Bytes.{AreBytes}
use Rattle.fc_wire.specs.declared.ilvs.Ilv.{Ilv}
use Rattle.fc_value.specs.FullForm.{IsFull}
use Rattle.fc_value.specs.Sparse.{part_of, is_named}
use Rattle.fc_value.specs.declared.value.Value.{Value}

-- the value of each ILV is bytes
abbrev pub HoldBytes : List Ilv → Type 0
HoldBytes = AllByRecursion (λ (ilv : Ilv). AreBytes ilv.value)

-- the ILV tells this change, and none before it has its identifier
abbrev pub IsChange : Ty → List (ℕ × Value) → Ilv → ℕ × Value → Type 0
IsChange ty before ilv c =
    (part : Ty) × (part_of ty ilv.ident ≡ Some part) × (c.0 ≡ ilv.ident) × (is_named before ilv.ident ≡ false) × IsFull part c.1 ilv.value

-- each ILV tells a change, in their order
abbrev pub AreChanges : Ty → List (ℕ × Value) → List Ilv → List (ℕ × Value) → Type 0
AreChanges ty before [] [] = Unit {0}
AreChanges ty before [] (c ∷ cs) = ⊥
AreChanges ty before (ilv ∷ ilvs) [] = ⊥
AreChanges ty before (ilv ∷ ilvs) (c ∷ cs) = IsChange ty before ilv c × AreChanges ty (before ++ c ∷ []) ilvs cs

-- the ILVs are the sparse form of changes of a struct or an array
abbrev pub IsSparse : Ty → List Ilv → List (ℕ × Value) → Type 0
IsSparse ty ilvs cs = (is_atom ty ≡ false) × AreChanges ty [] ilvs cs
