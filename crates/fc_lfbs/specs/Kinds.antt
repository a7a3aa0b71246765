-- The types of the components of the classes that each element has of itself: FE Object and FE Protocol by RFC 5812, section 5, and
-- RFC 5810, appendix B, in the part and with the numbers of this profile; Mastership is this profile's own.
use Rattle.std.specs.Prelude.{ℕ, pos, false, List, [], ◌∷◌, codes}
use Rattle.fc_types.specs.declared.ty.Field.{Field, roll-Field}
use Rattle.fc_types.specs.declared.ty.KeyDecl.{KeyDecl}
use Rattle.fc_types.specs.declared.ty.Ty.{Ty}
use Rattle.fc_types.specs.declared.ty.Ty as type
use Rattle.fc_lfbs.specs.declared.kinds.Kind.{Kind}
use Rattle.fc_lfbs.specs.declared.kinds.Kind.TheVariants as kind

abbrev pub byte_upto : ℕ → Ty
byte_upto max = type.Number 1 false (pos 0) (pos max)

abbrev pub word : Ty
word = type.Number 4 false (pos 0) (pos 4294967295)

abbrev pub array_of : Ty → ℕ → Ty
array_of entry limit = type.Array entry limit []

abbrev pub words : ℕ → Ty
words limit = array_of word limit

abbrev pub field : ℕ → List ℕ → Ty → Field
field id name ty = roll-Field (record { id = id; name = name; ty = ty })

abbrev pub instance_type : Ty
instance_type = type.Struct (field 1 (codes "class") word ∷ field 2 (codes "instance") word ∷ [])

abbrev pub subject_type : Ty
subject_type = type.Struct (field 1 (codes "epoch") word ∷ field 2 (codes "number") word ∷ [])

abbrev pub transaction_type : Ty
transaction_type =
    type.Struct (field 1 (codes "epoch") word ∷ field 2 (codes "number") word ∷ field 3 (codes "state") word ∷ field 4 (codes "participants") (words 64) ∷ [])

abbrev pub opening_type : Ty
opening_type =
    type.Struct (field 1 (codes "epoch") word ∷ field 2 (codes "number") word ∷ field 3 (codes "participants") (words 64)
    ∷ field 4 (codes "instances") (array_of instance_type 4096) ∷ [])

-- records differ in epoch and number
abbrev pub transaction_key : KeyDecl
transaction_key = record { id = 1; fields = 1 ∷ 2 ∷ [] }

abbrev pub transactions_type : Ty
transactions_type = type.Array transaction_type 4096 (transaction_key ∷ [])

abbrev pub kind_type : Kind → Ty
kind_type kind.Byte = byte_upto 255
kind_type kind.Policy = byte_upto 1
kind_type kind.Word = word
kind_type kind.Name = type.String 40
kind_type (kind.Words limit) = words limit
kind_type kind.Selectors = array_of instance_type 65536
kind_type kind.Transactions = transactions_type
kind_type kind.Opening = opening_type
kind_type kind.Subject = subject_type
