-- The place to which a path leads: a step by an ID names the field or the entry itself, and a step by a key stands for the
-- subscript of the entry whose key has the value (RFC 5810, section 7.1, on paths and keys; RFC 5812, section 4.5.3).
use Rattle.std.specs.Prelude.{◌≡◌, ℕ, ◌<◌, ◌^◌, ◌==◌, Bool, true, false, not, ◌&&◌, List, [], ◌∷◌, bytes_eq, find, slice_get, option_map, Option, Some, None, Result, Ok, Err, if◌then◌else◌}
use Rattle.std.specs.List.{AllByRecursion, list_any}
use Rattle.fc_base.specs.Answers.{◌>>=◌}
use Rattle.fc_path.specs.declared.oper.Step.{Step}
use Rattle.fc_path.specs.declared.oper.Step.TheVariants as step
use Rattle.fc_tree.specs.Finding.{entries_of, invalid_path, not_found, or_code, part_at, place_in}
use Rattle.fc_types.specs.Types.{fields_of}
use Rattle.fc_types.specs.declared.ty.Field.{Field}
use Rattle.fc_types.specs.declared.ty.KeyDecl.{KeyDecl}
use Rattle.fc_types.specs.declared.ty.Ty.{Ty}
use Rattle.fc_types.specs.declared.ty.Ty.TheOpen.{Ty-F}
use Rattle.fc_types.specs.declared.ty.Ty.TheViews.{out-Ty}
use Rattle.fc_value.specs.Keys.{key_value}
use Rattle.fc_value.specs.Sparse.{part_of}
use Rattle.fc_value.specs.declared.value.Value.{Value}
use Rattle.fc_wire.specs.declared.ilvs.Ilv.{Ilv}
use Rattle.fc_cells.specs.Cells.{by_ids}

-- the ID or subscript that a step stands for, which leads to the part at a position
abbrev pub id_of : Step → ℕ → Value → Result ℕ ℕ
id_of (step.Id id) i v = Ok id
id_of (step.Key id bytes) i v = or_code invalid_path (option_map (λ e. e.0) (slice_get (entries_of v) i))

-- a last step by a subscript that no entry has yet
abbrev pub new_place : List Step → Step → Result (List ℕ) ℕ
new_place [] (step.Id id) = Ok (id ∷ [])
new_place [] (step.Key id bytes) = Err not_found
new_place (t ∷ ts) s = Err not_found

abbrev pub place_behind : (Ty → Value → Result (List ℕ) ℕ) → ℕ → Option (Ty × Value) → Result (List ℕ) ℕ
place_behind more id None = Err invalid_path
place_behind more id (Some x) = more x.0 x.1 >>= λ ids. Ok (id ∷ ids)

abbrev pub place_from : (Ty → Value → Result (List ℕ) ℕ) → List Step → Step → Ty → Value → Option ℕ → Result (List ℕ) ℕ
place_from more path s ty v None = new_place path s
place_from more path s ty v (Some i) = id_of s i v >>= λ id. place_behind more id (part_at i ty v)

-- the place to which a path leads, whose last entry may not be there yet, or the code of the first step that leads nowhere
abbrev pub place : List Step → Ty → Value → Result (List ℕ) ℕ
place [] ty v = Ok []
place (s ∷ path) ty v = place_in ty v s >>= place_from (place path) path s ty v

-- what is made by the path of IDs to a place, if there is a place
abbrev pub at_place : {X : Type 0} → (List Step → Result X ℕ) → Result (List ℕ) ℕ → Result X ℕ
at_place make found = found >>= λ ids. make (by_ids ids)

abbrev pub keys_layer : Ty-F Ty Field → List KeyDecl
keys_layer (Ty-F.Array entry limit keys) = keys
keys_layer _ = []

-- the keys of an array, and none of another type
abbrev pub keys_of : Ty → List KeyDecl
keys_of ty = keys_layer (out-Ty ty)

-- the key, if there is one, is made of other fields
abbrev pub is_made_without : Option KeyDecl → ℕ → Bool
is_made_without None id = true
is_made_without (Some key) id = not (list_any (λ field. field == id) key.fields)

-- a step by a key into an entry in which a place lies: the field in which the place lies is none of those of the key
abbrev pub spares : Ty → Step → List ℕ → Bool
spares ty (step.Id id) ids = true
spares ty (step.Key n bytes) [] = false
spares ty (step.Key n bytes) (id ∷ ids) = is_made_without (find (λ (key : KeyDecl). key.id == n) (keys_of ty)) id

abbrev pub some_part : (Ty → Bool) → Option Ty → Bool
some_part test None = false
some_part test (Some part) = test part

-- A path leaves the way to a place by a step to another part, and no key by which it goes on the way is made of a field in which the
-- place lies. Its own place is given beside it.
abbrev pub leaves : List ℕ → List Step → List ℕ → Ty → Bool
leaves [] path others ty = false
leaves (id ∷ ids) [] others ty = false
leaves (id ∷ ids) (s ∷ path) [] ty = false
leaves (id ∷ ids) (s ∷ path) (other ∷ others) ty = if id == other then spares ty s ids && some_part (leaves ids path others) (part_of ty id) else true

-- no entry of an array has the value that a key has in this one
abbrev pub IsFree : Ty → Value → Value → KeyDecl → Type 0
IsFree entry old array key =
    list_any (λ (e : ℕ × Value). bytes_eq (key_value (fields_of entry) key e.1) (key_value (fields_of entry) key old)) (entries_of array) ≡ false

-- one of the ILVs names the field or the entry
abbrev pub is_named : List Ilv → ℕ → Bool
is_named [] id = false
is_named (ilv ∷ ilvs) id = if ilv.ident == id then true else is_named ilvs id

-- an ID of 32 bits, as one that comes in a message
abbrev pub IsWord : Step → Type 0
IsWord (step.Id id) = id < 2 ^ 32
IsWord (step.Key n bytes) = Unit {0}

abbrev pub AreWords : List Step → Type 0
AreWords path = AllByRecursion IsWord path

-- the same of the identifiers of ILVs
abbrev pub HaveWords : List Ilv → Type 0
HaveWords ilvs = AllByRecursion (λ (ilv : Ilv). ilv.ident < 2 ^ 32) ilvs
