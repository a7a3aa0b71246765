-- What a SET of FULLDATA makes of the value of a component: RFC 5810, section 7.1; the codes and their order are this profile's
-- own.
use Rattle.std.specs.Prelude.{ℕ, nat_le, List, [], ◌∷◌, length, Option, Some, None, Result, Ok, Err, if◌then◌else◌}
use Rattle.std.specs.Ordering.{nat_cmp}
use Rattle.std.specs.FinMap.Entries.{put}
use Rattle.fc_path.specs.declared.oper.Step.{Step}
use Rattle.fc_path.specs.declared.oper.Step.TheVariants as step
use Rattle.fc_types.specs.Types.{fields_of}
use Rattle.fc_types.specs.declared.ty.Field.{Field}
use Rattle.fc_types.specs.declared.ty.KeyDecl.{KeyDecl}
use Rattle.fc_types.specs.declared.ty.Ty.{Ty}
use Rattle.fc_types.specs.declared.ty.Ty.TheOpen.{Ty-F}
use Rattle.fc_types.specs.declared.ty.Ty.TheViews.{out-Ty}
use Rattle.fc_value.specs.Keys.{keys_differ}
use Rattle.fc_value.specs.Nodes.{with_child}
use Rattle.fc_base.specs.Answers.{◌>>=◌}
use Rattle.fc_value.specs.Reading.{full_in}
use Rattle.fc_value.specs.declared.value.Value.{Value}
use Rattle.fc_value.specs.declared.value.Value.TheVariants as value
use Rattle.fc_tree.specs.Finding.{entries_of, invalid_path, not_found, part_at, place_in}

-- there is one already
abbrev pub already_there : ℕ
already_there = 10

-- the array has as many entries as it may have
abbrev pub no_room : ℕ
no_room = 13

-- an array with these entries, no two of which may have an equal key
abbrev pub keyed : List Field → List KeyDecl → List (ℕ × Value) → Result Value ℕ
keyed fields keys es = if keys_differ fields keys es then Ok (value.Table es) else Err already_there

abbrev pub checked_layer : Ty-F Ty Field → Value → Result Value ℕ
checked_layer (Ty-F.Array entry limit keys) v = keyed (fields_of entry) keys (entries_of v)
checked_layer _ v = Ok v

-- a value in which a part is new: an array may have no two entries with an equal key
unfoldable pub checked : Ty → Value → Result Value ℕ
checked ty v = checked_layer (out-Ty ty) v

-- the entries with a new one, where there is room for it
abbrev pub entered : ℕ → ℕ → List (ℕ × Value) → Value → Result (List (ℕ × Value)) ℕ
entered s limit es w = if nat_le limit (length es) then Err no_room else Ok (put nat_cmp s w es)

abbrev pub created_layer : ℕ → List ℕ → Ty-F Ty Field → Value → Result Value ℕ
created_layer s bytes (Ty-F.Array entry limit keys) v =
    full_in entry bytes >>= (λ w. entered s limit (entries_of v) w) >>= keyed (fields_of entry) keys
created_layer s bytes _ v = Err invalid_path

-- an array with a new entry at a subscript
unfoldable pub created : ℕ → List ℕ → Ty → Value → Result Value ℕ
created s bytes ty v = created_layer s bytes (out-Ty ty) v

-- what becomes of a value one of whose parts is put
abbrev pub put_part : (Ty → Value → Result Value ℕ) → ℕ → Ty → Value → Option (Ty × Value) → Result Value ℕ
put_part more i ty v None = Err invalid_path
put_part more i ty v (Some x) = more x.0 x.1 >>= λ w. checked ty (with_child i w v)

-- a step that leads to no entry yet: the last step of all makes one
abbrev pub put_new : List Step → Step → List ℕ → Ty → Value → Result Value ℕ
put_new [] (step.Id s) bytes ty v = created s bytes ty v
put_new [] (step.Key id key) bytes ty v = Err not_found
put_new (t ∷ ts) s bytes ty v = Err not_found

abbrev pub put_at_place : (Ty → Value → Result Value ℕ) → List Step → Step → List ℕ → Ty → Value → Option ℕ → Result Value ℕ
put_at_place more ss s bytes ty v None = put_new ss s bytes ty v
put_at_place more ss s bytes ty v (Some i) = put_part more i ty v (part_at i ty v)

-- the value with the one that the bytes are put where steps lead, or the first code: that of the step that leads nowhere, that of
-- reading, that there is no room, and that a key is there
abbrev pub put_in : List Step → List ℕ → Ty → Value → Result Value ℕ
put_in [] bytes ty v = full_in ty bytes
put_in (s ∷ ss) bytes ty v = place_in ty v s >>= put_at_place (put_in ss bytes) ss s bytes ty v
