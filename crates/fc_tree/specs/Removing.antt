-- What a DEL makes of the value of a component: RFC 5810, section 7.1; the codes and their order are this profile's own.
use Rattle.std.specs.Prelude.{ℕ, List, [], ◌∷◌, Option, Some, None, Result, Ok, Err}
use Rattle.std.specs.List.{remove}
use Rattle.fc_path.specs.declared.oper.Step.{Step}
use Rattle.fc_types.specs.declared.ty.Field.{Field}
use Rattle.fc_types.specs.declared.ty.Ty.{Ty}
use Rattle.fc_types.specs.declared.ty.Ty.TheOpen.{Ty-F}
use Rattle.fc_types.specs.declared.ty.Ty.TheViews.{out-Ty}
use Rattle.fc_value.specs.Nodes.{with_child}
use Rattle.fc_base.specs.Answers.{◌>>=◌}
use Rattle.fc_value.specs.Outcomes.{invalid_parameters}
use Rattle.fc_value.specs.declared.value.Value.{Value}
use Rattle.fc_value.specs.declared.value.Value.TheVariants as value
use Rattle.fc_tree.specs.Finding.{entries_of, invalid_path, not_found, part_at, place_in}

abbrev pub taken_layer : ℕ → Ty-F Ty Field → Value → Result Value ℕ
taken_layer i (Ty-F.Array entry limit keys) v = Ok (value.Table (remove (entries_of v) i))
taken_layer i _ v = Err invalid_parameters

-- an array without the entry at a place; nothing else can be taken out
unfoldable pub taken : ℕ → Ty → Value → Result Value ℕ
taken i ty v = taken_layer i (out-Ty ty) v

abbrev pub remove_part : (Ty → Value → Result Value ℕ) → ℕ → Ty → Value → Option (Ty × Value) → Result Value ℕ
remove_part more i ty v None = Err invalid_path
remove_part more i ty v (Some x) = more x.0 x.1 >>= λ w. Ok (with_child i w v)

abbrev pub remove_at : (Ty → Value → Result Value ℕ) → List Step → ℕ → Ty → Value → Result Value ℕ
remove_at more [] i ty v = taken i ty v
remove_at more (s ∷ ss) i ty v = remove_part more i ty v (part_at i ty v)

abbrev pub remove_at_place : (Ty → Value → Result Value ℕ) → List Step → Ty → Value → Option ℕ → Result Value ℕ
remove_at_place more ss ty v None = Err not_found
remove_at_place more ss ty v (Some i) = remove_at more ss i ty v

-- the value without the entry to which steps lead, or the first code
abbrev pub remove_in : List Step → Ty → Value → Result Value ℕ
remove_in [] ty v = Err invalid_parameters
remove_in (s ∷ ss) ty v = place_in ty v s >>= remove_at_place (remove_in ss) ss ty v
