-- The value of a component as a flat map: at each place, which is the list of the IDs of fields and the subscripts of entries that
-- lead there, stands an atom or the mark of a struct or an array (RFC 5812, section 4.5, on what an ID selects; the map is this
-- profile's own).
use Rattle.std.specs.Prelude.{ℕ, List, map, Option, Some, None, Result, Ok, Err, if◌then◌else◌}
use Rattle.fc_path.specs.declared.oper.Step.{Step}
use Rattle.fc_path.specs.declared.oper.Step.TheVariants as step
use Rattle.fc_tree.specs.Finding.{walked}
use Rattle.fc_types.specs.Types.{is_atom}
use Rattle.fc_types.specs.declared.ty.Ty.{Ty}
use Rattle.fc_value.specs.declared.value.Value.{Value}

-- what stands at a place
pub data Cell : Type 0 where
  Atom : Value → Cell
  Node : Cell  -- a struct or an array

abbrev pub cell_of : Ty → Value → Cell
cell_of ty v = if is_atom ty then Atom v else Node

abbrev pub some_cell : Result (Ty × Value) ℕ → Option Cell
some_cell (Ok x) = Some (cell_of x.0 x.1)
some_cell (Err code) = None

-- the path by IDs and subscripts alone
abbrev pub by_ids : List ℕ → List Step
by_ids ids = map step.Id ids

-- the cell at a place, none where no path leads there
abbrev pub cell : List ℕ → Ty → Value → Option Cell
cell ids ty v = some_cell (walked (by_ids ids) ty v)
