-- The transactions of a large run, by their numbers from 1. This profile's own.
use Rattle.std.specs.Prelude.{ℕ, ◌+◌, ◌*◌, ◌-◌, ◌%◌, ◌^◌, false, List, [], ◌∷◌, ◌++◌, map, decimal, None}
use Rattle.fc_wire.specs.Bytes.{u32_bytes}
use Rattle.fc_path.specs.declared.oper.OperKind.TheVariants as kinds
use Rattle.fc_path.specs.declared.oper.Oper.{Oper}
use Rattle.fc_path.specs.declared.oper.Oper.TheVariants as oper
use Rattle.fc_path.specs.declared.oper.Select.{Select}
use Rattle.fc_path.specs.declared.path.PathData.{PathData, roll-PathData}
use Rattle.fc_path.specs.declared.path.Body.TheVariants as body
use Rattle.fc_documents.specs.declared.transaction.PlanTxn.{PlanTxn}
use Rattle.fc_scripts.specs.Steps.{numbers_from}
use Rattle.fc_generated.specs.Tables.{class}

-- the elements: there are eight
abbrev pub ids : List ℕ
ids = numbers_from 1 8

-- the row s of an element: a name that is the same at all elements, and a rate
abbrev pub row : ℕ → ℕ → List ℕ
row f s = u32_bytes (s * 2654435761 % 2 ^ 32) ++ u32_bytes (f * s)

abbrev pub row_path : ℕ → ℕ → PathData
row_path f s = roll-PathData (record { ids = 1 ∷ s ∷ []; key = None; body = body.Full (row f s) })

-- transaction k is of the 16 rows behind those of the transactions before it
abbrev pub rows : ℕ → List ℕ
rows k = numbers_from (16 * k - 15) 16

-- a change sets them at an element, as one operation
abbrev pub set : ℕ → ℕ → Oper
set k f = oper.Paths kinds.Set (map (row_path f) (rows k))

abbrev pub change : ℕ → ℕ → List Select
change k f = record { class = class; instance = 1; opers = set k f ∷ [] } ∷ []

abbrev pub part : ℕ → ℕ → ℕ × List (List Select)
part k f = (f, change k f ∷ [])

-- the transaction k, whose name is its number
abbrev pub transaction : ℕ → PlanTxn
transaction k = record { name = decimal k; give_up = None; scoped = false; parts = map (part k) ids }
