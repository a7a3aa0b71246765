-- Selects that the grammar has a spelling for, lengths aside: RFC 5810, sections 7.1.5 and 7.1.6. Each operation may stand
-- in the message, each body is one of its operation, no list that needs an item is empty, and PATH-DATA nest at most 16
-- deep.
use Rattle.std.specs.Prelude.{◌≡◌, ◌<◌, ℕ, zero, suc, true, length, Some}
use Rattle.std.specs.List.{AllByRecursion}
use Rattle.fc_path.specs.Kinds.{operation_of, number_of, holds_selects, takes_nothing, takes_full, takes_sparse, takes_outcome}
use Rattle.fc_path.specs.declared.kinds.Operation.TheVariants as operation
use Rattle.fc_path.specs.declared.oper.OperKind.{OperKind}
use Rattle.fc_path.specs.declared.oper.Oper.{Oper}
use Rattle.fc_path.specs.declared.oper.Oper.TheVariants as oper
use Rattle.fc_path.specs.declared.oper.Select.{Select}
use Rattle.fc_path.specs.declared.path.PathData.{PathData}
use Rattle.fc_path.specs.declared.path.Body.{Body, out-Body}
use Rattle.fc_path.specs.declared.path.Body.TheOpen.{Body-F}

abbrev pub ProperBody : OperKind → (PathData → Type 0) → Body-F Body PathData → Type 0
ProperBody kind P Body-F.Nothing = takes_nothing kind ≡ true
ProperBody kind P (Body-F.Full value) = takes_full kind ≡ true
ProperBody kind P (Body-F.Sparse ilvs) = takes_sparse kind ≡ true
ProperBody kind P (Body-F.Outcome code) = takes_outcome kind ≡ true
ProperBody kind P (Body-F.Nested paths) = (0 < length paths) × AllByRecursion P paths

abbrev pub ProperPath : OperKind → ℕ → PathData → Type 0
ProperPath kind zero path = ⊥
ProperPath kind (suc depth) path = ProperBody kind (ProperPath kind depth) (out-Body path.body)

abbrev pub ProperOper : ℕ → Oper → Type 0
ProperOper message (oper.Paths kind paths) =
    (operation_of message (number_of kind) ≡ Some (operation.Paths kind)) × (0 < length paths)
    × AllByRecursion (ProperPath kind 16) paths
ProperOper message oper.Commit = operation_of message 12 ≡ Some operation.Commit
ProperOper message oper.Trcomp = operation_of message 14 ≡ Some operation.Trcomp
ProperOper message (oper.CommitResponse code) = operation_of message 13 ≡ Some operation.CommitResponse

abbrev pub ProperSelect : ℕ → Select → Type 0
ProperSelect message select =
    (holds_selects message ≡ true) × (0 < length select.opers) × AllByRecursion (ProperOper message) select.opers
