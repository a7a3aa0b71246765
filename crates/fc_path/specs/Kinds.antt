-- The types of TLVs and of operations, and where each may stand: RFC 5810, section 7.1.6 and appendix A. That
-- SPARSEDATA is the one body of a SET-PROP is this profile's own.
use Rattle.std.specs.Prelude.{ℕ, ◌==◌, ◌&&◌, ◌||◌, not, nat_lt, Bool, true, false, List, [], ◌∷◌, Option, Some, None, if◌then◌else◌}
use Rattle.fc_wire.specs.Types as types
use Rattle.fc_path.specs.declared.oper.OperKind.{OperKind}
use Rattle.fc_path.specs.declared.oper.OperKind.TheVariants as kinds
use Rattle.fc_path.specs.declared.kinds.Operation.{Operation}
use Rattle.fc_path.specs.declared.kinds.Operation.TheVariants as operation

-- the types that are in a table where no operation may stand: REDIRECT, ASResult, ASTreason, LFBselect, and those from
-- PATH-DATA to REDIRECTDATA
abbrev pub is_known : ℕ → Bool
is_known kind = kind == 1 || kind == 16 || kind == 17 || kind == types.select || (not (nat_lt kind types.path_data) && not (nat_lt 278 kind))

-- inside an LFBselect the operations too
abbrev pub in_select : ℕ → Bool
in_select kind = (not (nat_lt kind 1) && not (nat_lt 14 kind)) || is_known kind

-- what an operation is, by the type of its TLV
pub record Row : Type 0 where
  pub message : ℕ
  pub kind : ℕ
  pub operation : Operation

abbrev row : ℕ → ℕ → Operation → Row
row message kind operation = record { message = message; kind = kind; operation = operation }

-- each operation that may stand in a message of a type: AssociationSetup, Config, Query, EventNotification,
-- ConfigResponse and QueryResponse
abbrev pub operations : List Row
operations =
    row 1 11 (operation.Paths kinds.Report)
    ∷ row 3 1 (operation.Paths kinds.Set)
    ∷ row 3 2 (operation.Paths kinds.SetProp)
    ∷ row 3 5 (operation.Paths kinds.Del)
    ∷ row 3 types.commit operation.Commit
    ∷ row 3 types.trcomp operation.Trcomp
    ∷ row 4 7 (operation.Paths kinds.Get)
    ∷ row 4 8 (operation.Paths kinds.GetProp)
    ∷ row 5 11 (operation.Paths kinds.Report)
    ∷ row 19 3 (operation.Paths kinds.SetResponse)
    ∷ row 19 4 (operation.Paths kinds.SetPropResponse)
    ∷ row 19 6 (operation.Paths kinds.DelResponse)
    ∷ row 19 types.commit_response operation.CommitResponse
    ∷ row 20 9 (operation.Paths kinds.GetResponse)
    ∷ row 20 10 (operation.Paths kinds.GetPropResponse)
    ∷ []

-- the operation of a type in a message of a type, in such a list
abbrev pub operation_in : List Row → ℕ → ℕ → Option Operation
operation_in [] message kind = None
operation_in (x ∷ xs) message kind =
    if x.message == message && x.kind == kind then Some x.operation else operation_in xs message kind

abbrev pub operation_of : ℕ → ℕ → Option Operation
operation_of message kind = operation_in operations message kind

-- the messages that hold LFBselects
abbrev pub holds_selects : ℕ → Bool
holds_selects message =
    message == 1 || message == 3 || message == 4 || message == 5 || message == 19 || message == 20

-- the operations whose leaves have no body
abbrev pub takes_nothing : OperKind → Bool
takes_nothing kinds.Del = true
takes_nothing kinds.Get = true
takes_nothing kinds.GetProp = true
takes_nothing kinds.Set = false
takes_nothing kinds.SetProp = false
takes_nothing kinds.SetResponse = false
takes_nothing kinds.SetPropResponse = false
takes_nothing kinds.DelResponse = false
takes_nothing kinds.GetResponse = false
takes_nothing kinds.GetPropResponse = false
takes_nothing kinds.Report = false

-- the operations whose leaves may have a whole value
abbrev pub takes_full : OperKind → Bool
takes_full kinds.Set = true
takes_full kinds.GetResponse = true
takes_full kinds.GetPropResponse = true
takes_full kinds.Report = true
takes_full kinds.Del = false
takes_full kinds.Get = false
takes_full kinds.GetProp = false
takes_full kinds.SetProp = false
takes_full kinds.SetResponse = false
takes_full kinds.SetPropResponse = false
takes_full kinds.DelResponse = false

-- the operations whose leaves may have parts of a value
abbrev pub takes_sparse : OperKind → Bool
takes_sparse kinds.Set = true
takes_sparse kinds.SetProp = true
takes_sparse kinds.GetResponse = true
takes_sparse kinds.GetPropResponse = true
takes_sparse kinds.Del = false
takes_sparse kinds.Get = false
takes_sparse kinds.GetProp = false
takes_sparse kinds.SetResponse = false
takes_sparse kinds.SetPropResponse = false
takes_sparse kinds.DelResponse = false
takes_sparse kinds.Report = false

-- the operations whose leaves may have a result
abbrev pub takes_outcome : OperKind → Bool
takes_outcome kinds.SetResponse = true
takes_outcome kinds.SetPropResponse = true
takes_outcome kinds.DelResponse = true
takes_outcome kinds.GetResponse = true
takes_outcome kinds.GetPropResponse = true
takes_outcome kinds.Set = false
takes_outcome kinds.SetProp = false
takes_outcome kinds.Del = false
takes_outcome kinds.Get = false
takes_outcome kinds.GetProp = false
takes_outcome kinds.Report = false

-- the type of the TLV of an operation that holds PATH-DATA
abbrev pub number_of : OperKind → ℕ
number_of kinds.Set = 1
number_of kinds.SetProp = 2
number_of kinds.SetResponse = 3
number_of kinds.SetPropResponse = 4
number_of kinds.Del = 5
number_of kinds.DelResponse = 6
number_of kinds.Get = 7
number_of kinds.GetProp = 8
number_of kinds.GetResponse = 9
number_of kinds.GetPropResponse = 10
number_of kinds.Report = 11
