-- Which instances are held: those that a held transaction may change. This profile's own.
use Rattle.std.specs.Prelude.{ℕ, not, ◌&&◌, Bool, true, false, List, [], ◌∷◌, Option, Some, None, if◌then◌else◌}
use Rattle.std.specs.List.{flat_map, list_all, list_any}
use Rattle.fc_base.specs.Ids.{Txn}
use Rattle.fc_path.specs.declared.oper.Oper.{Oper}
use Rattle.fc_path.specs.declared.oper.Oper.TheVariants as oper
use Rattle.fc_path.specs.declared.oper.Select.{Select}
use Rattle.fc_protocol.specs.Messages.{same, is_name}
use Rattle.fc_protocol.specs.Records.{is_held, is_taken, state_of}
use Rattle.fc_protocol.specs.Scopes.{Scope, covers, lists}
use Rattle.fc_protocol.specs.declared.answers.TxnEntry.{TxnEntry}
use Rattle.fc_protocol.specs.declared.states.TxnState.{TxnState}

-- ---- records
-- the state of the record of x; what names no transaction has no record
abbrev pub state_at : Txn → List TxnEntry → Option TxnState
state_at x ns = if is_name x then state_of x ns else None

-- the scope of the record of x
abbrev pub scope_of : Txn → List TxnEntry → Scope
scope_of x [] = []
scope_of x (n ∷ ns) = if same x n.txn then n.scope else scope_of x ns

-- ---- instances
-- the instances of a scope, among all that there are: the empty one has each of them
abbrev pub instances_of : List (ℕ × ℕ) → Scope → List (ℕ × ℕ)
instances_of all [] = all
instances_of all (i ∷ is) = i ∷ is

-- whether a record counts, where one transaction is left out
abbrev pub counts : Option Txn → TxnEntry → Bool
counts None n = true
counts (Some x) n = not (same x n.txn)

-- the instances that a record holds, if it counts
abbrev pub held_by : List (ℕ × ℕ) → Option Txn → TxnEntry → List (ℕ × ℕ)
held_by all x n = if counts x n && is_held n.state then instances_of all n.scope else []

-- those of records in their order
abbrev pub held_instances : List (ℕ × ℕ) → Option Txn → List TxnEntry → List (ℕ × ℕ)
held_instances all x ns = flat_map (held_by all x) ns

-- whether there is each instance of a scope
abbrev pub has_all : List (ℕ × ℕ) → Scope → Bool
has_all all scope = list_all (lists all) scope

-- ---- plain changes
-- an operation on the place of some leaf
abbrev pub has_leaves : Oper → Bool
has_leaves (oper.Paths kind paths) = true
has_leaves oper.Commit = false
has_leaves oper.Trcomp = false
has_leaves (oper.CommitResponse code) = false

-- whether leaves lie at the instance of a select; a COMMIT and a TRCOMP lie nowhere
abbrev pub touches : Select → Bool
touches s = list_any has_leaves s.opers

-- whether leaves lie there, and it is held
abbrev pub is_in_the_way : List TxnEntry → Select → Bool
is_in_the_way ns s = touches s && is_taken ns (s.class, s.instance)

-- whether a leaf of selects lies at an instance that is held
abbrev pub waits : List TxnEntry → List Select → Bool
waits ns selects = list_any (is_in_the_way ns) selects

-- ---- one by one
-- whether a record is of something held in whose scope the instance lies
abbrev pub takes : ℕ × ℕ → TxnEntry → Bool
takes i n = is_held n.state && covers n.scope i

-- the scope of a record, if there is one
abbrev pub scope_in : Option TxnEntry → Scope
scope_in None = []
scope_in (Some n) = n.scope

abbrev pub held_by_at : List (ℕ × ℕ) → Option Txn → Option TxnEntry → List (ℕ × ℕ)
held_by_at all x None = []
held_by_at all x (Some n) = held_by all x n
