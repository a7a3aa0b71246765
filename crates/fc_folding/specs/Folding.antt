-- The settled and the working configuration of an element, and what it holds, by what has happened there. RFC 5810, section 4.3.1.2, on settling
-- a transaction; scopes, and that several are held at once, are this profile's own.
use Rattle.std.specs.Prelude.{◌≡◌, ℕ, ◌==◌, ◌&&◌, ◌/◌, ◌%◌, ◌^◌, not, Bool, true, List, [], map, Some}
use Rattle.std.specs.List.{AllByRecursion, flat_map}
use Rattle.fc_abiding.specs.Runs.{Came, Life}
use Rattle.fc_exec.specs.Operations.{applied, operations, place_of}
use Rattle.fc_exec.specs.declared.operations.Operation.{Operation}
use Rattle.fc_headline.specs.Folds.{Clean}
use Rattle.fc_holding.specs.declared.holding.Holding.{Holding}
use Rattle.fc_machine.specs.Trace.{completed}
use Rattle.fc_modes.specs.Modes.{folded}
use Rattle.fc_protocol.specs.Records.{held}
use Rattle.fc_protocol.specs.Scopes.{covers}
use Rattle.fc_protocol.specs.declared.answers.TxnEntry.{TxnEntry}
use Rattle.fc_standing.specs.Holding.{marking}
use Rattle.fc_store.specs.Stores.{Pairwise, Stored}
use Rattle.fc_store.specs.Stores as stores
use Rattle.fc_transactions.specs.declared.ledger.Ledger.{Ledger}

-- whether the number is the ID of a control element
abbrev pub is_control : ℕ → Bool
is_control n = n / 2 ^ 30 == 1 && not (n % 256 == 0)

-- each Config is of a control element
abbrev pub OfControls : List Came → Type 0
OfControls came = AllByRecursion (λ (c : Came). is_control c.message.source ≡ true) came

-- the operations of the accepted rests of a transaction, in their order
abbrev pub ops_of : Holding → List Operation
ops_of h = flat_map operations h.rests

-- those of all that are held, in the order in which they were opened
abbrev pub held_ops : List Holding → List Operation
held_ops hs = flat_map ops_of hs

-- the settled configuration: what each instance held at the mark of what is held there, and without one what it holds
abbrev pub settled_now : Ledger → Stored
settled_now l = stores.settled (map (λ (h : Holding). h.mark) l.holdings) l.store

-- the working configuration: what each instance holds
abbrev pub working_now : Ledger → Stored
working_now l = stores.settled [] l.store

-- from this opening configuration, the settled one is the fold of what the element has completed, and the working one that of what it holds on
-- the settled one, with code 00 at each
pub record Folds (opening : Stored) (life : Life) : Type 0 where
  pub settled : settled_now life.state.ledger ≡ folded applied opening (completed life.state.id life.facts)
  pub clean : Clean applied opening (completed life.state.id life.facts)
  pub working : working_now life.state.ledger ≡ folded applied (settled_now life.state.ledger) (held_ops life.state.ledger.holdings)
  pub works : Clean applied (settled_now life.state.ledger) (held_ops life.state.ledger.holdings)

-- what is kept of a transaction is that of this record: its mark is over the instances of the scope, of which no other mark stands, and each of
-- its operations lies at one of them
pub record IsOf (instances : List (ℕ × ℕ)) (n : TxnEntry) (h : Holding) : Type 0 where
  pub txn : h.txn ≡ n.txn
  pub mark : h.mark ≡ marking n.scope instances
  pub inside : AllByRecursion (λ op. (q : ℕ × ℕ) × (place_of op ≡ Some q) × (covers n.scope q ≡ true)) (ops_of h)

-- what is kept of transactions is that of the records of what is held, in their order
abbrev pub Fits : Ledger → Type 0
Fits l = Pairwise (IsOf l.store.instances) (held l.records.entries) l.holdings
