-- An element that goes by its fence, as the protocol of transactions sees it. This profile's own.
use Rattle.std.specs.Prelude.{◌≡◌, ℕ, ◌==◌, not, Bool, true, false, List, [], None}
use Rattle.std.specs.List.{AllByRecursion}
use Rattle.fc_holding.specs.Held.{has_all, scope_of}
use Rattle.fc_machine.specs.ElementState.{first_code}
use Rattle.fc_machine.specs.Trace.{bare_facts}
use Rattle.fc_msg.specs.declared.message.Message.{Message}
use Rattle.fc_path.specs.declared.oper.Select.{Select}
use Rattle.fc_phases.specs.Asking.{body_of, txn_of}
use Rattle.fc_phases.specs.Shapes.{rest_of}
use Rattle.fc_phases.specs.declared.asked.Asked.{Asked}
use Rattle.fc_phases.specs.declared.asked.Asked.TheVariants.{Claim, Floor, Plain, Start, Change, Commit, Complete as Completing, Abort as Aborting, Malformed}
use Rattle.fc_protocol.specs.ElementMachine.{Circumstance, Heard, hears}
use Rattle.fc_protocol.specs.ElementMachine as protocol
use Rattle.fc_protocol.specs.Messages.{is_epoch, is_name, stamp}
use Rattle.fc_protocol.specs.declared.answers.TxnEntry.{TxnEntry}
use Rattle.fc_transactions.specs.Order.{Step}
use Rattle.fc_transactions.specs.Phases.{marked, rest_outcome}
use Rattle.fc_transactions.specs.State.{TransactionState}
use Rattle.fc_transactions.specs.declared.ledger.Ledger.{Ledger}

-- the state as far as transactions go, without the kept response
abbrev pub seen : TransactionState → protocol.ElementState
seen s = record {
  epoch = s.epoch;
  master = s.master;
  sequence = s.sequence;
  kept = None;
  records = s.ledger.records.entries;
  floor = s.ledger.records.floor;
  ce = s.ce;
  last_ce = s.last_ce;
}

-- the code of the operations that come with a start or a change
abbrev pub rest_code : Ledger → List Select → Asked → ℕ
rest_code l selects (Claim word) = 0
rest_code l selects (Floor f) = 0
rest_code l selects Plain = 0
rest_code l selects (Start o) = first_code (rest_outcome o.instances (marked o.instances l.store) (rest_of selects)).codes
rest_code l selects (Change x) = first_code (rest_outcome (scope_of (txn_of x) l.records.entries) l.store (rest_of selects)).codes
rest_code l selects (Commit x) = 0
rest_code l selects (Completing x) = 0
rest_code l selects (Aborting x) = 0
rest_code l selects Malformed = 0

-- whether a scope names what is no instance of the element
abbrev pub is_strange : Ledger → Asked → Bool
is_strange l (Claim word) = false
is_strange l (Floor f) = false
is_strange l Plain = false
is_strange l (Start o) = not (has_all l.store.instances o.instances)
is_strange l (Change x) = false
is_strange l (Commit x) = false
is_strange l (Completing x) = false
is_strange l (Aborting x) = false
is_strange l Malformed = false

-- what the protocol does not say of it; of the response nothing is said here
abbrev pub circumstance : Ledger → List Select → Asked → Circumstance
circumstance l selects a = record { unheard = false; misfit = 0; quiet = true; rest = rest_code l selects a; shown = 0; plain = 0; touches = []; strange = is_strange l a; shape = 0; others = [] }

-- what the protocol says of a Config that asks this
abbrev pub heard : TransactionState → Message → List Select → Asked → Heard
heard s m selects a = hears s.id (seen s) m.source (circumstance s.ledger selects a) (stamp m.corr) (body_of (stamp m.corr).count a)

-- the state is that of the protocol, but for the kept response
pub record IsLike (s : TransactionState) (el : protocol.ElementState) : Type 0 where
  pub epoch : s.epoch ≡ el.epoch
  pub master : s.master ≡ el.master
  pub sequence : s.sequence ≡ el.sequence
  pub records : s.ledger.records.entries ≡ el.records
  pub floor : s.ledger.records.floor ≡ el.floor
  pub ce : s.ce ≡ el.ce
  pub last_ce : s.last_ce ≡ el.last_ce

-- what was done is what the protocol says
pub record Abides (t : Step) (h : Heard) : Type 0 where
  pub state : IsLike t.state h.element
  pub facts : bare_facts t.facts ≡ h.facts

-- the epoch is 0 or one, and each record is of what can be a transaction
pub record IsNamed (s : TransactionState) : Type 0 where
  pub epoch : (s.epoch == 0) ≡ false → is_epoch s.epoch ≡ true
  pub records : AllByRecursion (λ (n : TxnEntry). is_name n.txn ≡ true) s.ledger.records.entries
