-- What a forwarding element holds: RFC 5810, sections 4 and 7.10, and RFC 5812, section 3.2, on the components of its LFB instances.
use Rattle.std.specs.Prelude.{ℕ, List, [], ◌∷◌, map, refl}
use Rattle.std.specs.Coded.{Coded, code_by, coded×, coded_ℕ}
use Rattle.std.specs.FinMap.{empty}
use Rattle.fc_assoc.specs.Associations.{AssociationMap, association_map_code}
use Rattle.fc_blocks.specs.Opening.{opened_store}
use Rattle.fc_lfbs.specs.LiveValues.{Told, Txn}
use Rattle.fc_protocol.specs.declared.answers.TxnEntry.{TxnEntry}
use Rattle.fc_protocol.specs.declared.states.TxnState.{TxnState}
use Rattle.fc_protocol.specs.declared.states.TxnState.TheVariants.{Started, Prepared, Completed, Aborted}
use Rattle.fc_store.specs.Stores.{Stored, settled}
use Rattle.fc_transactions.specs.State.{TransactionState, state_code as transactions_code}
use Rattle.fc_transactions.specs.State as transactions
use Rattle.fc_transactions.specs.declared.ledger.Ledger.{Ledger}
use Rattle.fc_types.specs.declared.class.Class.{Class}

-- What Configs may change; its associations; the greatest moment that it has seen; and the moment of its last heartbeats.
pub record ElementState : Type 0 where
  pub transactions : TransactionState
  pub associations : AssociationMap
  pub clock : ℕ
  pub last_beat : ℕ

-- ---- an element that was just made
abbrev pub opened : ℕ → ℕ → List Class → List (ℕ × ℕ) → ElementState
opened id ce library instances = record {
  transactions = transactions.opened id ce (opened_store library instances);
  associations = empty;
  clock = 0;
  last_beat = 0;
}

-- ---- the two configurations
-- the settled one: what is held stands in it as it was when it was opened
abbrev pub settled_store : Ledger → Stored
settled_store l = settled (map (λ h. h.mark) l.holdings) l.store

-- ---- what an element tells in the components that stand in no configuration
abbrev pub state_number : TxnState → ℕ
state_number Started = 1
state_number Prepared = 2
state_number Completed = 3
state_number Aborted = 4

abbrev pub told_txn : TxnEntry → Txn
told_txn n = record { epoch = n.txn.epoch; number = n.txn.number; state = state_number n.state; participants = n.participants }

abbrev pub told_one : TxnEntry → List Txn
told_one n = told_txn n ∷ []

abbrev pub told_of : TransactionState → Told
told_of t = record {
  id = t.id;
  instances = t.ledger.store.instances;
  ce = t.ce;
  last_ce = t.last_ce;
  epoch = t.epoch;
  master = t.master;
  transactions = map told_txn t.ledger.records.entries;
}

-- ---- how a proof tells states apart: by their parts
abbrev pub Parts : Type 0
Parts = TransactionState × (AssociationMap × (ℕ × ℕ))

abbrev pub state_code : Coded ElementState
state_code =
    code_by Parts (coded× transactions_code (coded× association_map_code (coded× coded_ℕ coded_ℕ)))
    (λ s. (s.transactions, (s.associations, (s.clock, s.last_beat)))) (λ p. record { transactions = p.0; associations = p.1.0; clock = p.1.1.0; last_beat = p.1.1.1 }) (λ _. refl)

-- ---- an element that starts again: it keeps what Configs may change, has no association, and its moment is 0
abbrev pub restarted : ElementState → ElementState
restarted s = record { transactions = s.transactions; associations = empty; clock = 0; last_beat = 0 }
