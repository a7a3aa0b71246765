-- What a Config may change at an element: RFC 5810, sections 7.6 and 4.3.1.2. The fence, the kept response, records and their floor, and the
-- control elements that configure it, are this profile's own.
use Rattle.std.specs.Prelude.{ℕ, List, [], Option, None, refl}
use Rattle.std.specs.Coded.{Coded, code_by, coded×, coded_ℕ, coded_list, coded_option}
use Rattle.fc_base.specs.Ids.{Txn}
use Rattle.fc_events.specs.contracts.subscriptions.Subscription as subscription_contracts
use Rattle.fc_events.specs.declared.subscriptions.Subscription.{Subscription}
use Rattle.fc_msg.specs.contracts.message.Message as message_contracts
use Rattle.fc_msg.specs.declared.message.Message.{Message}
use Rattle.fc_path.specs.contracts.oper.Select as select_contracts
use Rattle.fc_path.specs.declared.oper.Select.{Select}
use Rattle.fc_protocol.specs.contracts.answers.TxnEntry as entry_contracts
use Rattle.fc_store.specs.Stores.{Stored, stored_code}
use Rattle.fc_tx.specs.Records.{TxnRecords, records_code, txn_code}
use Rattle.fc_holding.specs.declared.holding.Holding.{Holding}
use Rattle.fc_transactions.specs.declared.ledger.Ledger.{Ledger}

-- The ID of the element; the epoch of the life that has claimed it, or 0, that life's control element, or 0, and the sequence of the last
-- Config of it that was taken; the response to that Config, if there was one; the control element that may configure it, and the one before;
-- and what Configs change.
pub record TransactionState : Type 0 where
  pub id : ℕ
  pub epoch : ℕ
  pub master : ℕ
  pub sequence : ℕ
  pub kept : Option Message
  pub ce : ℕ
  pub last_ce : ℕ
  pub ledger : Ledger

-- an element that no life of a control element has claimed, with the control element that is to configure it
abbrev pub opened : ℕ → ℕ → Stored → TransactionState
opened id ce store = record {
  id = id;
  epoch = 0;
  master = 0;
  sequence = 0;
  kept = None;
  ce = ce;
  last_ce = 0;
  ledger = record { records = record { entries = []; floor = None }; holdings = []; store = store; subscriptions = [] };
}

-- ---- how a proof tells states apart: by their parts
abbrev pub holding_code : Coded Holding
holding_code =
    code_by (Txn × (List (ℕ × ℕ) × List (List Select))) (coded× txn_code (coded× (coded_list (coded× coded_ℕ coded_ℕ)) (coded_list (coded_list select_contracts.the_row.coded))))
    (λ h. (h.txn, (h.mark, h.rests))) (λ p. record { txn = p.0; mark = p.1.0; rests = p.1.1 }) (λ _. refl)

abbrev pub ledger_code : Coded Ledger
ledger_code =
    code_by (TxnRecords × (List Holding × (Stored × List Subscription)))
    (coded× (records_code entry_contracts.the_row.coded) (coded× (coded_list holding_code) (coded× stored_code (coded_list subscription_contracts.the_row.coded))))
    (λ l. (l.records, (l.holdings, (l.store, l.subscriptions)))) (λ p. record { records = p.0; holdings = p.1.0; store = p.1.1.0; subscriptions = p.1.1.1 }) (λ _. refl)

abbrev pub StateParts : Type 0
StateParts = ℕ × (ℕ × (ℕ × (ℕ × (Option Message × (ℕ × (ℕ × Ledger))))))

abbrev pub state_code : Coded TransactionState
state_code =
    code_by StateParts
    (coded× coded_ℕ (coded× coded_ℕ (coded× coded_ℕ (coded× coded_ℕ (coded× (coded_option message_contracts.the_row.coded) (coded× coded_ℕ (coded× coded_ℕ ledger_code)))))))
    (λ s. (s.id, (s.epoch, (s.master, (s.sequence, (s.kept, (s.ce, (s.last_ce, s.ledger))))))))
    (λ p. record { id = p.0; epoch = p.1.0; master = p.1.1.0; sequence = p.1.1.1.0; kept = p.1.1.1.1.0; ce = p.1.1.1.1.1.0; last_ce = p.1.1.1.1.1.1.0; ledger = p.1.1.1.1.1.1.1 })
    (λ _. refl)
