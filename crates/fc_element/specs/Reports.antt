-- The report on an element: a line with its ID, the epoch, the control element that may configure it and the sequence; behind it the floor,
-- where one is set, a line for each record of a transaction, and one for each component of its settled configuration that has another value
-- than at its opening. This profile's own.
use Rattle.std.specs.Prelude.{ℕ, List, [], ◌∷◌, ◌++◌, Option, Some, None, codes, decimal}
use Rattle.std.specs.List.{flat_map}
use Rattle.fc_base.specs.Hex.{hex, hex_text}
use Rattle.fc_base.specs.Ids.{Txn, txn_text}
use Rattle.fc_protocol.specs.declared.answers.TxnEntry.{TxnEntry}
use Rattle.fc_protocol.specs.declared.states.TxnState.{TxnState}
use Rattle.fc_protocol.specs.declared.states.TxnState.TheVariants.{Started, Prepared, Completed, Aborted}
use Rattle.fc_store.specs.Stores.{Stored}
use Rattle.fc_transactions.specs.State.{TransactionState}
use Rattle.fc_element.specs.Configuration.{configured}
use Rattle.fc_element.specs.ElementState.{ElementState, settled_store}
use Rattle.fc_element.specs.declared.configured.Configured.{Configured}

-- ---- the element and its transactions
unfoldable pub head_line : TransactionState → List ℕ
head_line t =
    codes "element " ++ (decimal t.id ++ (codes " epoch " ++ (decimal t.epoch ++ (codes " ce " ++ (hex 8 t.ce ++ (codes " sequence " ++ (decimal t.sequence ++ codes "\n")))))))

unfoldable pub floor_line : Option Txn → List ℕ
floor_line None = []
floor_line (Some f) = codes "floor " ++ (txn_text f ++ codes "\n")

abbrev pub state_name : TxnState → List ℕ
state_name Started = codes "started"
state_name Prepared = codes "prepared"
state_name Completed = codes "completed"
state_name Aborted = codes "aborted"

unfoldable pub record_line : TxnEntry → List ℕ
record_line n = codes "record " ++ (txn_text n.txn ++ (codes " " ++ (state_name n.state ++ codes "\n")))

-- ---- the configuration
-- bytes as hexadecimal digits, and a dash where there are none
abbrev pub bytes_text : List ℕ → List ℕ
bytes_text [] = codes "-"
bytes_text (b ∷ bs) = hex_text (b ∷ bs)

abbrev pub form_text : Option (List ℕ) → List ℕ
form_text None = codes "absent"
form_text (Some bytes) = bytes_text bytes

-- a component by its class, its instance and its ID
unfoldable pub component_text : Configured → List ℕ
component_text c = hex 8 c.class ++ (codes " " ++ (hex 8 c.instance ++ (codes " " ++ decimal c.component)))

-- the line of a component, with its full form or that it has none
unfoldable pub config_line : Configured → List ℕ
config_line c = codes "config " ++ (component_text c ++ (codes " " ++ (form_text c.form ++ codes "\n")))

-- the lines of a configuration
unfoldable pub config_lines : Stored → List ℕ
config_lines s = flat_map config_line (configured s)

abbrev pub reported : TransactionState → List ℕ
reported t = head_line t ++ (floor_line t.ledger.records.floor ++ (flat_map record_line t.ledger.records.entries ++ config_lines (settled_store t.ledger)))

abbrev pub report_of : ElementState → List ℕ
report_of s = reported s.transactions
