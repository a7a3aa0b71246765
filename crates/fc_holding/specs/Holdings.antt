-- What an element keeps of each transaction that is held, in the order in which they were opened: the mark that was set over its instances when
-- it was opened, and the operations that were accepted since. This profile's own.
use Rattle.std.specs.Prelude.{ℕ, suc, not, Bool, false, List, [], ◌∷◌, Option, Some, None, if◌then◌else◌}
use Rattle.std.specs.List.{filter}
use Rattle.std.specs.Option.{option_map}
use Rattle.fc_base.specs.Ids.{Txn}
use Rattle.fc_machine.specs.ElementState.{and_rest}
use Rattle.fc_path.specs.declared.oper.Select.{Select}
use Rattle.fc_protocol.specs.Messages.{same}
use Rattle.fc_protocol.specs.Records.{state_of, still_started}
use Rattle.fc_protocol.specs.declared.answers.TxnEntry.{TxnEntry}
use Rattle.fc_protocol.specs.declared.states.TxnState.{TxnState}
use Rattle.fc_store.specs.Stores.{Stored, Tree, gone_back, over_mark, without_mark}
use Rattle.fc_holding.specs.declared.holding.Holding.{Holding}

-- the place of what is kept of x
abbrev pub place : Txn → List Holding → Option ℕ
place x [] = None
place x (h ∷ hs) = if same x h.txn then Some 0 else option_map suc (place x hs)

-- what is kept of x, if it is held
abbrev pub found : Txn → List Holding → Option Holding
found x [] = None
found x (h ∷ hs) = if same x h.txn then Some h else found x hs

-- all but what is kept of x
abbrev pub without : Txn → List Holding → List Holding
without x [] = []
without x (h ∷ hs) = if same x h.txn then hs else h ∷ without x hs

-- the operations of a rest are accepted too; an empty rest leaves nothing
abbrev pub extended : List Select → Holding → Holding
extended rest h = record { txn = h.txn; mark = h.mark; rests = and_rest h.rests rest }

abbrev pub with_rest : Txn → List Select → List Holding → List Holding
with_rest x rest [] = []
with_rest x rest (h ∷ hs) = if same x h.txn then extended rest h ∷ hs else h ∷ with_rest x rest hs

-- the instances of what is held get this done at the mark that stands there, where it is held
abbrev pub over_held : (Tree → Tree) → Option Holding → Stored → Stored
over_held change None s = s
over_held change (Some h) s = over_mark change h.mark s

-- the changes of x are undone
abbrev pub undone : Txn → List Holding → Stored → Stored
undone x hs s = over_held gone_back (found x hs) s

-- the changes of x are settled
abbrev pub settled_with : Txn → List Holding → Stored → Stored
settled_with x hs s = over_held without_mark (found x hs) s

-- ---- a claim
-- whether the record of x is of what is started
abbrev pub is_started_in : Option TxnState → Bool
is_started_in None = false
is_started_in (Some state) = still_started state

abbrev pub is_started : List TxnEntry → Holding → Bool
is_started ns h = is_started_in (state_of h.txn ns)

-- what is started is undone, in the order in which it was opened
abbrev pub undone_one : List TxnEntry → Holding → Stored → Stored
undone_one ns h s = if is_started ns h then over_mark gone_back h.mark s else s

abbrev pub all_undone : List TxnEntry → List Holding → Stored → Stored
all_undone ns [] s = s
all_undone ns (h ∷ hs) s = all_undone ns hs (undone_one ns h s)

-- and is no more held
abbrev pub not_started : List TxnEntry → List Holding → List Holding
not_started ns hs = filter (λ h. not (is_started ns h)) hs
