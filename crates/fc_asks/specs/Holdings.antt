-- What the answers to an ask and to a record ask hold (this profile's own, over the values of RFC 5812, section 4.5).
use Rattle.std.specs.Prelude.{ℕ, ℤ, pos, negsuc, ◌^◌, ◌&&◌, ◌==◌, nat_lt, if◌then◌else◌, Bool, true, false, Result, Ok, Err, List, [], ◌∷◌, Option, Some, None, option_map, option_and_then}
use Rattle.fc_base.specs.Ids.{Txn}
use Rattle.fc_value.specs.declared.value.Value.{Value, out-Value}
use Rattle.fc_value.specs.declared.value.Value.TheOpen.{Value-F}
use Rattle.fc_types.specs.declared.ty.Ty.{Ty}
use Rattle.fc_value.specs.Reading.{full_in}
use Rattle.fc_protocol.specs.Messages.{is_name}
use Rattle.fc_protocol.specs.declared.answers.TxnEntry.{TxnEntry}
use Rattle.fc_protocol.specs.declared.states.Seen.{Seen}
use Rattle.fc_protocol.specs.declared.states.Seen.TheVariants as seen
use Rattle.fc_protocol.specs.declared.states.TxnState.{TxnState}
use Rattle.fc_protocol.specs.declared.states.TxnState.TheVariants.{Started, Prepared, Completed, Aborted}

-- a number of 32 bits
abbrev pub word_of : ℤ → Option ℕ
word_of (pos n) = if nat_lt n (2 ^ 32) then Some n else None
word_of (negsuc n) = None

abbrev pub word_layer : Value-F Value → Option ℕ
word_layer (Value-F.Truth t) = None
word_layer (Value-F.Number z) = word_of z
word_layer (Value-F.Text t) = None
word_layer (Value-F.Raw b) = None
word_layer (Value-F.Group vs) = None
word_layer (Value-F.Table es) = None

abbrev pub word_in : Value → Option ℕ
word_in v = word_layer (out-Value v)

-- an element's ID above this number
abbrev pub next_id : ℕ → Option ℕ → Option ℕ
next_id last None = None
next_id last (Some n) = if nat_lt last n && nat_lt n (2 ^ 30) then Some n else None

-- the IDs of elements that are the entries, each above the one before
abbrev pub ids_from : ℕ → List (ℕ × Value) → Option (List ℕ)
ids_from last [] = Some []
ids_from last (e ∷ es) = option_and_then (λ n. option_map (λ ns. n ∷ ns) (ids_from n es)) (next_id last (word_in e.1))

abbrev pub ids_layer : Value-F Value → Option (List ℕ)
ids_layer (Value-F.Truth t) = None
ids_layer (Value-F.Number z) = None
ids_layer (Value-F.Text t) = None
ids_layer (Value-F.Raw b) = None
ids_layer (Value-F.Group vs) = None
ids_layer (Value-F.Table es) = ids_from 0 es

abbrev pub ids_in : Value → Option (List ℕ)
ids_in v = ids_layer (out-Value v)

-- the state of a number
abbrev pub state_of : ℕ → Option TxnState
state_of s = if s == 1 then Some Started else (if s == 2 then Some Prepared else (if s == 3 then Some Completed else (if s == 4 then Some Aborted else None)))

abbrev pub entry_if : Txn → List ℕ → Option TxnState → Option TxnEntry
entry_if x ps None = None
entry_if x ps (Some s) = if is_name x then Some (record { txn = x; state = s; participants = ps; scope = [] }) else None

abbrev pub entry_by : Option ℕ → Option ℕ → Option ℕ → Option (List ℕ) → Option TxnEntry
entry_by e n s ps = option_and_then (λ e. option_and_then (λ n. option_and_then (λ s. option_and_then (λ ps. entry_if (record { epoch = e; number = n }) ps (state_of s)) ps) s) n) e

abbrev pub fields_entry : List Value → Option TxnEntry
fields_entry (a ∷ b ∷ c ∷ d ∷ []) = entry_by (word_in a) (word_in b) (word_in c) (ids_in d)
fields_entry _ = None

abbrev pub entry_layer : Value-F Value → Option TxnEntry
entry_layer (Value-F.Truth t) = None
entry_layer (Value-F.Number z) = None
entry_layer (Value-F.Text t) = None
entry_layer (Value-F.Raw b) = None
entry_layer (Value-F.Group vs) = fields_entry vs
entry_layer (Value-F.Table es) = None

abbrev pub entry_in : Value → Option TxnEntry
entry_in v = entry_layer (out-Value v)

abbrev pub is_held : TxnState → Bool
is_held Started = true
is_held Prepared = true
is_held Completed = false
is_held Aborted = false

abbrev pub held_only : Option TxnEntry → Option TxnEntry
held_only None = None
held_only (Some n) = if is_held n.state then Some n else None

-- the transactions that are held
abbrev pub held_from : List (ℕ × Value) → Option (List TxnEntry)
held_from [] = Some []
held_from (e ∷ es) = option_and_then (λ n. option_map (λ ns. n ∷ ns) (held_from es)) (held_only (entry_in e.1))

abbrev pub held_layer : Value-F Value → Option (List TxnEntry)
held_layer (Value-F.Truth t) = None
held_layer (Value-F.Number z) = None
held_layer (Value-F.Text t) = None
held_layer (Value-F.Raw b) = None
held_layer (Value-F.Group vs) = None
held_layer (Value-F.Table es) = held_from es

abbrev pub held_in : Value → Option (List TxnEntry)
held_in v = held_layer (out-Value v)

abbrev pub held_read : Result Value ℕ → Option (List TxnEntry)
held_read (Ok v) = held_in v
held_read (Err code) = None

-- the list of held transactions that the bytes are, by their type
abbrev pub held_by : Ty → List ℕ → Option (List TxnEntry)
held_by ty bytes = held_read (full_in ty bytes)

-- the record that the bytes are, by its type
abbrev pub entry_read : Result Value ℕ → Option TxnEntry
entry_read (Ok v) = entry_in v
entry_read (Err code) = None

abbrev pub entry_of_type : Ty → List ℕ → Option TxnEntry
entry_of_type ty bytes = entry_read (full_in ty bytes)

-- the state of a record
abbrev pub seen_of : TxnState → Seen
seen_of Started = seen.Started
seen_of Prepared = seen.Prepared
seen_of Completed = seen.Completed
seen_of Aborted = seen.Aborted

abbrev pub seen_in : Option TxnEntry → Option Seen
seen_in None = None
seen_in (Some n) = Some (seen_of n.state)
