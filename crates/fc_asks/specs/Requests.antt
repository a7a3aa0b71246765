-- The messages that a master sends (RFC 5810, sections 7.5 to 7.7, 7.10 and 4.3.1.2.2; class Mastership is this profile's own).
use Rattle.std.specs.Prelude.{ℕ, ◌+◌, ◌/◌, ◌%◌, ◌^◌, Bool, true, false, List, [], ◌∷◌, ◌++◌, length, Some, None}
use Rattle.fc_base.specs.Ids.{Txn}
use Rattle.fc_wire.specs.Bytes.{u32_bytes}
use Rattle.fc_wire.specs.Flags.{FlagValues}
use Rattle.fc_path.specs.declared.oper.OperKind.TheVariants as kinds
use Rattle.fc_path.specs.declared.oper.Oper.TheVariants as oper
use Rattle.fc_path.specs.declared.oper.Select.{Select}
use Rattle.fc_path.specs.declared.path.PathData.{PathData}
use Rattle.fc_path.specs.declared.path.Body.TheVariants as body
use Rattle.fc_msg.specs.declared.message.Message.{Message}
use Rattle.fc_msg.specs.declared.message.MsgBody.TheVariants.{Config, Query}
use Rattle.fc_protocol.specs.Messages.{Body, Claim, Sot, Mot, Eot, Trcomp, Abt, Floor, Malformed, Plain, Ask, Ask_record}
use Rattle.fc_protocol.specs.Scopes.{Scope}
use Rattle.fc_plans.specs.Components as components
use Rattle.fc_plans.specs.Mastership.{of_transaction, on_mastership, path, sets, subject_bytes}
use Rattle.fc_asks.specs.declared.life.Life.{Life}
use Rattle.fc_asks.specs.Plans.{change_at, selects_of}
use Rattle.fc_asks.specs.Tables.{found}

-- the execution mode in which all operations are done or none, and the four phases of a transaction
abbrev pub reserved : ℕ
reserved = 0

abbrev pub all_or_none : ℕ
all_or_none = 1

abbrev pub start : ℕ
start = 0

abbrev pub middle : ℕ
middle = 1

abbrev pub end : ℕ
end = 2

abbrev pub abort : ℕ
abort = 3

-- an answer is always wanted
abbrev pub flags : ℕ → Bool → ℕ → FlagValues
flags em at tp = record { ack = 3; pri = 0; em = em; at = at; tp = tp }

-- the entries of an array of numbers, with subscripts from one on
abbrev pub numbers_from : ℕ → List ℕ → List ℕ
numbers_from i [] = []
numbers_from i (n ∷ ns) = u32_bytes (i % 2 ^ 32) ++ (u32_bytes n ++ numbers_from (i + 1) ns)

-- an array in a FULLDATA of its own, whose entries take a multiple of four bytes
abbrev pub held_array : List ℕ → List ℕ
held_array bytes = 1 ∷ 18 ∷ (length bytes + 4) / 256 % 256 ∷ (length bytes + 4) % 256 ∷ bytes

-- the entries of an array of instances, class and ID of each, with subscripts from this one on
abbrev pub instances_from : ℕ → Scope → List ℕ
instances_from i [] = []
instances_from i (n ∷ ns) = u32_bytes (i % 2 ^ 32) ++ (u32_bytes n.0 ++ (u32_bytes n.1 ++ instances_from (i + 1) ns))

-- an opening: epoch, number, participants and the instances of the scope
abbrev pub opening_bytes : Txn → List ℕ → Scope → List ℕ
opening_bytes x ps sc = subject_bytes x ++ (held_array (numbers_from 1 ps) ++ held_array (instances_from 1 sc))

abbrev pub config : ℕ → ℕ → ℕ → FlagValues → List Select → Message
config ce p corr f selects = record { source = ce; dest = p; corr = corr; flags = f; body = Config selects }

abbrev pub query : ℕ → ℕ → ℕ → List PathData → Message
query ce p corr paths = record { source = ce; dest = p; corr = corr; flags = flags reserved false start; body = Query (on_mastership (oper.Paths kinds.Get paths ∷ []) ∷ []) }

-- what is asked for: an epoch, and the transactions that are held, or one record
abbrev pub asks_held : List PathData
asks_held = path (components.epoch ∷ []) None body.Nothing ∷ path (components.held ∷ []) None body.Nothing ∷ []

abbrev pub asks_record : Txn → List PathData
asks_record x = path (components.epoch ∷ []) None body.Nothing ∷ path (components.transactions ∷ []) (Some (record { ident = components.transaction_key; value = subject_bytes x })) body.Nothing ∷ []

-- the message of a life to p with this correlator
abbrev pub request_of : Life → ℕ → ℕ → Body → Message
request_of life p corr (Claim w) = config life.ce p corr (flags all_or_none false start) (on_mastership (sets components.epoch (u32_bytes w) ∷ []) ∷ [])
request_of life p corr (Sot x ps sc) = config life.ce p corr (flags all_or_none true start) (on_mastership (sets components.opening (opening_bytes x ps sc) ∷ []) ∷ [])
request_of life p corr (Mot x i) = config life.ce p corr (flags all_or_none true middle) (of_transaction x (change_at life.plans x p i))
request_of life p corr (Eot x) = config life.ce p corr (flags all_or_none true end) (on_mastership (sets components.subject (subject_bytes x) ∷ oper.Commit ∷ []) ∷ [])
request_of life p corr (Trcomp x) = config life.ce p corr (flags all_or_none true end) (on_mastership (sets components.subject (subject_bytes x) ∷ oper.Trcomp ∷ []) ∷ [])
request_of life p corr (Abt x) = config life.ce p corr (flags all_or_none true abort) (on_mastership (sets components.subject (subject_bytes x) ∷ []) ∷ [])
request_of life p corr (Floor f) = config life.ce p corr (flags all_or_none false start) (on_mastership (sets components.floor (subject_bytes f) ∷ []) ∷ [])
request_of life p corr Malformed = config life.ce p corr (flags all_or_none true start) []
request_of life p corr Plain = config life.ce p corr (flags all_or_none false start) (selects_of (found p life.plains))
request_of life p corr Ask = query life.ce p corr asks_held
request_of life p corr (Ask_record x) = query life.ce p corr (asks_record x)
