-- What the answer to a Query says, by what was asked: it mirrors the leaves that were asked, each a GET-RESPONSE. This profile's own, over RFC 5810, section 7.7.
use Rattle.std.specs.Prelude.{ℕ, ◌&&◌, ◌==◌, if◌then◌else◌, Bool, true, false, List, [], ◌∷◌, length, Option, Some, None, option_and_then}
use Rattle.std.specs.List.{flat_map}
use Rattle.fc_base.specs.Ids.{Txn}
use Rattle.fc_lfbs.specs.Kinds.{transaction_type, transactions_type}
use Rattle.fc_wire.specs.Bytes.{u32_at}
use Rattle.fc_types.specs.declared.ty.Ty.{Ty}
use Rattle.fc_path.specs.declared.oper.OperKind.{OperKind}
use Rattle.fc_path.specs.declared.oper.OperKind.TheVariants as kinds
use Rattle.fc_path.specs.declared.oper.Leaf.{Leaf}
use Rattle.fc_path.specs.declared.oper.Select.{Select}
use Rattle.fc_path.specs.declared.oper.Step.{Step}
use Rattle.fc_path.specs.declared.oper.Step.TheVariants as step
use Rattle.fc_path.specs.declared.path.PathData.{PathData}
use Rattle.fc_path.specs.declared.path.Body.{Body, out-Body}
use Rattle.fc_path.specs.declared.path.Body.TheOpen.{Body-F}
use Rattle.fc_path.specs.Leaves.{select_leaves}
use Rattle.fc_protocol.specs.Codes.{not_found}
use Rattle.fc_protocol.specs.Messages.{Body as Asked, Claim, Sot, Mot, Eot, Trcomp, Abt, Floor, Malformed, Plain, Ask, Ask_record, Message, Stamp, Holds, Tells, Unread}
use Rattle.fc_protocol.specs.declared.answers.TxnEntry.{TxnEntry}
use Rattle.fc_protocol.specs.declared.states.Seen.{Seen}
use Rattle.fc_protocol.specs.declared.states.Seen.TheVariants.{Absent}
use Rattle.fc_asks.specs.Holdings.{held_by, entry_of_type, seen_in}
use Rattle.fc_plans.specs.Components as components
use Rattle.fc_asks.specs.declared.queries.HeldAnswer.{HeldAnswer}
use Rattle.fc_asks.specs.declared.queries.HeldAnswer.TheVariants as held_answer
use Rattle.fc_asks.specs.declared.queries.RecordAnswer.{RecordAnswer}
use Rattle.fc_asks.specs.declared.queries.RecordAnswer.TheVariants as record_answer

abbrev pub is_answer : OperKind → Bool
is_answer kinds.Set = false
is_answer kinds.SetProp = false
is_answer kinds.Del = false
is_answer kinds.SetResponse = false
is_answer kinds.SetPropResponse = false
is_answer kinds.DelResponse = false
is_answer kinds.Get = false
is_answer kinds.GetProp = false
is_answer kinds.GetResponse = true
is_answer kinds.GetPropResponse = false
is_answer kinds.Report = false

abbrev pub is_id : ℕ → Step → Bool
is_id n (step.Id i) = i == n
is_id n (step.Key k v) = false

abbrev pub at_id : ℕ → List Step → Bool
at_id n (s ∷ []) = is_id n s
at_id n _ = false

-- the answer to a GET in the instance 1 of Mastership
abbrev pub is_of_mastership : Leaf → Bool
is_of_mastership l = is_answer l.kind && (l.spot.class == components.mastership && l.spot.instance == 1)

-- the answer to a GET of this component of it
abbrev pub mirrors : ℕ → Leaf → Bool
mirrors n l = is_of_mastership l && at_id n l.spot.steps

-- whether a key's value names the transaction: its epoch, and its number
abbrev pub names : Txn → List ℕ → Bool
names x value = length value == 8 && (u32_at value 0 == x.epoch && u32_at value 4 == x.number)

abbrev pub is_key : Txn → Step → Bool
is_key x (step.Id i) = false
is_key x (step.Key k value) = k == components.transaction_key && names x value

abbrev pub at_record : Txn → List Step → Bool
at_record x (s ∷ t ∷ []) = is_id components.transactions s && is_key x t
at_record x _ = false

-- the answer to a GET of the record of a transaction
abbrev pub mirrors_record : Txn → Leaf → Bool
mirrors_record x l = is_of_mastership l && at_record x l.spot.steps

abbrev pub full_layer : Body-F Body PathData → Option (List ℕ)
full_layer Body-F.Nothing = None
full_layer (Body-F.Full b) = Some b
full_layer (Body-F.Sparse ilvs) = None
full_layer (Body-F.Outcome c) = None
full_layer (Body-F.Nested ps) = None

abbrev pub full_of : Body → Option (List ℕ)
full_of b = full_layer (out-Body b)

abbrev pub epoch_in : Option (List ℕ) → Option ℕ
epoch_in None = None
epoch_in (Some b) = if length b == 4 then Some (u32_at b 0) else None

abbrev pub holds : Stamp → ℕ → Option (List TxnEntry) → Message
holds s e None = Unread s (Some e)
holds s e (Some ns) = Holds s e ns

abbrev pub held_bodies : Ty → Stamp → Option ℕ → Option (List ℕ) → Message
held_bodies ty s None b = Unread s None
held_bodies ty s (Some e) b = holds s e (option_and_then (held_by ty) b)

-- the answer to an ask
abbrev pub held_meaning : Ty → Stamp → List Leaf → Message
held_meaning ty s (a ∷ b ∷ []) = if mirrors components.epoch a && mirrors components.held b then held_bodies ty s (epoch_in (full_of a.body)) (full_of b.body) else Unread s None
held_meaning ty s _ = Unread s None

-- what the body of a leaf says of a record: its state, or that there is none
abbrev pub record_layer : Ty → Body-F Body PathData → Option Seen
record_layer ty Body-F.Nothing = None
record_layer ty (Body-F.Full b) = seen_in (entry_of_type ty b)
record_layer ty (Body-F.Sparse ilvs) = None
record_layer ty (Body-F.Outcome c) = if c == not_found then Some Absent else None
record_layer ty (Body-F.Nested ps) = None

abbrev pub record_in : Ty → Body → Option Seen
record_in ty b = record_layer ty (out-Body b)

abbrev pub tells : Stamp → Txn → ℕ → Option Seen → Message
tells s x e None = Unread s (Some e)
tells s x e (Some t) = Tells s x e t

abbrev pub record_bodies : Ty → Stamp → Txn → Option ℕ → Body → Message
record_bodies ty s x None b = Unread s None
record_bodies ty s x (Some e) b = tells s x e (record_in ty b)

-- the answer to a record ask
abbrev pub record_meaning : Ty → Txn → Stamp → List Leaf → Message
record_meaning ty x s (a ∷ b ∷ []) = if mirrors components.epoch a && mirrors_record x b then record_bodies ty s x (epoch_in (full_of a.body)) b.body else Unread s None
record_meaning ty x s _ = Unread s None

-- what an answer with these leaves says, where this was asked; a Config asks for nothing that could be read
abbrev pub leaves_meaning : Asked → Stamp → List Leaf → Message
leaves_meaning (Claim w) s ls = Unread s None
leaves_meaning (Sot x ps sc) s ls = Unread s None
leaves_meaning (Mot x i) s ls = Unread s None
leaves_meaning (Eot x) s ls = Unread s None
leaves_meaning (Trcomp x) s ls = Unread s None
leaves_meaning (Abt x) s ls = Unread s None
leaves_meaning (Floor f) s ls = Unread s None
leaves_meaning Malformed s ls = Unread s None
leaves_meaning Plain s ls = Unread s None
leaves_meaning Ask s ls = held_meaning transactions_type s ls
leaves_meaning (Ask_record x) s ls = record_meaning transaction_type x s ls

abbrev pub query_meaning : Asked → Stamp → List Select → Message
query_meaning b s selects = leaves_meaning b s (flat_map select_leaves selects)

-- what was read, as the message that it is
abbrev pub held_told : Stamp → HeldAnswer → Message
held_told s (held_answer.Held e ns) = Holds s e ns
held_told s (held_answer.Unread e) = Unread s e

abbrev pub record_told : Stamp → Txn → RecordAnswer → Message
record_told s x (record_answer.Record e t) = Tells s x e t
record_told s x (record_answer.Unread e) = Unread s e
