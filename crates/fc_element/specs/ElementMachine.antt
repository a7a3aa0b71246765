-- What an element does with what comes: RFC 5810, sections 4.4 and 7.5 on associations, 7.6 on configuration, 7.7 on queries and 7.10 on
-- heartbeats, and 7.8 on events. What a Config does there is said in fc_transactions; which Configs come to that, with which codes the others
-- are answered, and who is told that the primary control element is gone, is this profile's own.
use Rattle.std.specs.Prelude.{◌≡◌, ℕ, ◌-◌, ◌/◌, ◌%◌, ◌^◌, ◌==◌, ◌&&◌, not, nat_lt, max, Bool, true, false, if◌then◌else◌, List, [], ◌∷◌, ◌++◌, map}
use Rattle.std.specs.FinMap.{contains_key, entries, remove, len}
use Rattle.std.specs.List.{flat_map}
use Rattle.fc_assoc.specs.Associations.{AssociationMap, entered, renewed, still_heard}
use Rattle.fc_blocks.specs.Queries.{foreign_selects, told_selects}
use Rattle.fc_blocks.specs.Settings.{ce_policy, ce_dead, fe_policy, fe_interval}
use Rattle.fc_exec.specs.declared.operations.Operation.{Operation}
use Rattle.fc_lfbs.specs.LiveValues.{told_value}
use Rattle.fc_machine.specs.Trace.{Fact}
use Rattle.fc_msg.specs.Messages.{IsProper, message_fits}
use Rattle.fc_msg.specs.declared.message.Message.{Message}
use Rattle.fc_msg.specs.declared.message.MsgBody.{MsgBody}
use Rattle.fc_msg.specs.declared.message.MsgBody.TheVariants.{Setup, SetupResponse, Teardown, Config, ConfigResponse, Query, QueryResponse, Event, Heartbeat}
use Rattle.fc_path.specs.Results.{results_fit}
use Rattle.fc_path.specs.declared.oper.Select.{Select}
use Rattle.fc_performing.specs.Sending.{asking, out, responses}
use Rattle.fc_performing.specs.declared.out.Out.{Out}
use Rattle.fc_reply.specs.Counting.{each_gets}
use Rattle.fc_reply.specs.Replies.{reply}
use Rattle.fc_store.specs.Stores.{Stored}
use Rattle.fc_transactions.specs.Order.{Step, configured}
use Rattle.fc_transactions.specs.State.{TransactionState}
use Rattle.fc_transactions.specs.declared.ledger.Ledger.{Ledger}
use Rattle.fc_element.specs.declared.input.ElIn.{ElIn}
use Rattle.fc_element.specs.declared.input.ElIn.TheVariants.{Opened, Arrived, Closed, Moment}
use Rattle.fc_element.specs.ElementState.{ElementState, settled_store, told_of}
use Rattle.fc_element.specs.Notices.{down_to, peers_of}

-- what the element is after an input, what it sends, in this order, and what has happened to what Configs may change, the newest first
pub record Turn : Type 0 where
  pub state : ElementState
  pub outs : List Out
  pub facts : List (Fact Operation)

abbrev pub turn : ElementState → List Out → Turn
turn s outs = record { state = s; outs = outs; facts = [] }

-- the element asks whoever stands at the other end, by the ID of all control elements, to be associated
abbrev pub setup_of : ℕ → Message
setup_of id = record { source = id; dest = 4294967293; corr = 0; flags = asking 3; body = Setup [] }

-- a heartbeat to a control element
abbrev pub heartbeat_of : ℕ → ℕ → Message
heartbeat_of id ce = record { source = id; dest = ce; corr = 0; flags = asking 0; body = Heartbeat }

-- an answer: the IDs exchanged, the same correlator
abbrev pub answer_with : Message → MsgBody → Message
answer_with m body = record { source = m.dest; dest = m.source; corr = m.corr; flags = asking 0; body = body }

-- the answer to a heartbeat
abbrev pub answer_to : Message → Message
answer_to m = answer_with m Heartbeat

-- ---- parts of the state
abbrev pub id_of : ElementState → ℕ
id_of s = s.transactions.id

-- the control element that may configure the element
abbrev pub ce_of : ElementState → ℕ
ce_of s = s.transactions.ce

abbrev pub ledger_of : ElementState → Ledger
ledger_of s = s.transactions.ledger

-- the settled configuration
abbrev pub settled_in : ElementState → Stored
settled_in s = settled_store s.transactions.ledger

-- the state with other associations, and with other parts that Configs change
abbrev pub with_associations : ElementState → AssociationMap → ElementState
with_associations s m = record { transactions = s.transactions; associations = m; clock = s.clock; last_beat = s.last_beat }

abbrev pub with_transactions : ElementState → TransactionState → ElementState
with_transactions s t = record { transactions = t; associations = s.associations; clock = s.clock; last_beat = s.last_beat }

-- the control element that a message comes from was heard
abbrev pub hearing : ElementState → ℕ → Message → ElementState
hearing s peer m = with_associations s (renewed s.associations m.source peer s.clock)

abbrev pub is_associated : ElementState → Message → Bool
is_associated s m = contains_key s.associations m.source

-- the message is for this element
abbrev pub is_own : ElementState → Message → Bool
is_own s m = m.dest == id_of s

-- the number is a control element's ID
abbrev pub is_ce : ℕ → Bool
is_ce n = n / 2 ^ 30 == 1 && not (n % 256 == 0)

-- ---- heartbeats
-- a heartbeat renews an association, and is answered where it asks for that
abbrev pub on_heartbeat : ElementState → ℕ → Message → Turn
on_heartbeat s peer m =
    turn (hearing s peer m) (if is_associated s m && m.flags.ack == 3 then out peer (answer_to m) ∷ [] else [])

-- ---- queries
-- the selects of the answer, by the working configuration, in which the changes of all held transactions stand
abbrev pub query_selects : ElementState → Message → List Select → List Select
query_selects s m selects =
    if is_own s m then told_selects (told_value (told_of s.transactions)) (ledger_of s).store (ledger_of s).subscriptions selects
    else foreign_selects selects

abbrev pub query_answer : ElementState → Message → List Select → Message
query_answer s m selects = answer_with m (QueryResponse (query_selects s m selects))

-- it is answered whatever acknowledgement it asks for, but where results alone pass a length field
abbrev pub query_outs : ElementState → ℕ → Message → List Select → List Out
query_outs s peer m selects = if results_fit selects then out peer (query_answer s m selects) ∷ [] else []

abbrev pub on_query : ElementState → ℕ → Message → List Select → Turn
on_query s peer m selects = if is_associated s m then turn (hearing s peer m) (query_outs s peer m selects) else turn s []

-- ---- configuration
-- all operations get one code, and nothing is done
abbrev pub all_get : ElementState → ℕ → Message → List Select → ℕ → Turn
all_get s peer m selects code = turn s (responses peer (reply m selects (each_gets code selects)))

-- the control element counts as heard, or not
abbrev pub hearing_if : Bool → ElementState → ℕ → Message → ElementState
hearing_if true s peer m = hearing s peer m
hearing_if false s peer m = s

-- what Configs change is as this step leaves it
abbrev pub taking : ElementState → ℕ → Message → Step → Turn
taking s peer m t = record { state = hearing_if t.is_heard (with_transactions s t.state) peer m; outs = t.outs; facts = t.facts }

-- what can't be answered, or comes for another element, or has no execution mode, does not renew the association
abbrev pub by_order : ElementState → ℕ → Message → List Select → Turn
by_order s peer m selects =
    if not (results_fit selects && message_fits m) then turn s []
    else (if not (is_own s m) then all_get s peer m selects 4
    else (if m.flags.em == 0 then all_get s peer m selects 18
    else taking s peer m (configured s.transactions peer m selects)))

abbrev pub on_config : ElementState → ℕ → Message → List Select → Turn
on_config s peer m selects = if is_associated s m then by_order s peer m selects else turn s []

-- ---- the primary control element is gone
-- its association is not among those that remain
abbrev pub has_lost : ElementState → AssociationMap → Bool
has_lost s remaining = is_ce (ce_of s) && (contains_key s.associations (ce_of s) && not (contains_key remaining (ce_of s)))

-- what those are told that remain, by rising ID
abbrev pub down_outs : ElementState → AssociationMap → List Out
down_outs s remaining =
    if has_lost s remaining then flat_map (down_to (id_of s) (ledger_of s).store.library (ledger_of s).subscriptions) (peers_of remaining) else []

-- associations have ended, and these remain
abbrev pub leaving : ElementState → AssociationMap → Turn
leaving s remaining = turn (with_associations s remaining) (down_outs s remaining)

-- ---- messages
-- An accepted association to this element is entered or renewed; a heartbeat, a query or a Config renews one, and a teardown ends one.
-- Everything else is ignored, as is all that comes from a control element without an association.
abbrev pub on_body : ElementState → ℕ → Message → MsgBody → Turn
on_body s peer m (Setup selects) = turn s []
on_body s peer m (SetupResponse result) =
    if is_own s m && result == 0 then turn (with_associations s (entered s.associations m.source peer s.clock)) [] else turn s []
on_body s peer m (Teardown reason) = leaving s (remove s.associations m.source)
on_body s peer m (Config selects) = on_config s peer m selects
on_body s peer m (ConfigResponse selects) = turn s []
on_body s peer m (Query selects) = on_query s peer m selects
on_body s peer m (QueryResponse selects) = turn s []
on_body s peer m (Event selects) = turn s []
on_body s peer m Heartbeat = on_heartbeat s peer m

-- what comes from no control element is ignored
abbrev pub on_message : ElementState → ℕ → Message → Turn
on_message s peer m = if is_ce m.source then on_body s peer m m.body else turn s []

-- ---- moments
-- the moment never goes back
abbrev pub moved_on : ElementState → ℕ → ElementState
moved_on s moment = record { transactions = s.transactions; associations = s.associations; clock = max s.clock moment; last_beat = s.last_beat }

-- the associations that remain: those that are silent for too long end, where the settled configuration has it that the element watches them
abbrev pub remaining_of : ElementState → ℕ → AssociationMap
remaining_of s now = if ce_policy (settled_in s) == 0 then still_heard s.associations now (ce_dead (settled_in s)) else s.associations

abbrev pub watched : ElementState → ElementState
watched s = with_associations s (remaining_of s s.clock)

-- whether heartbeats are due: by the settled configuration the element sends them, and long enough has passed since the last; and someone
-- is there
abbrev pub is_due : ElementState → Bool
is_due s =
    fe_policy (settled_in s) == 1 && (not (nat_lt (s.clock - s.last_beat) (fe_interval (settled_in s))) && not (len s.associations == 0))

-- a heartbeat to each association, by rising ID
abbrev pub beats_of : ℕ → AssociationMap → List Out
beats_of id m = map (λ pair. out pair.1.peer (heartbeat_of id pair.0)) (entries m)

abbrev pub beaten : ElementState → ElementState
beaten s = record { transactions = s.transactions; associations = s.associations; clock = s.clock; last_beat = s.clock }

abbrev pub beating : ElementState → Turn
beating s = if is_due s then turn (beaten s) (beats_of (id_of s) s.associations) else turn s []

abbrev pub in_front : List Out → Turn → Turn
in_front outs t = record { state = t.state; outs = outs ++ t.outs; facts = t.facts }

-- associations end, with what is told of that, and then heartbeats go out
abbrev pub on_moment : ElementState → Turn
on_moment s = in_front (down_outs s (watched s).associations) (beating (watched s))

-- ---- one input
unfoldable pub step : ElementState → ElIn → Turn
step s (Opened peer) = turn s (out peer (setup_of (id_of s)) ∷ [])
step s (Arrived peer m) = on_message s peer m
step s (Closed peer) = turn s []
step s (Moment moment) = on_moment (moved_on s moment)

-- a message that comes is one that the grammar has
abbrev pub IsProperIn : ElIn → Type 0
IsProperIn (Opened peer) = Unit {0}
IsProperIn (Arrived peer m) = IsProper m
IsProperIn (Closed peer) = Unit {0}
IsProperIn (Moment moment) = Unit {0}
