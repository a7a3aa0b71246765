-- What an element sends can be encoded.
use Rattle.std.proofs.Common.{◌≡◌, ℕ, ◌&&◌, ◌==◌, nat_lt, Bool, true, false, cond, if◌then◌else◌, List, [], ◌∷◌, length, map, refl, subst, sym, ◌∙◌, Option, Some, Result, Ok, Err}
use Rattle.std.specs.List.{AllByRecursion, list_all}
use Rattle.std.specs.Prelude.{IfOk}
use Rattle.std.specs.FinMap.{entries, remove}
use Rattle.fc_base.specs.declared.faults.Memory.{Memory}
use Rattle.fc_assoc.specs.Associations.{AssociationMap}
use Rattle.fc_assoc.specs.declared.heard.Heard.{Heard}
use Rattle.fc_lfbs.specs.LiveValues.{told_value}
use Rattle.fc_msg.specs.Messages.{IsProper, ProperMsgBody, ProperSelects, message_fits}
use Rattle.fc_ops.specs.Answering.{is_queried}
use Rattle.fc_ops.specs.Asking.{contents_of, questions}
use Rattle.fc_ops.proofs.Counts.{query_counts}
use Rattle.fc_ops.proofs.Responses.{answers_fit}
use Rattle.fc_path.specs.Canon.{joined, select_written}
use Rattle.fc_path.specs.Results.{results_fit}
use Rattle.fc_path.specs.declared.oper.Select.{Select}
use Rattle.fc_reply.specs.Counting.{each_gets}
use Rattle.fc_reply.proofs.Fitting.{answered_fit, reply_fits}
use Rattle.fc_msg.specs.declared.message.Message.{Message}
use Rattle.fc_msg.specs.declared.message.MsgBody.{MsgBody}
use Rattle.fc_msg.specs.declared.message.MsgBody.TheVariants.{Setup, SetupResponse, Teardown, Config, ConfigResponse, Query, QueryResponse, Event, Heartbeat}
use Rattle.fc_element.specs.declared.input.ElIn.{ElIn}
use Rattle.fc_element.specs.declared.input.ElIn.TheVariants.{Opened, Arrived, Closed, Moment}
use Rattle.fc_performing.specs.Notices.{route}
use Rattle.fc_performing.specs.Sending.{CanBeSent, IsAnswer, out}
use Rattle.fc_performing.specs.declared.out.Out.{Out}
use Rattle.fc_element.specs.ElementState.{ElementState, told_of}
use Rattle.fc_element.specs.ElementMachine.{IsProperIn, Turn, answer_to, answer_with, beaten, beating, beats_of, by_order, down_outs, hearing, heartbeat_of, id_of, is_associated, is_ce, is_due, is_own, ledger_of, moved_on, on_body, on_message, on_moment, query_answer, setup_of, step, turn, watched}
use Rattle.fc_element.proofs.Configs.{config_all}
use Rattle.fc_element.proofs.Telling.{all_append, downs_all, notices_all}
use Rattle.fc_blocks.proofs.Asked.{all_asked}
use Rattle.fc_blocks.specs.Queries.{foreign_selects, props_of, told_selects}

abbrev Fit : Turn → Type 0
Fit t = AllByRecursion CanBeSent t.outs

setup_fits : (id : ℕ) → message_fits (setup_of id) ≡ true
unfolding message_fits
setup_fits id = refl

heartbeat_fits : (id ce : ℕ) → message_fits (heartbeat_of id ce) ≡ true
unfolding message_fits
heartbeat_fits id ce = refl

answer_fits : (m : Message) → message_fits (answer_to m) ≡ true
unfolding message_fits
answer_fits m = refl

beats_fit : (id : ℕ) (pairs : List (ℕ × Heard)) → AllByRecursion CanBeSent (map (λ (pair : ℕ × Heard). out pair.1.peer (heartbeat_of id pair.0)) pairs)
beats_fit id [] = tt
beats_fit id (pair ∷ pairs) = (heartbeat_fits id pair.0, beats_fit id pairs)

beating_fits : (s : ElementState) → Fit (beating s)
beating_fits s = by_due (is_due s)
  where
    by_due : (b : Bool) → Fit (if b then turn (beaten s) (beats_of (id_of s) s.associations) else turn s [])
    by_due true = beats_fit (id_of s) (entries s.associations)
    by_due false = tt

answered_fits : (b : Bool) (peer : ℕ) (m : Message) → AllByRecursion CanBeSent (if b then out peer (answer_to m) ∷ [] else [])
answered_fits true peer m = (answer_fits m, tt)
answered_fits false peer m = tt

entered_fits : (b : Bool) (s t : ElementState) → Fit (if b then turn s [] else turn t [])
entered_fits true s t = tt
entered_fits false s t = tt

-- ---- queries
pub is_asked : (m : Message) (selects : List Select) → IsProper m → m.body ≡ Query selects → list_all is_queried selects ≡ true
is_asked m selects p b = let body : ProperSelects 4 selects = subst ProperMsgBody b p.body in all_asked selects body.1

query_fits : (m : Message) (selects : List Select) → message_fits (answer_with m (QueryResponse selects)) ≡ (nat_lt (length (joined (map select_written selects)).text) 262117 && (joined (map select_written selects)).fits)
unfolding message_fits
query_fits m selects = refl

told_fits : (s : ElementState) (m : Message) (selects : List Select) → IsProper m → m.body ≡ Query selects → results_fit selects ≡ true
    → message_fits (answer_with m (QueryResponse (told_selects (told_value (told_of s.transactions)) (ledger_of s).store (ledger_of s).subscriptions selects))) ≡ true
told_fits s m selects p b f =
    query_fits m (told_selects (told_value (told_of s.transactions)) (ledger_of s).store (ledger_of s).subscriptions selects)
    ∙ answers_fit selects (contents_of (told_value (told_of s.transactions)) (ledger_of s).store (props_of (told_value (told_of s.transactions)) (ledger_of s).store (ledger_of s).subscriptions (questions selects)) (questions selects)) (is_asked m selects p b) f
    (query_counts (told_value (told_of s.transactions)) (ledger_of s).store (props_of (told_value (told_of s.transactions)) (ledger_of s).store (ledger_of s).subscriptions (questions selects)) selects)

foreign_fits : (m : Message) (selects : List Select) → results_fit selects ≡ true → message_fits (answer_with m (QueryResponse (foreign_selects selects))) ≡ true
foreign_fits m selects f = query_fits m (foreign_selects selects) ∙ answered_fit selects (each_gets 4 selects) f

answer_is : (s : ElementState) (m : Message) (selects : List Select) (own : Bool) → IsProper m → m.body ≡ Query selects → results_fit selects ≡ true
    → message_fits (answer_with m (QueryResponse (cond own (told_selects (told_value (told_of s.transactions)) (ledger_of s).store (ledger_of s).subscriptions selects) (foreign_selects selects)))) ≡ true
answer_is s m selects true p b f = told_fits s m selects p b f
answer_is s m selects false p b f = foreign_fits m selects f

query_taken_fits : (s : ElementState) (peer : ℕ) (m : Message) (selects : List Select) (a b : Bool) → IsProper m → m.body ≡ Query selects → results_fit selects ≡ b
    → Fit (cond a (turn (hearing s peer m) (cond b (out peer (query_answer s m selects) ∷ []) [])) (turn s []))
query_taken_fits s peer m selects true true p b f = (answer_is s m selects (is_own s m) p b f, tt)
query_taken_fits s peer m selects true false p b f = tt
query_taken_fits s peer m selects false c p b f = tt

-- ---- Configs
answer_in : (o : Option Message) (r : Message) → IsAnswer o → o ≡ Some r → message_fits r ≡ true
answer_in o r k e = (subst IsAnswer e k).1

config_fits : (s : ElementState) → IsAnswer s.transactions.kept → (peer : ℕ) (m : Message) (selects : List Select) (a : Bool) → is_associated s m ≡ a → Fit (cond a (by_order s peer m selects) (turn s []))
config_fits s k peer m selects a known =
    config_all CanBeSent s peer m selects (λ codes r known fits e. reply_fits m r selects codes fits e) (λ r known own e. answer_in s.transactions.kept r k e)
    (λ d known own e. notices_all CanBeSent d.ledger.store.library (route (id_of s) m.source peer) d.notices (λ n front back f fits. fits))
    a known

-- ---- associations that end
downs_fit : (s : ElementState) (remaining : AssociationMap) → AllByRecursion CanBeSent (down_outs s remaining)
downs_fit s remaining = downs_all CanBeSent s remaining (λ ce h n front back e lost k fits. fits)

moment_fits : (s : ElementState) → Fit (on_moment s)
moment_fits s = all_append CanBeSent (down_outs s (watched s).associations) (beating (watched s)).outs (downs_fit s (watched s).associations) (beating_fits (watched s))

body_fits : (s : ElementState) → IsAnswer s.transactions.kept → (peer : ℕ) (m : Message) → IsProper m → (body : MsgBody) → m.body ≡ body → Fit (on_body s peer m body)
body_fits s k peer m p (Setup selects) e = tt
body_fits s k peer m p (SetupResponse result) e = entered_fits (is_own s m && result == 0) _ _
body_fits s k peer m p (Teardown reason) e = downs_fit s (remove s.associations m.source)
body_fits s k peer m p (Config selects) e = config_fits s k peer m selects (is_associated s m) refl
body_fits s k peer m p (ConfigResponse selects) e = tt
body_fits s k peer m p (Query selects) e = query_taken_fits s peer m selects (is_associated s m) (results_fit selects) p e refl
body_fits s k peer m p (QueryResponse selects) e = tt
body_fits s k peer m p (Event selects) e = tt
body_fits s k peer m p Heartbeat e = answered_fits (is_associated s m && m.flags.ack == 3) peer m

message_taken_fits : (s : ElementState) → IsAnswer s.transactions.kept → (peer : ℕ) (m : Message) → IsProper m → Fit (on_message s peer m)
message_taken_fits s k peer m p = by_sender (is_ce m.source)
  where
    by_sender : (b : Bool) → Fit (if b then on_body s peer m m.body else turn s [])
    by_sender true = body_fits s k peer m p m.body refl
    by_sender false = tt

-- whatever comes that the grammar has, all that the element sends can be encoded
pub step_fits : (s : ElementState) → IsAnswer s.transactions.kept → (input : ElIn) → IsProperIn input → Fit (step s input)
unfolding step
step_fits s k (Opened peer) p = (setup_fits (id_of s), tt)
step_fits s k (Arrived peer m) p = message_taken_fits s k peer m p
step_fits s k (Closed peer) p = tt
step_fits s k (Moment moment) p = moment_fits (moved_on s moment)

-- so can what a call gives that gives what the machine sends
pub given_fits : (s : ElementState) → IsAnswer s.transactions.kept → (input : ElIn) (r : Result (List Out) Memory) → IsProperIn input → IfOk r (λ outs. outs ≡ (step s input).outs) → IfOk r (λ outs. AllByRecursion CanBeSent outs)
given_fits s k input (Ok outs) p same = subst (AllByRecursion CanBeSent) (sym same) (step_fits s k input p)
given_fits s k input (Err e) p same = tt
