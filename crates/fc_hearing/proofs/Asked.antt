-- The answers to the two questions of a master are heard as what the protocol says, whatever a master has asked.
use Rattle.std.proofs.Common.{◌≡◌, ℕ, ◌==◌, ◌&&◌, Bool, true, false, if◌then◌else◌, None, refl, ap, ap₂, ◌∙◌}
use Rattle.fc_asks.specs.Queries.{epoch_in, full_of, held_meaning, query_meaning, record_bodies, record_meaning}
use Rattle.fc_asks.specs.Requests.{request_of}
use Rattle.fc_base.specs.Ids.{Txn}
use Rattle.fc_element.specs.ElementMachine.{answer_with, id_of}
use Rattle.fc_element.specs.ElementState.{ElementState}
use Rattle.fc_lfbs.specs.Kinds.{transaction_type, transactions_type}
use Rattle.fc_msg.specs.declared.message.Message.{Message}
use Rattle.fc_msg.specs.declared.message.MsgBody.TheVariants.{QueryResponse}
use Rattle.fc_ops.specs.Filling.{content_body}
use Rattle.fc_path.specs.declared.path.Body.TheVariants as body
use Rattle.fc_protocol.specs.Messages.{Ask, Ask_record, Holds, Stamp, Tells, Unread, same, stamp}
use Rattle.fc_protocol.specs.Records.{listed, seen, state_of}
use Rattle.fc_transactions.specs.State.{TransactionState}
use Rattle.fc_wire.specs.Bytes.{u32_at, u32_bytes}
use Rattle.fc_querying.specs.Asking.{IsAskable, IsTxn, answer_to, held_query, record_query}
use Rattle.fc_querying.proofs.Answered.{held_answered, held_leaves, record_answered, record_leaves}
use Rattle.fc_querying.proofs.Records.{back_at, epoch_small, front_at, name_of}
use Rattle.fc_querying.proofs.Sent.{held_at_once, record_at_once}
use Rattle.fc_hearing.specs.Hearing.{HeldIsHeard, IsHeardAs, RecordsAreHeard}
use Rattle.fc_hearing.proofs.Waiting.{held_heard, record_heard}

-- ---- an answer does not read where something else was asked

-- whether the name of a transaction is that of another one
names_is : (x y : Txn) → IsTxn x → (true && ((u32_at (name_of x) 0 == y.epoch) && (u32_at (name_of x) 4 == y.number))) ≡ same x y
names_is x y t = ap₂ (λ (a b : ℕ). (a == y.epoch) && (b == y.number)) (front_at x.epoch x.number (epoch_small x t.name)) (back_at x.epoch x.number t.number)

record_for_held : (s : TransactionState) (y : Txn) (m : Stamp) → IsAskable s → query_meaning (Ask_record y) m (answer_to s held_query) ≡ Unread m None
record_for_held s y m is = ap (record_meaning transaction_type y m) (held_leaves s is)

held_for_record : (s : TransactionState) (x : Txn) (m : Stamp) → IsAskable s → IsTxn x → query_meaning Ask m (answer_to s (record_query x)) ≡ Unread m None
held_for_record s x m is t = let (c, leaves) = record_leaves s x is t in ap (held_meaning transactions_type m) leaves

other_record : (s : TransactionState) (x y : Txn) (m : Stamp) → IsAskable s → IsTxn x → same x y ≡ false → query_meaning (Ask_record y) m (answer_to s (record_query x)) ≡ Unread m None
other_record s x y m is t e =
    let (c, leaves) = record_leaves s x is t in
    ap (record_meaning transaction_type y m) leaves
    ∙ ap (λ (b : Bool). if b then record_bodies transaction_type m y (epoch_in (full_of (body.Full (u32_bytes s.epoch)))) (content_body c) else Unread m None) (names_is x y t ∙ e)

-- ---- the answers

pub held_is_heard : (s : TransactionState) (m : Message) → IsAskable s → IsHeardAs (answer_with m (QueryResponse (answer_to s held_query))) (Holds (stamp m.corr) s.epoch (listed s.ledger.records.entries))
held_is_heard s m is = record {
  core = λ c p. held_heard c p (stamp m.corr) (answer_to s held_query) s.epoch (listed s.ledger.records.entries) (held_answered s (stamp m.corr) is) (λ y. record_for_held s y (stamp m.corr) is);
  wish = refl;
  calm = λ e life c p. refl;
  silent = λ e k c p. refl;
}

pub record_is_heard : (s : TransactionState) (x : Txn) (m : Message) → IsAskable s → IsTxn x
    → IsHeardAs (answer_with m (QueryResponse (answer_to s (record_query x)))) (Tells (stamp m.corr) x s.epoch (seen (state_of x s.ledger.records.entries)))
record_is_heard s x m is t = record {
  core = λ c p. record_heard c p (stamp m.corr) (answer_to s (record_query x)) x s.epoch (seen (state_of x s.ledger.records.entries)) (record_answered s x (stamp m.corr) is t) (held_for_record s x (stamp m.corr) is t) (λ y. other_record s x y (stamp m.corr) is t);
  wish = refl;
  calm = λ e life c p. refl;
  silent = λ e k c p. refl;
}

-- ---- they are sent

pub held_answers : (s : ElementState) → IsAskable s.transactions → HeldIsHeard s
held_answers s is peer corr life a =
    let m = request_of life (id_of s) corr Ask in
    let sent = held_at_once s peer corr life a in
    record { answer = answer_with m (QueryResponse (answer_to s.transactions held_query)); outs = sent.0; stays = sent.1; heard = held_is_heard s.transactions m is; said = refl }

pub record_answers : (s : ElementState) → IsAskable s.transactions → RecordsAreHeard s
record_answers s is peer corr life x a named =
    let m = request_of life (id_of s) corr (Ask_record x) in
    let sent = record_at_once s peer corr life x a in
    record { answer = answer_with m (QueryResponse (answer_to s.transactions (record_query x))); outs = sent.0; stays = sent.1; heard = record_is_heard s.transactions x m is named; said = refl }
