-- What an element answers to the questions of a master, and what the master reads.
use Rattle.std.proofs.Common.{◌≡◌, ℕ, ◌^◌, ◌<◌, ◌==◌, ◌&&◌, Bool, true, if◌then◌else◌, List, [], ◌∷◌, map, Option, Some, None, option_and_then, Result, Ok, refl, sym, ap, ap₂, ◌∙◌, arith, rules}
use Rattle.std.specs.List.{filter, flat_map}
use Rattle.fc_querying.specs.Mastership.{HasMastership}
use Rattle.fc_asks.specs.Holdings.{entry_read, held_by, held_read, seen_in, seen_of}
use Rattle.fc_asks.specs.Queries.{epoch_in, full_layer, full_of, held_bodies, held_meaning, holds, query_meaning, record_bodies, record_in, record_layer, record_meaning, tells}
use Rattle.fc_base.specs.Ids.{Txn}
use Rattle.fc_element.specs.ElementState.{told_of, told_txn}
use Rattle.fc_lfbs.specs.Kinds as kinds
use Rattle.fc_lfbs.specs.Kinds.{transaction_type, transactions_type}
use Rattle.fc_lfbs.specs.LiveValues as live
use Rattle.fc_lfbs.specs.LiveValues.{table, told_value, transaction}
use Rattle.fc_ops.specs.Asking.{in_full, seen_now, value_content}
use Rattle.fc_ops.specs.Filling.{content_body}
use Rattle.fc_ops.specs.declared.offers.Content.{Content}
use Rattle.fc_ops.specs.declared.offers.Content.TheVariants as content
use Rattle.fc_path.specs.Leaves.{select_leaves}
use Rattle.fc_path.specs.declared.oper.Select.{Select}
use Rattle.fc_path.specs.declared.path.Body.{out-Body, the_lemmas}
use Rattle.fc_path.specs.declared.path.Body.TheOpen.{Body-F}
use Rattle.fc_path.specs.declared.path.Body.TheVariants as body
use Rattle.fc_path.specs.declared.path.Key.{Key}
use Rattle.fc_plans.specs.Components as components
use Rattle.fc_protocol.specs.Messages.{Stamp, Ask, Ask_record, Holds, Tells, Unread}
use Rattle.fc_protocol.specs.Records.{held, listed, seen, state_of}
use Rattle.fc_protocol.specs.declared.answers.TxnEntry.{TxnEntry}
use Rattle.fc_protocol.specs.declared.states.TxnState.{TxnState}
use Rattle.fc_protocol.specs.declared.states.TxnState.TheVariants.{Started, Prepared, Completed, Aborted}
use Rattle.fc_transactions.specs.State.{TransactionState}
use Rattle.fc_tree.specs.Finding.{walked}
use Rattle.fc_types.specs.declared.ty.Ty.{Ty}
use Rattle.fc_value.proofs.Complete.{full_read}
use Rattle.fc_value.proofs.Written.{full_canon}
use Rattle.fc_value.specs.Writing.{full_bytes}
use Rattle.fc_value.specs.declared.value.Value.{Value}
use Rattle.fc_wire.specs.Bytes.{u32_at, u32_bytes}
use Rattle.fc_querying.specs.Asking.{IsAskable, IsTold, IsTxn, answer_to, held_query, record_query}
use Rattle.fc_querying.proofs.Filling.{answer_is, epoch_spot, leaves_are, other_spot, says}
use Rattle.fc_querying.proofs.Finding.{Stands, found_none, found_record, key_step, stands}
use Rattle.fc_querying.proofs.Records.{all_rows, back_at, epoch_small, front_at, held_all, held_distinct, held_rows, name_of, row, row_read, rows, table_is, table_read, told_small}
use Rattle.fc_querying.proofs.Sizes.{FewIn, full_few, key_few, no_key_few, record_long, refused_few, table_long}
use Rattle.fc_querying.proofs.Values.{number_again, transaction_fits, transaction_sound, transactions_sound, word_alone}

out_full : (bytes : List ℕ) → out-Body (body.Full bytes) ≡ Body-F.Full bytes
out_full bytes = search (rules, the_lemmas)

out_outcome : (code : ℕ) → out-Body (body.Outcome code) ≡ Body-F.Outcome code
out_outcome code = search (rules, the_lemmas)

-- ---- what an element tells

epoch_seen : (s : TransactionState) → HasMastership s.ledger.store → seen_now (told_value (told_of s)) epoch_spot s.ledger.store ≡ Ok (kinds.word, live.word s.epoch)
epoch_seen s has = rw (has.class, has.stands) refl

held_seen : (s : TransactionState) → HasMastership s.ledger.store
    → seen_now (told_value (told_of s)) (other_spot components.held None) s.ledger.store ≡ Ok (transactions_type, table (map transaction (filter live.is_held (map told_txn s.ledger.records.entries))))
held_seen s has = rw (has.class, has.stands) refl

abbrev pub record_key : Txn → Option Key
record_key x = Some (record { ident = components.transaction_key; value = name_of x })

record_seen : (s : TransactionState) (x : Txn) → HasMastership s.ledger.store
    → seen_now (told_value (told_of s)) (other_spot components.transactions (record_key x)) s.ledger.store
    ≡ walked (key_step x ∷ []) transactions_type (table (map transaction (map told_txn s.ledger.records.entries)))
record_seen s x has = rw (has.class, has.stands) refl

-- ---- the contents of its answers

epoch_content : (s : TransactionState) → IsAskable s → value_content (in_full (seen_now (told_value (told_of s)) epoch_spot s.ledger.store)) ≡ content.Full (u32_bytes s.epoch)
epoch_content s is =
    ap (λ (r : Result (Ty × Value) ℕ). value_content (in_full r)) (epoch_seen s is.mastership) ∙ ap content.Full (word_alone s.epoch is.epoch)

epoch_few : (n : ℕ) → FewIn 19 (content.Full (u32_bytes n))
epoch_few n = full_few 12 (u32_bytes n) (omega arith) (omega arith)

abbrev pub held_bytes : TransactionState → List ℕ
held_bytes s = full_bytes transactions_type (table (rows (held s.ledger.records.entries)))

held_content : (s : TransactionState) → HasMastership s.ledger.store
    → value_content (in_full (seen_now (told_value (told_of s)) (other_spot components.held None) s.ledger.store)) ≡ content.Full (held_bytes s)
held_content s has =
    ap (λ (r : Result (Ty × Value) ℕ). value_content (in_full r)) (held_seen s has)
    ∙ ap (λ (vs : List Value). content.Full (full_bytes transactions_type (table vs))) (held_rows s.ledger.records.entries)

held_few : (s : TransactionState) → IsAskable s → FewIn 40000 (content.Full (held_bytes s))
held_few s is =
    let long = table_long (held s.ledger.records.entries) (held_all s.ledger.records.entries is.records.each) is.records.limited.0 in
    full_few 39993 (held_bytes s) (omega (arith, long)) (omega arith)

-- what a look-up of a record gives
abbrev record_content : TransactionState → Txn → Content
record_content s x = value_content (in_full (walked (key_step x ∷ []) transactions_type (table (rows s.ledger.records.entries))))

record_content_is : (s : TransactionState) (x : Txn) → HasMastership s.ledger.store
    → value_content (in_full (seen_now (told_value (told_of s)) (other_spot components.transactions (record_key x)) s.ledger.store)) ≡ record_content s x
record_content_is s x has =
    ap (λ (r : Result (Ty × Value) ℕ). value_content (in_full r))
    (record_seen s x has ∙ ap (λ (vs : List Value). walked (key_step x ∷ []) transactions_type (table vs)) (all_rows s.ledger.records.entries))

-- ---- what is read of them

epoch_read : (n : ℕ) → n < 2 ^ 32 → epoch_in (full_of (body.Full (u32_bytes n))) ≡ Some n
epoch_read n h = ap (λ l. epoch_in (full_layer l)) (out_full (u32_bytes n)) ∙ ap Some (number_again n h)

held_is_read : (s : TransactionState) → IsAskable s → option_and_then (held_by transactions_type) (full_of (body.Full (held_bytes s))) ≡ Some (listed s.ledger.records.entries)
held_is_read s is =
    let ns = s.ledger.records.entries in
    let few = is.records.limited.0 in
    let fits = table_is (held ns) (held_all ns is.records.each) (held_distinct ns is.records.distinct) (omega (arith, few)) in
    ap (λ l. option_and_then (held_by transactions_type) (full_layer l)) (out_full (held_bytes s))
    ∙ ap held_read (full_read transactions_type (table (rows (held ns))) (held_bytes s) (full_canon transactions_type (table (rows (held ns))) transactions_sound fits))
    ∙ table_read ns is.records.each

-- what its answer to the question for what is held says of the two components
pub held_leaves : (s : TransactionState) → IsAskable s
    → flat_map select_leaves (answer_to s held_query) ≡ says epoch_spot (content.Full (u32_bytes s.epoch)) ∷ says (other_spot components.held None) (content.Full (held_bytes s)) ∷ []
held_leaves s is =
    let e : Content = content.Full (u32_bytes s.epoch) in
    let h : Content = content.Full (held_bytes s) in
    ap (λ (ss : List Select). flat_map select_leaves ss)
    (answer_is (told_value (told_of s)) s.ledger.store s.ledger.subscriptions components.held None e h (epoch_content s is) (held_content s is.mastership)
    (no_key_few.0, omega (arith, no_key_few.1)) (epoch_few s.epoch) (held_few s is))
    ∙ leaves_are components.held None e h

-- the answer to the question for what is held
pub held_answered : (s : TransactionState) (m : Stamp) → IsAskable s → query_meaning Ask m (answer_to s held_query) ≡ Holds m s.epoch (listed s.ledger.records.entries)
held_answered s m is =
    ap (held_meaning transactions_type m) (held_leaves s is)
    ∙ ap (λ (o : Option ℕ). held_bodies transactions_type m o (full_of (body.Full (held_bytes s)))) (epoch_read s.epoch is.epoch)
    ∙ ap (holds m s.epoch) (held_is_read s is)

-- ---- a record

record_found : (s : TransactionState) (x : Txn) (t : TxnState) → IsTxn x → (f : Stands x 1 s.ledger.records.entries t) → record_content s x ≡ content.Full (full_bytes transaction_type (row f.entry))
record_found s x t is f = ap (λ (r : Result (Ty × Value) ℕ). value_content (in_full r)) (found_record x s.ledger.records.entries t is f)

record_absent : (s : TransactionState) (x : Txn) → IsAskable s → IsTxn x → state_of x s.ledger.records.entries ≡ None → record_content s x ≡ content.Refused 11
record_absent s x is t e = ap (λ (r : Result (Ty × Value) ℕ). value_content (in_full r)) (found_none x s.ledger.records.entries t is.records.each e)

seen_is : (t : TxnState) → seen_of t ≡ seen (Some t)
seen_is Started = refl
seen_is Prepared = refl
seen_is Completed = refl
seen_is Aborted = refl

row_is_read : (n : TxnEntry) → IsTold n → record_in transaction_type (body.Full (full_bytes transaction_type (row n))) ≡ Some (seen (Some n.state))
row_is_read n t =
    ap (record_layer transaction_type) (out_full (full_bytes transaction_type (row n)))
    ∙ ap (λ (r : Result Value ℕ). seen_in (entry_read r))
    (full_read transaction_type (row n) (full_bytes transaction_type (row n)) (full_canon transaction_type (row n) transaction_sound.sound (transaction_fits 5 (told_txn n) (told_small n t))))
    ∙ ap seen_in (row_read n t) ∙ ap Some (seen_is n.state)

-- what the content of a record says, and that it is short
record TellsOf (s : TransactionState) (x : Txn) : Type 0 where
  content : Content
  is : record_content s x ≡ content
  few : FewIn 40000 content
  read : record_in transaction_type (content_body content) ≡ Some (seen (state_of x s.ledger.records.entries))

tells_of : (s : TransactionState) (x : Txn) (o : Option TxnState) → IsAskable s → IsTxn x → state_of x s.ledger.records.entries ≡ o → TellsOf s x
tells_of s x None is t e = record {
  content = content.Refused 11;
  is = record_absent s x is t e;
  few = (let f = refused_few 11 in (f.0, omega (arith, f.1)));
  read = ap (record_layer transaction_type) (out_outcome 11) ∙ ap (λ (o : Option TxnState). Some (seen o)) (sym e);
}
tells_of s x (Some state) is t e =
    let f = stands x 1 s.ledger.records.entries state t is.records.each e in
    let long = record_long f.entry f.told in record {
      content = content.Full (full_bytes transaction_type (row f.entry));
      is = record_found s x state t f;
      few = full_few 39993 (full_bytes transaction_type (row f.entry)) (omega (arith, long)) (omega arith);
      read = row_is_read f.entry f.told ∙ ap (λ (u : TxnState). Some (seen (Some u))) f.state ∙ ap (λ (o : Option TxnState). Some (seen o)) (sym e);
    }

-- the key of the answer names x
named_key : (x : Txn) → IsTxn x → (true && ((u32_at (name_of x) 0 == x.epoch) && (u32_at (name_of x) 4 == x.number))) ≡ true
named_key x t = ap₂ (λ (a b : ℕ). (a == x.epoch) && (b == x.number)) (front_at x.epoch x.number (epoch_small x t.name)) (back_at x.epoch x.number t.number) ∙ ap₂ (λ (a b : Bool). a && b) (itself x.epoch) (itself x.number)
  where
    itself : (n : ℕ) → (n == n) ≡ true
    itself n = grind arith

-- what its answer to the question for a record says of the two components
leaves_of : (s : TransactionState) (x : Txn) → IsAskable s → (r : TellsOf s x)
    → flat_map select_leaves (answer_to s (record_query x)) ≡ says epoch_spot (content.Full (u32_bytes s.epoch)) ∷ says (other_spot components.transactions (record_key x)) r.content ∷ []
leaves_of s x is r =
    let e : Content = content.Full (u32_bytes s.epoch) in
    ap (λ (ss : List Select). flat_map select_leaves ss)
    (answer_is (told_value (told_of s)) s.ledger.store s.ledger.subscriptions components.transactions (record_key x) e r.content (epoch_content s is) (record_content_is s x is.mastership ∙ r.is)
    (key_few (name_of x) refl) (epoch_few s.epoch) r.few)
    ∙ leaves_are components.transactions (record_key x) e r.content

pub record_leaves : (s : TransactionState) (x : Txn) → IsAskable s → IsTxn x
    → (c : Content) × (flat_map select_leaves (answer_to s (record_query x)) ≡ says epoch_spot (content.Full (u32_bytes s.epoch)) ∷ says (other_spot components.transactions (record_key x)) c ∷ [])
record_leaves s x is t = let r = tells_of s x (state_of x s.ledger.records.entries) is t refl in (r.content, leaves_of s x is r)

-- the answer to the question for a record
pub record_answered : (s : TransactionState) (x : Txn) (m : Stamp) → IsAskable s → IsTxn x → query_meaning (Ask_record x) m (answer_to s (record_query x)) ≡ Tells m x s.epoch (seen (state_of x s.ledger.records.entries))
record_answered s x m is t =
    let r = tells_of s x (state_of x s.ledger.records.entries) is t refl in
    ap (record_meaning transaction_type x m) (leaves_of s x is r)
    ∙ ap (λ (b : Bool). if b then record_bodies transaction_type m x (epoch_in (full_of (body.Full (u32_bytes s.epoch)))) (content_body r.content) else Unread m None) (named_key x t)
    ∙ ap (λ (o : Option ℕ). record_bodies transaction_type m x o (content_body r.content)) (epoch_read s.epoch is.epoch)
    ∙ ap (tells m x s.epoch) r.read
