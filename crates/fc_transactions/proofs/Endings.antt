-- Phases that end a transaction.
use Rattle.std.proofs.Common.{◌≡◌, ℕ, ◌==◌, not, Bool, true, false, cond, List, [], ◌∷◌, ◌++◌, refl, sym, ap, ◌∙◌, Option, Some, None, Result}
use Rattle.std.specs.Prelude.{IfOk}
use Rattle.std.specs.List.{AllByRecursion}
use Rattle.fc_base.specs.Ids.{Txn}
use Rattle.fc_base.specs.declared.faults.Memory.{Memory}
use Rattle.fc_events.specs.Reports.{reports_but}
use Rattle.fc_events.specs.declared.subscriptions.Notice.{Notice}
use Rattle.fc_events.specs.declared.subscriptions.Subscription.{Subscription}
use Rattle.fc_holding.specs.Held.{held_instances}
use Rattle.fc_holding.specs.Holdings.{found, over_held, settled_with, undone, without}
use Rattle.fc_holding.specs.declared.holding.Holding.{Holding}
use Rattle.fc_machine.specs.Transactions.{is_completed}
use Rattle.fc_msg.specs.declared.message.Message.{Message}
use Rattle.fc_path.specs.declared.oper.Select.{Select}
use Rattle.fc_protocol.specs.Messages.{is_name}
use Rattle.fc_protocol.specs.Phases.{Turn, aborting, keeps, preparing, settling}
use Rattle.fc_protocol.specs.Floors.{is_below}
use Rattle.fc_protocol.specs.Records.{is_full, is_held, noted, state_of}
use Rattle.fc_protocol.specs.declared.states.Decision.TheVariants.{Complete, Abort}
use Rattle.fc_protocol.specs.declared.states.TxnState.{TxnState}
use Rattle.fc_protocol.specs.declared.states.TxnState.TheVariants.{Started, Prepared, Completed, Aborted}
use Rattle.fc_reply.specs.Replies.{reply}
use Rattle.fc_store.specs.Stores.{Stored, Tree, without_mark}
use Rattle.fc_tx.specs.Records.{TxnRecords, enter_turn, prepare_turn, settle_turn, turned}
use Rattle.fc_performing.specs.Notices.{notice_outs, route}
use Rattle.fc_performing.specs.Sending.{IsAnswer, IsSaid, responses}
use Rattle.fc_performing.specs.declared.answering.Answered.{Answered}
use Rattle.fc_performing.specs.declared.out.Route.{Route}
use Rattle.fc_transactions.proofs.Done.{answered_done, if_done, if_same, same_done}
use Rattle.fc_transactions.proofs.Turns.{aborts_at, aborts_is, aborts_none, completes_is, completes_none, prepares_is, prepares_none, unknown_turn, unnamed_turn}
use Rattle.fc_transactions.specs.Done.{IsAnswered, IsDone}
use Rattle.fc_transactions.specs.Phases.{Did, aborted_by, aborts, both_codes, completed_by, completes, others_held, prepared_by, prepares, second_code, settles, turns}
use Rattle.fc_transactions.specs.declared.ledger.Ledger.{Ledger}

-- ---- turns
-- what is settled now gets the code 0
zero_code : (s : Option TxnState) → is_completed (settling Complete s).new ≡ true → (settling Complete s).code ≡ 0
zero_code None e = absurd cc
zero_code (Some Started) e = absurd cc
zero_code (Some Prepared) e = refl
zero_code (Some Completed) e = absurd cc
zero_code (Some Aborted) e = absurd cc

-- and what is not keeps its record
no_new : (s : Option TxnState) → is_completed (settling Complete s).new ≡ false → (settling Complete s).new ≡ None
no_new None e = refl
no_new (Some Started) e = refl
no_new (Some Prepared) e = absurd cc
no_new (Some Completed) e = refl
no_new (Some Aborted) e = refl

-- what is not entered leaves no record
none_entered : (named full : Bool) → ((aborting named full None).code == 0) ≡ false → (aborting named full None).new ≡ None
none_entered true true e = refl
none_entered true false e = absurd cc
none_entered false full e = refl

-- what is done at the mark of something held leaves the library
library_stays : (change : Tree → Tree) (o : Option Holding) (s : Stored) → (over_held change o s).library ≡ s.library
library_stays change None s = refl
library_stays change (Some h) s = refl

module _ (p peer : ℕ) (m : Message) (selects : List Select) (l : Ledger) (x : Txn) where
  abbrev with_records : TxnRecords → Ledger
  with_records r = record { records = r; holdings = l.holdings; store = l.store; subscriptions = l.subscriptions }

  left : (d e : Did) → d ≡ e → d.ledger ≡ e.ledger
  left d e is = ap (λ (k : Did). k.ledger) is

  -- ---- EOT with COMMIT
  module _ (named : is_name x ≡ true) where
    pub prepared_done : (code : ℕ) (a : Answered) → code ≡ (prepare_turn x l.records).code → IsAnswered peer m selects (code ∷ code ∷ []) a → IsDone p peer m selects (prepares p l x) a
    prepared_done code a e y =
        same_done p peer m selects (prepared_by p l x (prepare_turn x l.records)) (prepares p l x) a (prepares_is p l x named)
        (answered_done p peer m selects (code ∷ code ∷ []) a y (prepared_by p l x (prepare_turn x l.records)) (ap (λ k. k ∷ k ∷ []) (sym e)) refl)

    pub prepared_ledger : (now : TxnRecords) → now ≡ turned x [] [] (prepare_turn x l.records) l.records → with_records now ≡ (prepares p l x).ledger
    prepared_ledger now e = ap with_records e ∙ left (prepared_by p l x (prepare_turn x l.records)) (prepares p l x) (prepares_is p l x named)

  module _ (unnamed : is_name x ≡ false) where
    pub unprepared_done : (r : Result Answered Memory) → IfOk r (λ a. IsAnswered peer m selects (11 ∷ 11 ∷ []) a) → IfOk r (λ a. IsDone p peer m selects (prepares p l x) a)
    unprepared_done r y =
        if_same p peer m selects (prepared_by p l x (preparing None)) (prepares p l x) r (prepares_none p l x unnamed) (if_done p peer m selects (11 ∷ 11 ∷ []) r y (prepared_by p l x (preparing None)) refl refl)

    pub unprepared_ledger : l ≡ (prepares p l x).ledger
    unprepared_ledger = left (prepared_by p l x (preparing None)) (prepares p l x) (prepares_none p l x unnamed)

  -- ---- EOT with TRCOMP
  abbrev completing : Turn
  completing = settle_turn Complete x l.records

  abbrev told : List Subscription × List Notice
  told = reports_but (others_held l (Some x)) l.store l.subscriptions

  abbrev kept_so : Did
  kept_so = turns p l x [] [] completing l.holdings l.store (both_codes completing.code)

  by_new : (b : Bool) → is_completed completing.new ≡ b → is_name x ≡ true → cond b (settles p l x completing told) kept_so ≡ completes p l x
  by_new b e named = sym (ap (λ k. cond k (settles p l x completing told) kept_so) e) ∙ completes_is p l x named

  module _ (named : is_name x ≡ true) (now_settled : is_completed completing.new ≡ true) (held all : List (ℕ × ℕ)) (w : Route) (subs : List Subscription) (is : held ≡ held_instances all (Some x) l.records.entries)
      (there : all ≡ l.store.instances) (way : w ≡ route p m.source peer) (copied : subs ≡ l.subscriptions) where
    held_is : held ≡ others_held l (Some x)
    held_is = is ∙ ap (λ instances. held_instances instances (Some x) l.records.entries) there

    codes_are : 0 ∷ 0 ∷ [] ≡ both_codes completing.code
    codes_are = ap both_codes (sym (zero_code (state_of x l.records.entries) now_settled))

    pub settled_done : (a : Answered) → a.outs ≡ responses w.peer (reply m selects (0 ∷ 0 ∷ [])) ++ notice_outs l.store.library w (reports_but held l.store subs).1 → AllByRecursion IsSaid a.outs
        → a.reply ≡ reply m selects (0 ∷ 0 ∷ []) → IsAnswer a.reply → IsDone p peer m selects (completes p l x) a
    settled_done a outs said response proper =
        same_done p peer m selects (settles p l x completing told) (completes p l x) a (by_new true now_settled named)
        (record {
          outs =
              outs ∙ ap (λ (r : Route). responses r.peer (reply m selects (0 ∷ 0 ∷ [])) ++ notice_outs l.store.library r (reports_but held l.store subs).1) way
              ∙ ap (λ them. responses peer (reply m selects (0 ∷ 0 ∷ [])) ++ notice_outs l.store.library (route p m.source peer) (reports_but held l.store them).1) copied
              ∙ ap (λ h. responses peer (reply m selects (0 ∷ 0 ∷ [])) ++ notice_outs l.store.library (route p m.source peer) (reports_but h l.store l.subscriptions).1) held_is
              ∙ ap (λ library. responses peer (reply m selects (0 ∷ 0 ∷ [])) ++ notice_outs library (route p m.source peer) told.1) (sym (library_stays without_mark (found x l.holdings) l.store))
              ∙ ap (λ cs. responses peer (reply m selects cs) ++ notice_outs (settled_with x l.holdings l.store).library (route p m.source peer) told.1) codes_are;
          said = said;
          response = response ∙ ap (reply m selects) codes_are;
          proper = proper;
        })

    pub settled_ledger : (records : TxnRecords) (holdings : List Holding) (store : Stored) (after : List Subscription) → records ≡ turned x [] [] completing l.records → holdings ≡ without x l.holdings → store ≡ settled_with x l.holdings l.store
        → after ≡ (reports_but held l.store subs).0 → ◌≡◌ {A = Ledger} (record { records = records; holdings = holdings; store = store; subscriptions = after }) (completes p l x).ledger
    settled_ledger records holdings store after e f g h =
        ap (λ r. record { records = r; holdings = holdings; store = store; subscriptions = after }) e
        ∙ ap (λ hs. record { records = turned x [] [] completing l.records; holdings = hs; store = store; subscriptions = after }) f
        ∙ ap (λ s. record { records = turned x [] [] completing l.records; holdings = without x l.holdings; store = s; subscriptions = after }) g
        ∙ ap (λ them. record { records = turned x [] [] completing l.records; holdings = without x l.holdings; store = settled_with x l.holdings l.store; subscriptions = them })
        (h ∙ ap (λ (them : List Subscription). (reports_but held l.store them).0) copied ∙ ap (λ h. (reports_but h l.store l.subscriptions).0) held_is)
        ∙ left (settles p l x completing told) (completes p l x) (by_new true now_settled named)

  module _ (named : is_name x ≡ true) (ended : is_completed completing.new ≡ false) where
    pub nothing_done : (code : ℕ) (r : Result Answered Memory) → code ≡ completing.code → IfOk r (λ a. IsAnswered peer m selects (code ∷ second_code code ∷ []) a) → IfOk r (λ a. IsDone p peer m selects (completes p l x) a)
    nothing_done code r e y =
        if_same p peer m selects kept_so (completes p l x) r (by_new false ended named) (if_done p peer m selects (code ∷ second_code code ∷ []) r y kept_so (ap both_codes (sym e)) refl)

    pub nothing_ledger : l ≡ (completes p l x).ledger
    nothing_ledger =
        sym (ap (λ n. with_records (record { entries = noted x [] [] n l.records.entries; floor = l.records.floor })) (no_new (state_of x l.records.entries) ended))
        ∙ left kept_so (completes p l x) (by_new false ended named)

  module _ (unnamed : is_name x ≡ false) where
    pub uncompleted_done : (r : Result Answered Memory) → IfOk r (λ a. IsAnswered peer m selects (11 ∷ 255 ∷ []) a) → IfOk r (λ a. IsDone p peer m selects (completes p l x) a)
    uncompleted_done r y =
        if_same p peer m selects (completed_by p l x (settling Complete None)) (completes p l x) r (completes_none p l x unnamed)
        (if_done p peer m selects (11 ∷ 255 ∷ []) r y (completed_by p l x (settling Complete None)) refl refl)

    pub uncompleted_ledger : l ≡ (completes p l x).ledger
    uncompleted_ledger = left (completed_by p l x (settling Complete None)) (completes p l x) (completes_none p l x unnamed)

  -- ---- ABT
  aborted_codes : (b : Bool) (t : Turn) → (aborted_by p l x b t).codes ≡ t.code ∷ []
  aborted_codes true t = refl
  aborted_codes false t = refl

  aborted_notices : (b : Bool) (t : Turn) → (aborted_by p l x b t).notices ≡ []
  aborted_notices true t = refl
  aborted_notices false t = refl

  abbrev let_go : Bool → Ledger
  let_go b = cond b (record { records = l.records; holdings = without x l.holdings; store = undone x l.holdings l.store; subscriptions = l.subscriptions }) l

  let_go_ledger : (b : Bool) (t : Turn) (mid : Ledger) (now : TxnRecords) → mid ≡ let_go b → now ≡ turned x [] [] t l.records
      → ◌≡◌ {A = Ledger} (record { records = now; holdings = mid.holdings; store = mid.store; subscriptions = mid.subscriptions }) (aborted_by p l x b t).ledger
  let_go_ledger true t mid now e f =
      ap (λ (k : Ledger). record { records = now; holdings = k.holdings; store = k.store; subscriptions = k.subscriptions }) e
      ∙ ap (λ r. record { records = r; holdings = without x l.holdings; store = undone x l.holdings l.store; subscriptions = l.subscriptions }) f
  let_go_ledger false t mid now e f = ap (λ (k : Ledger). record { records = now; holdings = k.holdings; store = k.store; subscriptions = k.subscriptions }) e ∙ ap with_records f

  let_go_records : (b : Bool) → (let_go b).records ≡ l.records
  let_go_records true = refl
  let_go_records false = refl

  module _ (named : is_name x ≡ true) (state : TxnState) (known : state_of x l.records.entries ≡ Some state) where
    aborting_is : settle_turn Abort x l.records ≡ settling Abort (Some state)
    aborting_is = ap (settling Abort) known

    pub aborted_done : (code : ℕ) (a : Answered) → code ≡ (settle_turn Abort x l.records).code → IsAnswered peer m selects (code ∷ []) a → IsDone p peer m selects (aborts p l x) a
    aborted_done code a e y =
        same_done p peer m selects (aborts_at p l x (Some state)) (aborts p l x) a (aborts_is p l x (Some state) named known)
        (answered_done p peer m selects (code ∷ []) a y (aborts_at p l x (Some state))
        (aborted_codes (is_held state) (settling Abort (Some state)) ∙ ap (λ (t : Turn). t.code ∷ []) (sym aborting_is) ∙ ap (λ k. k ∷ []) (sym e))
        (aborted_notices (is_held state) (settling Abort (Some state))))

    pub aborted_ledger : (mid : Ledger) (now : TxnRecords) → mid ≡ let_go (is_held state) → now ≡ turned x [] [] (settle_turn Abort x mid.records) mid.records
        → ◌≡◌ {A = Ledger} (record { records = now; holdings = mid.holdings; store = mid.store; subscriptions = mid.subscriptions }) (aborts p l x).ledger
    aborted_ledger mid now e f =
        let_go_ledger (is_held state) (settling Abort (Some state)) mid now e
        (f ∙ ap (λ r. turned x [] [] (settle_turn Abort x r) r) (ap (λ (k : Ledger). k.records) e ∙ let_go_records (is_held state)) ∙ ap (λ t. turned x [] [] t l.records) aborting_is)
        ∙ left (aborts_at p l x (Some state)) (aborts p l x) (aborts_is p l x (Some state) named known)

  module _ (named : is_name x ≡ true) (unknown : state_of x l.records.entries ≡ None) where
    abbrev entered : Did
    entered = turns p l x [] [] (enter_turn x l.records) l.holdings l.store ((enter_turn x l.records).code ∷ [])

    entered_is : entered ≡ aborts p l x
    entered_is = ap (λ t. turns p l x [] [] t l.holdings l.store (t.code ∷ [])) (sym (unknown_turn l.records x named)) ∙ aborts_is p l x None named unknown

    pub entered_done : (code : ℕ) (a : Answered) → code ≡ (enter_turn x l.records).code → IsAnswered peer m selects (code ∷ []) a → IsDone p peer m selects (aborts p l x) a
    entered_done code a e y =
        same_done p peer m selects entered (aborts p l x) a entered_is (answered_done p peer m selects (code ∷ []) a y entered (ap (λ k. k ∷ []) (sym e)) refl)

    pub entered_ledger : (now : TxnRecords) → now ≡ turned x [] [] (enter_turn x l.records) l.records → with_records now ≡ (aborts p l x).ledger
    entered_ledger now e = ap with_records e ∙ left entered (aborts p l x) entered_is

    pub not_entered_ledger : (code : ℕ) → code ≡ (enter_turn x l.records).code → (code == 0) ≡ false → l ≡ (aborts p l x).ledger
    not_entered_ledger code e bad =
        sym (ap (λ n. with_records (record { entries = noted x [] [] n l.records.entries; floor = l.records.floor })) (none_entered (not (is_below x l.records.floor)) (is_full l.records.entries) (sym (ap (λ k. k == 0) e) ∙ bad)))
        ∙ left entered (aborts p l x) entered_is

  module _ (unnamed : is_name x ≡ false) where
    abbrev unaborted : Did
    unaborted = turns p l x [] [] (keeps 11) l.holdings l.store (11 ∷ [])

    unaborted_is : unaborted ≡ aborts p l x
    unaborted_is = ap (λ (t : Turn). turns p l x [] [] t l.holdings l.store (t.code ∷ [])) (sym (unnamed_turn l.records x unnamed)) ∙ aborts_none p l x unnamed

    pub unaborted_done : (r : Result Answered Memory) → IfOk r (λ a. IsAnswered peer m selects (11 ∷ []) a) → IfOk r (λ a. IsDone p peer m selects (aborts p l x) a)
    unaborted_done r y = if_same p peer m selects unaborted (aborts p l x) r unaborted_is (if_done p peer m selects (11 ∷ []) r y unaborted refl refl)

    pub unaborted_ledger : l ≡ (aborts p l x).ledger
    unaborted_ledger = left unaborted (aborts p l x) unaborted_is
