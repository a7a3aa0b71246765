-- No Config changes the library or the instances of the store.
use Rattle.std.proofs.Common.{◌≡◌, ℕ, ◌==◌, not, Bool, true, false, if◌then◌else◌, List, [], ◌∷◌, Option, Some, None, refl, ◌∙◌}
use Rattle.fc_base.specs.Ids.{Txn}
use Rattle.fc_events.specs.declared.subscriptions.Notice.{Notice}
use Rattle.fc_events.specs.Setting.{exec_outcome}
use Rattle.fc_events.specs.declared.subscriptions.Subscription.{Subscription}
use Rattle.fc_exec.specs.Operations.{applied, executed, is_inside, operations, place_of, within}
use Rattle.fc_exec.specs.declared.operations.Operation.{Operation}
use Rattle.fc_exec.proofs.Applying.{instances_stay}
use Rattle.fc_holding.specs.Held.{scope_of, state_at, waits}
use Rattle.fc_holding.specs.Holdings.{all_undone, found, is_started, over_held, undone_one}
use Rattle.fc_holding.specs.declared.holding.Holding.{Holding}
use Rattle.fc_machine.specs.ElementState.{first_code}
use Rattle.fc_machine.specs.Transactions.{is_completed}
use Rattle.fc_modes.specs.declared.mode.Mode.{Mode}
use Rattle.fc_modes.specs.declared.mode.Mode.TheVariants.{AllOrNone}
use Rattle.fc_msg.specs.declared.message.Message.{Message}
use Rattle.fc_path.specs.declared.oper.Select.{Select}
use Rattle.fc_performing.specs.Performing.{are_props, configured, mode_of, performed, registered}
use Rattle.fc_performing.proofs.Undoing.{library_stays, outcome_keeps}
use Rattle.fc_phases.specs.Asking.{txn_of}
use Rattle.fc_phases.specs.Shapes.{rest_of}
use Rattle.fc_phases.specs.declared.asked.Asked.{Asked}
use Rattle.fc_phases.specs.declared.asked.Asked.TheVariants.{Claim, Floor, Plain, Start, Change, Commit, Complete as Completing, Abort as Aborting, Malformed}
use Rattle.fc_phases.specs.declared.values.Opening.{Opening}
use Rattle.fc_protocol.specs.Phases.{Turn, adding, settling}
use Rattle.fc_protocol.specs.declared.answers.TxnEntry.{TxnEntry}
use Rattle.fc_protocol.specs.declared.states.Decision.TheVariants.{Complete}
use Rattle.fc_protocol.specs.declared.verdict.Verdict.{Verdict}
use Rattle.fc_protocol.specs.declared.verdict.Verdict.TheVariants.{Claim as Claims, Unclaimed, Stale, Again, Gap, Next}
use Rattle.fc_store.specs.Stores.{Stored, Tree, gone_back, mark_of, over_mark, with_mark, without_mark}
use Rattle.fc_transactions.specs.Order as order
use Rattle.fc_transactions.specs.Order.{asked_of, by_verdict, judged}
use Rattle.fc_transactions.specs.Phases.{abort_turn, aborted_by, acts, all_get, both_codes, continued, executes, extends, extends_failed, is_admitted, is_held_in, marked, opens, opens_failed, refuses, rest_outcome, settles, start_turn_by, started, turns}
use Rattle.fc_transactions.specs.State.{TransactionState}
use Rattle.fc_transactions.specs.declared.ledger.Ledger.{Ledger}

-- a part of a store that no operation changes, and that is the same whatever is done at marks
module _ {A : Type 0} (part : Stored → A) (stays : (s : Stored) (op : Operation) → part (applied s op).0 ≡ part s) (beside : (f : Tree → Tree) (mark : List (ℕ × ℕ)) (s : Stored) → part (over_mark f mark s) ≡ part s) where
  within_stays : (scope : List (ℕ × ℕ)) (s : Stored) (op : Operation) → part (within scope s op).0 ≡ part s
  within_stays scope s op = by (is_inside scope (place_of op))
    where
      by : (b : Bool) → part (if b then applied s op else (s, 16)).0 ≡ part s
      by true = stays s op
      by false = refl

  rest_stays : (scope : List (ℕ × ℕ)) (s : Stored) (rest : List Select) → part (rest_outcome scope s rest).state ≡ part s
  rest_stays scope s rest = outcome_keeps (within scope) part (within_stays scope) AllOrNone s (operations rest)

  performed_stays : (mode : Mode) (s : Stored) (subs : List Subscription) (selects : List Select) → part (performed mode s subs selects).store ≡ part s
  performed_stays mode s subs selects = by (are_props selects)
    where
      by : (b : Bool) → part (if b then registered s (exec_outcome mode s subs selects) else configured subs (executed mode s selects)).store ≡ part s
      by true = refl
      by false = outcome_keeps applied part stays mode s (operations selects)

  held_stays : (f : Tree → Tree) (o : Option Holding) (s : Stored) → part (over_held f o s) ≡ part s
  held_stays f None s = refl
  held_stays f (Some h) s = beside f h.mark s

  undone_stays : (ns : List TxnEntry) (hs : List Holding) (s : Stored) → part (all_undone ns hs s) ≡ part s
  undone_stays ns [] s = refl
  undone_stays ns (h ∷ hs) s = undone_stays ns hs (undone_one ns h s) ∙ by (is_started ns h)
    where
      by : (b : Bool) → part (if b then over_mark gone_back h.mark s else s) ≡ part s
      by true = beside gone_back h.mark s
      by false = refl

  module _ (p epoch : ℕ) (l : Ledger) (m : Message) (selects : List Select) where
    executed_stays : part (executes p l m selects).ledger.store ≡ part l.store
    executed_stays = performed_stays (mode_of m.flags.em) l.store l.subscriptions selects

    plain_stays : (b : Bool) → part (if b then all_get l selects 18 else executes p l m selects).ledger.store ≡ part l.store
    plain_stays true = refl
    plain_stays false = executed_stays

    opened_stays : (o : Opening) (rest : List Select) (code : ℕ) (b : Bool)
        → (let done = rest_outcome o.instances (marked o.instances l.store) rest in part (if b then opens p l o rest done else opens_failed p l o done.codes code).ledger.store) ≡ part l.store
    opened_stays o rest code true = rest_stays o.instances (marked o.instances l.store) rest ∙ beside with_mark (mark_of o.instances l.store) l.store
    opened_stays o rest code false = refl

    starts_stays : (o : Opening) (rest : List Select) (code : ℕ) (b : Bool) → part (if b then started p l o rest else refuses l rest code).ledger.store ≡ part l.store
    starts_stays o rest code true = let code = first_code (rest_outcome o.instances (marked o.instances l.store) rest).codes in opened_stays o rest code (code == 0)
    starts_stays o rest code false = refl

    extended_stays : (x : Txn) (rest : List Select) (code : ℕ) (b : Bool)
        → (let done = rest_outcome (scope_of x l.records.entries) l.store rest in part (if b then extends p l x rest done else extends_failed p l x done.codes code).ledger.store) ≡ part l.store
    extended_stays x rest code true = rest_stays (scope_of x l.records.entries) l.store rest
    extended_stays x rest code false = held_stays gone_back (found x l.holdings) l.store

    continues_stays : (x : Txn) (rest : List Select) (code : ℕ) (b : Bool) → part (if b then continued p l x rest else refuses l rest code).ledger.store ≡ part l.store
    continues_stays x rest code true = let code = first_code (rest_outcome (scope_of x l.records.entries) l.store rest).codes in extended_stays x rest code (code == 0)
    continues_stays x rest code false = refl

    completed_stays : (x : Txn) (t : Turn) (told : List Subscription × List Notice) (b : Bool) → part (if b then settles p l x t told else turns p l x [] [] t l.holdings l.store (both_codes t.code)).ledger.store ≡ part l.store
    completed_stays x t told true = held_stays without_mark (found x l.holdings) l.store
    completed_stays x t told false = refl

    aborted_stays : (x : Txn) (t : Turn) (b : Bool) → part (aborted_by p l x b t).ledger.store ≡ part l.store
    aborted_stays x t true = held_stays gone_back (found x l.holdings) l.store
    aborted_stays x t false = refl

    acts_stays : (a : Asked) → part (acts p epoch l m selects a).ledger.store ≡ part l.store
    acts_stays (Claim w) = plain_stays (waits l.records.entries selects)
    acts_stays (Floor f) = refl
    acts_stays Plain = plain_stays (waits l.records.entries selects)
    acts_stays (Start o) = let code = (start_turn_by (is_admitted p epoch l.store.instances o) l.records o 0).code in starts_stays o (rest_of selects) code (code == 0)
    acts_stays (Change x) = let code = (adding 0 (state_at (txn_of x) l.records.entries)).code in continues_stays (txn_of x) (rest_of selects) code (code == 0)
    acts_stays (Commit x) = refl
    acts_stays (Completing x) =
        let t = settling Complete (state_at (txn_of x) l.records.entries) in completed_stays (txn_of x) t _ (is_completed t.new)
    acts_stays (Aborting x) = aborted_stays (txn_of x) (abort_turn l.records (txn_of x)) (is_held_in (state_at (txn_of x) l.records.entries))
    acts_stays Malformed = refl

  unclaimed_stays : (s : TransactionState) (m : Message) (selects : List Select) (b c : Bool)
      → part (if b then all_get s.ledger selects 12 else (if c then all_get s.ledger selects 21 else executes s.id s.ledger m selects)).ledger.store ≡ part s.ledger.store
  unclaimed_stays s m selects true c = refl
  unclaimed_stays s m selects false true = refl
  unclaimed_stays s m selects false false = executed_stays s.id s.epoch s.ledger m selects

  verdict_stays : (s : TransactionState) (peer : ℕ) (m : Message) (selects : List Select) (a : Asked) (v : Verdict) → part (by_verdict s peer m selects a v).state.ledger.store ≡ part s.ledger.store
  verdict_stays s peer m selects a (Claims e) = undone_stays s.ledger.records.entries s.ledger.holdings s.ledger.store
  verdict_stays s peer m selects a Unclaimed = unclaimed_stays s m selects (not (m.source == s.ce)) m.flags.at
  verdict_stays s peer m selects a Stale = refl
  verdict_stays s peer m selects a Again = refl
  verdict_stays s peer m selects a Gap = refl
  verdict_stays s peer m selects a Next = acts_stays s.id s.epoch s.ledger m selects a

  pub part_stays : (s : TransactionState) (peer : ℕ) (m : Message) (selects : List Select) → part (order.configured s peer m selects).state.ledger.store ≡ part s.ledger.store
  unfolding order.configured
  part_stays s peer m selects = verdict_stays s peer m selects (asked_of m selects) (judged s m (asked_of m selects))

pub library_is : (s : TransactionState) (peer : ℕ) (m : Message) (selects : List Select) → (order.configured s peer m selects).state.ledger.store.library ≡ s.ledger.store.library
library_is = part_stays (λ s. s.library) library_stays (λ f mark s. refl)

pub instances_are : (s : TransactionState) (peer : ℕ) (m : Message) (selects : List Select) → (order.configured s peer m selects).state.ledger.store.instances ≡ s.ledger.store.instances
instances_are = part_stays (λ s. s.instances) instances_stay (λ f mark s. refl)
