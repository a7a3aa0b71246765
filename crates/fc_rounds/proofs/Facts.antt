-- What has happened at one element says nothing of another one, and all that happens at a Config happens at the element to which it came.
use Rattle.std.proofs.Common.{◌≡◌, ℕ, ◌==◌, ◌&&◌, not, Bool, true, false, List, [], ◌∷◌, ◌++◌, Some, refl, ap, ap₂, ◌∙◌, if◌then◌else◌}
use Rattle.std.specs.List.{AllByRecursion}
use Rattle.fc_base.specs.Ids.{Txn}
use Rattle.fc_exec.specs.declared.operations.Operation.{Operation}
use Rattle.fc_machine.specs.Trace.{Fact, Of_protocol, Added_at, Plain_at, added, completed, completed_by, if_complete, of_protocol}
use Rattle.fc_modes.specs.Modes.{Outcome}
use Rattle.fc_msg.specs.declared.message.Message.{Message}
use Rattle.fc_path.specs.declared.oper.Select.{Select}
use Rattle.fc_performing.specs.Performing.{are_props, done_by}
use Rattle.fc_phases.specs.declared.asked.Asked.{Asked}
use Rattle.fc_phases.specs.declared.asked.Asked.TheVariants.{Claim, Floor, Plain, Start, Change, Commit, Complete as Completing, Abort as Aborting, Malformed}
use Rattle.fc_protocol.specs.Messages.{same}
use Rattle.fc_protocol.specs.Trace as protocol
use Rattle.fc_protocol.specs.Trace.{Event, Opens, Prepares, Settles, facts_of, undone_facts}
use Rattle.fc_protocol.specs.Records.{still_started}
use Rattle.fc_protocol.specs.declared.answers.TxnEntry.{TxnEntry}
use Rattle.fc_protocol.specs.declared.states.Decision.{Decision}
use Rattle.fc_protocol.specs.declared.verdict.Verdict.{Verdict}
use Rattle.fc_protocol.specs.declared.verdict.Verdict.TheVariants as verdict
use Rattle.fc_events.specs.Reports.{reports_but}
use Rattle.fc_holding.specs.Held.{scope_of, state_at, waits}
use Rattle.fc_holding.specs.Holdings.{undone, without}
use Rattle.fc_machine.specs.ElementState.{first_code}
use Rattle.fc_machine.specs.Transactions.{is_completed}
use Rattle.fc_phases.specs.Asking.{txn_of}
use Rattle.fc_phases.specs.Shapes.{rest_of}
use Rattle.fc_phases.specs.declared.values.Opening.{Opening}
use Rattle.fc_protocol.specs.Codes.{invalid_flags, not_supported, read_only}
use Rattle.fc_protocol.specs.Phases.{Turn, adding, preparing, settling}
use Rattle.fc_protocol.specs.declared.states.Decision.TheVariants.{Complete}
use Rattle.fc_store.specs.Stores.{Stored}
use Rattle.fc_transactions.specs.Order.{asked_of, by_verdict, configured, judged}
use Rattle.fc_transactions.specs.Phases.{abort_turn, acts, both_codes, continued, executes, extends, extends_failed, is_admitted, is_held_in, marked, opened_txn, opens, opens_failed, others_held, refuses, rest_outcome, settles, start_turn_by, started, turns}
use Rattle.fc_transactions.specs.Phases as phases
use Rattle.fc_transactions.specs.State.{TransactionState}
use Rattle.fc_transactions.specs.declared.ledger.Ledger.{Ledger}
use Rattle.fc_rounds.specs.Following.{TellSame}

-- ---- where something happens
abbrev pub protocol_place : protocol.Fact → ℕ
protocol_place (protocol.Opened_at p x ps) = p
protocol_place (protocol.Prepared_at p x) = p
protocol_place (protocol.Settled_at p x d) = p
protocol_place (protocol.Claimed_at p e) = p

abbrev pub place : Fact Operation → ℕ
place (Of_protocol f) = protocol_place f
place (Added_at p x ops) = p
place (Plain_at p ops) = p

abbrev pub AreAt : ℕ → List (Fact Operation) → Type 0
AreAt p fs = AllByRecursion (λ (f : Fact Operation). place f ≡ p) fs

-- ---- the facts of another element
module _ (p q : ℕ) (away : (p == q) ≡ false) where
  away_from : (k : ℕ) → k ≡ q → (p == k) ≡ false
  away_from k is = ap (λ n. p == n) is ∙ away

  completes_not : (f : protocol.Fact) (fs : List (Fact Operation)) (before : List Operation) → protocol_place f ≡ q → completed_by p f fs before ≡ before
  completes_not (protocol.Opened_at k x ps) fs before is = refl
  completes_not (protocol.Prepared_at k x) fs before is = refl
  completes_not (protocol.Settled_at k x d) fs before is = ap (λ b. if b then if_complete d (before ++ added p x fs) before else before) (away_from k is)
  completes_not (protocol.Claimed_at k e) fs before is = refl

  adds_not : (b : Bool) (k : ℕ) (more before : List Operation) → k ≡ q → (if p == k && b then more else before) ≡ before
  adds_not b k more before is = ap (λ c. if c && b then more else before) (away_from k is)

  pub not_added : (x : Txn) (new fs : List (Fact Operation)) → AreAt q new → added p x (new ++ fs) ≡ added p x fs
  not_added x [] fs at = refl
  not_added x (Of_protocol f ∷ new) fs at = not_added x new fs at.1
  not_added x (Added_at k y ops ∷ new) fs at = adds_not (same x y) k (added p x (new ++ fs) ++ ops) (added p x (new ++ fs)) at.0 ∙ not_added x new fs at.1
  not_added x (Plain_at k ops ∷ new) fs at = not_added x new fs at.1

  pub not_completed : (new fs : List (Fact Operation)) → AreAt q new → completed p (new ++ fs) ≡ completed p fs
  not_completed [] fs at = refl
  not_completed (Of_protocol f ∷ new) fs at = completes_not f (new ++ fs) (completed p (new ++ fs)) at.0 ∙ not_completed new fs at.1
  not_completed (Added_at k y ops ∷ new) fs at = not_completed new fs at.1
  not_completed (Plain_at k ops ∷ new) fs at = ap (λ b. if b then completed p (new ++ fs) ++ ops else completed p (new ++ fs)) (away_from k at.0) ∙ not_completed new fs at.1

  pub tell_same_still : (new fs gs : List (Fact Operation)) → AreAt q new → TellSame p fs gs → TellSame p (new ++ fs) gs
  tell_same_still new fs gs at same = record { completes = not_completed new fs at ∙ same.completes; adds = λ x. not_added x new fs at ∙ same.adds x }

-- ---- its own
module _ (p : ℕ) (fs gs : List (Fact Operation)) (alike : TellSame p fs gs) where
  pub adds_more : (x : Txn) (new : List (Fact Operation)) → added p x (new ++ fs) ≡ added p x (new ++ gs)
  adds_more x [] = alike.adds x
  adds_more x (Of_protocol f ∷ new) = adds_more x new
  adds_more x (Added_at k y ops ∷ new) = ap (λ before. if p == k && same x y then before ++ ops else before) (adds_more x new)
  adds_more x (Plain_at k ops ∷ new) = adds_more x new

  completes_too : (f : protocol.Fact) (new : List (Fact Operation)) (one other : List Operation) → one ≡ other → completed_by p f (new ++ fs) one ≡ completed_by p f (new ++ gs) other
  completes_too (protocol.Opened_at k x ps) new one other is = is
  completes_too (protocol.Prepared_at k x) new one other is = is
  completes_too (protocol.Settled_at k x d) new one other is = ap₂ (λ before more. if p == k then if_complete d (before ++ more) before else before) is (adds_more x new)
  completes_too (protocol.Claimed_at k e) new one other is = is

  pub completes_more : (new : List (Fact Operation)) → completed p (new ++ fs) ≡ completed p (new ++ gs)
  completes_more [] = alike.completes
  completes_more (Of_protocol f ∷ new) = completes_too f new (completed p (new ++ fs)) (completed p (new ++ gs)) (completes_more new)
  completes_more (Added_at k y ops ∷ new) = completes_more new
  completes_more (Plain_at k ops ∷ new) = ap (λ before. if p == k then before ++ ops else before) (completes_more new)

  pub tell_more : (new : List (Fact Operation)) → TellSame p (new ++ fs) (new ++ gs)
  tell_more new = record { completes = completes_more new; adds = λ x. adds_more x new }

-- ---- all that happens at a Config happens at the element
of_events : (p : ℕ) (x : Txn) (ps : List ℕ) (es : List Event) → AreAt p (of_protocol (facts_of p x ps es))
of_events p x ps [] = tt
of_events p x ps (Opens ∷ es) = (refl, of_events p x ps es)
of_events p x ps (Prepares ∷ es) = (refl, of_events p x ps es)
of_events p x ps (Settles d ∷ es) = (refl, of_events p x ps es)

both_at : (p : ℕ) (fs gs : List protocol.Fact) → AreAt p (of_protocol fs) → AreAt p (of_protocol gs) → AreAt p (of_protocol (fs ++ gs))
both_at p [] gs at more = more
both_at p (f ∷ fs) gs at more = (at.0, both_at p fs gs at.1 more)

undone_if : (p : ℕ) (x : Txn) (d : Decision) (b : Bool) → AreAt p (of_protocol (if b then protocol.Settled_at p x d ∷ [] else []))
undone_if p x d true = (refl, tt)
undone_if p x d false = tt

undone_at : (p : ℕ) (ns : List TxnEntry) → AreAt p (of_protocol (undone_facts p ns))
undone_at p [] = tt
undone_at p (n ∷ ns) = both_at p (undone_facts p ns) _ (undone_at p ns) (undone_if p n.txn _ (still_started n.state))

module _ (p : ℕ) (l : Ledger) where
  props_if : (b : Bool) (ops : List Operation) → AreAt p (if b then [] else Plain_at p ops ∷ [])
  props_if true ops = tt
  props_if false ops = (refl, tt)

  plain_at : (m : Message) (selects : List Select) (b : Bool) → AreAt p (if b then phases.all_get l selects invalid_flags else executes p l m selects).facts
  plain_at m selects true = tt
  plain_at m selects false = props_if (are_props selects) (done_by m selects l.store l.subscriptions).done

  started_if : (o : Opening) (rest : List Select) (done : Outcome Stored Operation) (code : ℕ) (b : Bool) → AreAt p (if b then opens p l o rest done else opens_failed p l o done.codes code).facts
  started_if o rest done code true = (refl, of_events p (opened_txn o) o.participants (start_turn_by true l.records o 0).events)
  started_if o rest done code false = of_events p (opened_txn o) o.participants (start_turn_by true l.records o code).events

  starts_if : (o : Opening) (rest : List Select) (code : ℕ) (b : Bool) → AreAt p (if b then started p l o rest else refuses l rest code).facts
  starts_if o rest code true =
      let done = rest_outcome o.instances (marked o.instances l.store) rest in
      started_if o rest done (first_code done.codes) (first_code done.codes == 0)
  starts_if o rest code false = tt

  continued_if : (x : Txn) (rest : List Select) (done : Outcome Stored Operation) (code : ℕ) (b : Bool) → AreAt p (if b then extends p l x rest done else extends_failed p l x done.codes code).facts
  continued_if x rest done code true = (refl, of_events p x [] (adding 0 (state_at x l.records.entries)).events)
  continued_if x rest done code false = of_events p x [] (adding code (state_at x l.records.entries)).events

  continues_if : (x : Txn) (rest : List Select) (code : ℕ) (b : Bool) → AreAt p (if b then continued p l x rest else refuses l rest code).facts
  continues_if x rest code true =
      let done = rest_outcome (scope_of x l.records.entries) l.store rest in
      continued_if x rest done (first_code done.codes) (first_code done.codes == 0)
  continues_if x rest code false = tt

  completed_if : (x : Txn) (t : Turn) (b : Bool) → AreAt p (if b then settles p l x t (reports_but (others_held l (Some x)) l.store l.subscriptions) else turns p l x [] [] t l.holdings l.store (both_codes t.code)).facts
  completed_if x t true = of_events p x [] t.events
  completed_if x t false = of_events p x [] t.events

  aborted_if : (x : Txn) (t : Turn) (b : Bool) → AreAt p (if b then turns p l x [] [] t (without x l.holdings) (undone x l.holdings l.store) (t.code ∷ []) else turns p l x [] [] t l.holdings l.store (t.code ∷ [])).facts
  aborted_if x t true = of_events p x [] t.events
  aborted_if x t false = of_events p x [] t.events

  acts_at : (epoch : ℕ) (m : Message) (selects : List Select) (a : Asked) → AreAt p (acts p epoch l m selects a).facts
  acts_at epoch m selects (Claim word) = plain_at m selects (waits l.records.entries selects)
  acts_at epoch m selects (Floor f) = tt
  acts_at epoch m selects Plain = plain_at m selects (waits l.records.entries selects)
  acts_at epoch m selects (Start o) = starts_if o (rest_of selects) (start_turn_by (is_admitted p epoch l.store.instances o) l.records o 0).code ((start_turn_by (is_admitted p epoch l.store.instances o) l.records o 0).code == 0)
  acts_at epoch m selects (Change x) = continues_if (txn_of x) (rest_of selects) (adding 0 (state_at (txn_of x) l.records.entries)).code ((adding 0 (state_at (txn_of x) l.records.entries)).code == 0)
  acts_at epoch m selects (Commit x) = of_events p (txn_of x) [] (preparing (state_at (txn_of x) l.records.entries)).events
  acts_at epoch m selects (Completing x) = let t = settling Complete (state_at (txn_of x) l.records.entries) in completed_if (txn_of x) t (is_completed t.new)
  acts_at epoch m selects (Aborting x) = aborted_if (txn_of x) (abort_turn l.records (txn_of x)) (is_held_in (state_at (txn_of x) l.records.entries))
  acts_at epoch m selects Malformed = tt

unclaimed_if : (s : TransactionState) (m : Message) (selects : List Select) (b c : Bool)
    → AreAt s.id (if b then phases.all_get s.ledger selects read_only else (if c then phases.all_get s.ledger selects not_supported else executes s.id s.ledger m selects)).facts
unclaimed_if s m selects true c = tt
unclaimed_if s m selects false true = tt
unclaimed_if s m selects false false = props_if s.id s.ledger (are_props selects) (done_by m selects s.ledger.store s.ledger.subscriptions).done

by_verdict_at : (s : TransactionState) (peer : ℕ) (m : Message) (selects : List Select) (a : Asked) (v : Verdict) → AreAt s.id (by_verdict s peer m selects a v).facts
by_verdict_at s peer m selects a (verdict.Claim e) = (refl, undone_at s.id s.ledger.records.entries)
by_verdict_at s peer m selects a verdict.Unclaimed = unclaimed_if s m selects (not (m.source == s.ce)) m.flags.at
by_verdict_at s peer m selects a verdict.Stale = tt
by_verdict_at s peer m selects a verdict.Again = tt
by_verdict_at s peer m selects a verdict.Gap = tt
by_verdict_at s peer m selects a verdict.Next = acts_at s.id s.ledger s.epoch m selects a

pub config_at : (s : TransactionState) (peer : ℕ) (m : Message) (selects : List Select) → AreAt s.id (configured s peer m selects).facts
unfolding configured
config_at s peer m selects = by_verdict_at s peer m selects (asked_of m selects) (judged s m (asked_of m selects))
