-- What is registered, and what is told, over the whole life of an element.
use Rattle.std.proofs.Common.{◌≡◌, ℕ, ◌==◌, ◌&&◌, not, Bool, true, false, cond, List, [], ◌∷◌, Option, Some, None, refl, subst}
use Rattle.std.specs.FinMap.{remove}
use Rattle.fc_assoc.specs.Associations.{entered}
use Rattle.fc_base.specs.Ids.{Txn}
use Rattle.fc_element.specs.ElementMachine.{Turn, turn, all_get, answer_to, beaten, beats_of, by_order, hearing, hearing_if, id_of, is_associated, is_ce, is_due, is_own, ledger_of, moved_on, on_body, on_moment, query_answer, query_outs, step, taking, watched, with_associations, with_transactions}
use Rattle.fc_element.specs.ElementState.{ElementState, opened}
use Rattle.fc_element.specs.Runs.{after, did_at, did_by}
use Rattle.fc_element.specs.declared.input.ElIn.{ElIn}
use Rattle.fc_element.specs.declared.input.ElIn.TheVariants.{Opened, Arrived, Closed, Moment}
use Rattle.fc_element.proofs.Configuring.{IsResponse}
use Rattle.fc_element.proofs.Runs.{kept_responds, step_responds}
use Rattle.fc_events.specs.Order.{DoRise, NeverFall, places, told_places}
use Rattle.fc_events.specs.Reports.{reports_but}
use Rattle.fc_events.specs.Setting.{exec_outcome}
use Rattle.fc_events.specs.declared.subscriptions.Subscription.{Subscription}
use Rattle.fc_events.proofs.Order.{never_fall, reported_rises}
use Rattle.fc_exec.specs.Operations.{executed}
use Rattle.fc_modes.specs.declared.mode.Mode.{Mode}
use Rattle.fc_machine.specs.Transactions.{is_completed}
use Rattle.fc_msg.specs.Messages.{message_fits}
use Rattle.fc_msg.specs.declared.message.Message.{Message}
use Rattle.fc_msg.specs.declared.message.MsgBody.{MsgBody}
use Rattle.fc_msg.specs.declared.message.MsgBody.TheVariants.{Setup, SetupResponse, Teardown, Config, ConfigResponse, Query, QueryResponse, Event, Heartbeat}
use Rattle.fc_path.specs.Results.{results_fit}
use Rattle.fc_path.specs.declared.oper.Select.{Select}
use Rattle.fc_performing.specs.Notices.{route}
use Rattle.fc_performing.specs.Performing.{Performed, are_props, configured as performed_so, done_by, evaluated, mode_of, registered}
use Rattle.fc_performing.specs.Sending.{out}
use Rattle.fc_phases.specs.Asking.{txn_of}
use Rattle.fc_phases.specs.Shapes.{rest_of}
use Rattle.fc_phases.specs.declared.asked.Asked.{Asked}
use Rattle.fc_phases.specs.declared.asked.Asked.TheVariants as asks
use Rattle.fc_phases.specs.declared.values.Opening.{Opening}
use Rattle.fc_protocol.specs.Phases.{Turn as PhaseTurn, adding, settling}
use Rattle.fc_protocol.specs.declared.states.Decision.TheVariants.{Complete}
use Rattle.fc_protocol.specs.declared.verdict.Verdict.{Verdict}
use Rattle.fc_protocol.specs.declared.verdict.Verdict.TheVariants.{Claim, Unclaimed, Stale, Again, Gap, Next}
use Rattle.fc_reply.specs.Counting.{each_gets}
use Rattle.fc_store.specs.Stores.{Stored}
use Rattle.fc_types.specs.declared.class.Class.{Class}
use Rattle.fc_telling.specs.ToldEvents.{told_by}
use Rattle.fc_telling.proofs.Registered.{whole_rises}
use Rattle.fc_telling.proofs.Told.{down_falls, kept_falls, moment_falls, reply_falls, says_falls}
use Rattle.fc_holding.specs.Held.{scope_of, state_at, waits}
use Rattle.fc_machine.specs.ElementState.{first_code}
use Rattle.fc_modes.specs.Modes.{Outcome}
use Rattle.fc_exec.specs.declared.operations.Operation.{Operation}
use Rattle.fc_transactions.specs.Order.{Step, asked_of, by_verdict, configured, judged, says, unclaimed}
use Rattle.fc_transactions.specs.Phases.{Did, aborted_by, acts, completed_by, completes, continued, continued_by, continues, continues_by, executes, extends, extends_failed, floors, idles, is_admitted, is_held_in, abort_turn, marked, opens, opens_failed, others_held, performs, plain, refuses, rest_outcome, settles, start_turn_by, started, started_by, starts, starts_by, turns, both_codes}
use Rattle.fc_transactions.specs.Phases as phases
use Rattle.fc_transactions.specs.State.{TransactionState}
use Rattle.fc_transactions.specs.declared.ledger.Ledger.{Ledger}

-- ---- what a Config does
-- what is registered afterwards rises, and what is told never falls
abbrev IsOrdered : Did → Type 0
IsOrdered d = DoRise (places d.ledger.subscriptions) × NeverFall (told_places d.notices)

performed_by : (mode : Mode) (store : Stored) (subs : List Subscription) (selects : List Select) (b : Bool) → DoRise (places subs)
    → DoRise (places (cond b (registered store (exec_outcome mode store subs selects)) (performed_so subs (executed mode store selects))).subscriptions)
performed_by mode store subs selects true h = whole_rises mode store subs selects h
performed_by mode store subs selects false h = h

performed_rises : (m : Message) (selects : List Select) (store : Stored) (subs : List Subscription) → DoRise (places subs) → DoRise (places (done_by m selects store subs).subscriptions)
performed_rises m selects store subs h = performed_by (mode_of m.flags.em) store subs selects (are_props selects) h

module _ (p : ℕ) (l : Ledger) (rises : DoRise (places l.subscriptions)) where
  performs_ordered : (selects : List Select) (held : List (ℕ × ℕ)) (done : Performed) → DoRise (places done.subscriptions) → IsOrdered (performs p l selects held done)
  performs_ordered selects held done h = (reported_rises held done.store done.subscriptions h, never_fall held done.store done.subscriptions h)

  executes_ordered : (m : Message) (selects : List Select) → IsOrdered (executes p l m selects)
  executes_ordered m selects = performs_ordered selects (others_held l None) (done_by m selects l.store l.subscriptions) (performed_rises m selects l.store l.subscriptions rises)

  idles_ordered : (codes : List ℕ) → IsOrdered (idles l codes)
  idles_ordered codes = (rises, tt)

  plain_by : (m : Message) (selects : List Select) (b : Bool) → IsOrdered (cond b (phases.all_get l selects 18) (executes p l m selects))
  plain_by m selects true = (rises, tt)
  plain_by m selects false = executes_ordered m selects

  plain_ordered : (m : Message) (selects : List Select) → IsOrdered (plain p l m selects)
  plain_ordered m selects = plain_by m selects (waits l.records.entries selects)

  started_ordered : (o : Opening) (rest : List Select) (done : Outcome Stored Operation) (code : ℕ) (b : Bool) → IsOrdered (cond b (opens p l o rest done) (opens_failed p l o done.codes code))
  started_ordered o rest done code true = (rises, tt)
  started_ordered o rest done code false = (rises, tt)

  starts_ordered_by : (o : Opening) (rest : List Select) (code : ℕ) (b : Bool) → IsOrdered (cond b (started p l o rest) (refuses l rest code))
  starts_ordered_by o rest code true =
      let done = rest_outcome o.instances (marked o.instances l.store) rest in
      started_ordered o rest done (first_code done.codes) (first_code done.codes == 0)
  starts_ordered_by o rest code false = (rises, tt)

  starts_ordered : (epoch : ℕ) (o : Opening) (rest : List Select) → IsOrdered (starts p epoch l o rest)
  starts_ordered epoch o rest = let code = (start_turn_by (is_admitted p epoch l.store.instances o) l.records o 0).code in starts_ordered_by o rest code (code == 0)

  continued_ordered : (x : Txn) (rest : List Select) (done : Outcome Stored Operation) (code : ℕ) (b : Bool) → IsOrdered (cond b (extends p l x rest done) (extends_failed p l x done.codes code))
  continued_ordered x rest done code true = (rises, tt)
  continued_ordered x rest done code false = (rises, tt)

  continues_ordered_by : (x : Txn) (rest : List Select) (code : ℕ) (b : Bool) → IsOrdered (cond b (continued p l x rest) (refuses l rest code))
  continues_ordered_by x rest code true =
      let done = rest_outcome (scope_of x l.records.entries) l.store rest in
      continued_ordered x rest done (first_code done.codes) (first_code done.codes == 0)
  continues_ordered_by x rest code false = (rises, tt)

  continues_ordered : (x : Txn) (rest : List Select) → IsOrdered (continues p l x rest)
  continues_ordered x rest = let code = (adding 0 (state_at x l.records.entries)).code in continues_ordered_by x rest code (code == 0)

  completed_ordered : (x : Txn) (t : PhaseTurn) (b : Bool)
      → IsOrdered (cond b (settles p l x t (reports_but (others_held l (Some x)) l.store l.subscriptions)) (turns p l x [] [] t l.holdings l.store (both_codes t.code)))
  completed_ordered x t true = (reported_rises (others_held l (Some x)) l.store l.subscriptions rises, never_fall (others_held l (Some x)) l.store l.subscriptions rises)
  completed_ordered x t false = (rises, tt)

  completes_ordered : (x : Txn) → IsOrdered (completes p l x)
  completes_ordered x = let t = settling Complete (state_at x l.records.entries) in completed_ordered x t (is_completed t.new)

  aborted_ordered : (x : Txn) (b : Bool) (t : PhaseTurn) → IsOrdered (aborted_by p l x b t)
  aborted_ordered x true t = (rises, tt)
  aborted_ordered x false t = (rises, tt)

  acts_ordered : (epoch : ℕ) (m : Message) (selects : List Select) (a : Asked) → IsOrdered (acts p epoch l m selects a)
  acts_ordered epoch m selects (asks.Claim word) = plain_ordered m selects
  acts_ordered epoch m selects (asks.Floor f) = (rises, tt)
  acts_ordered epoch m selects asks.Plain = plain_ordered m selects
  acts_ordered epoch m selects (asks.Start o) = starts_ordered epoch o (rest_of selects)
  acts_ordered epoch m selects (asks.Change x) = continues_ordered (txn_of x) (rest_of selects)
  acts_ordered epoch m selects (asks.Commit x) = (rises, tt)
  acts_ordered epoch m selects (asks.Complete x) = completes_ordered (txn_of x)
  acts_ordered epoch m selects (asks.Abort x) = aborted_ordered (txn_of x) (is_held_in (state_at (txn_of x) l.records.entries)) (abort_turn l.records (txn_of x))
  acts_ordered epoch m selects asks.Malformed = (rises, tt)

module _ (t : TransactionState) (rises : DoRise (places t.ledger.subscriptions)) (m : Message) (selects : List Select) where
  unclaimed_by : (a b : Bool) → IsOrdered (cond (not a) (phases.all_get t.ledger selects 12) (cond b (phases.all_get t.ledger selects 21) (executes t.id t.ledger m selects)))
  unclaimed_by false b = (rises, tt)
  unclaimed_by true true = (rises, tt)
  unclaimed_by true false = executes_ordered t.id t.ledger rises m selects

  unclaimed_ordered : IsOrdered (unclaimed t m selects)
  unclaimed_ordered = unclaimed_by (m.source == t.ce) m.flags.at

  next_ordered : (a : Asked) → IsOrdered (acts t.id t.epoch t.ledger m selects a)
  next_ordered a = acts_ordered t.id t.ledger rises t.epoch m selects a

  -- what was done where anything was
  abbrev IsOrderedIf : Option Did → Type 0
  IsOrderedIf None = Unit {0}
  IsOrderedIf (Some d) = IsOrdered d

  did_ordered : (a : Asked) (v : Verdict) → IsOrderedIf (did_by t m selects a v)
  did_ordered a (Claim e) = tt
  did_ordered a Unclaimed = unclaimed_ordered
  did_ordered a Stale = tt
  did_ordered a Again = tt
  did_ordered a Gap = tt
  did_ordered a Next = next_ordered a

  pub done_ordered : (d : Did) → did_at t m selects ≡ Some d → NeverFall (told_places d.notices)
  done_ordered d e = let h : IsOrderedIf (Some d) = subst IsOrderedIf e (did_ordered (asked_of m selects) (judged t m (asked_of m selects))) in h.1

  -- what is registered, and sent, by one Config
  abbrev IsStepOrdered : Step → Type 0
  IsStepOrdered u = DoRise (places u.state.ledger.subscriptions) × NeverFall (told_by u.outs)

  said_ordered : (peer : ℕ) (d : Did) → IsOrdered d → NeverFall (told_by (says t.id peer m selects d))
  said_ordered peer d h = says_falls peer m selects d.codes d.ledger.store.library (route t.id m.source peer) d.notices h.1

  verdict_ordered : (peer : ℕ) → IsResponse t.kept → (a : Asked) (v : Verdict) → IsStepOrdered (by_verdict t peer m selects a v)
  verdict_ordered peer k a (Claim e) = (rises, reply_falls peer m selects (each_gets 0 selects))
  verdict_ordered peer k a Unclaimed = (unclaimed_ordered.0, said_ordered peer (unclaimed t m selects) unclaimed_ordered)
  verdict_ordered peer k a Stale = (rises, said_ordered peer (phases.all_get t.ledger selects 12) (rises, tt))
  verdict_ordered peer k a Again = (rises, kept_falls peer t.kept k)
  verdict_ordered peer k a Gap = (rises, said_ordered peer (phases.all_get t.ledger selects 16) (rises, tt))
  verdict_ordered peer k a Next = ((next_ordered a).0, said_ordered peer (acts t.id t.epoch t.ledger m selects a) (next_ordered a))

  pub configured_ordered : (peer : ℕ) → IsResponse t.kept → IsStepOrdered (configured t peer m selects)
  unfolding configured
  configured_ordered peer k = verdict_ordered peer k (asked_of m selects) (judged t m (asked_of m selects))

-- ---- one input
-- what is registered after an input rises, and what is told at it never falls
abbrev IsInOrder : Turn → Type 0
IsInOrder t = DoRise (places (ledger_of t.state).subscriptions) × NeverFall (told_by t.outs)

module _ (s : ElementState) (rises : DoRise (places (ledger_of s).subscriptions)) (kept : IsResponse s.transactions.kept) (peer : ℕ) (m : Message) where
  all_get_ordered : (selects : List Select) (code : ℕ) → IsInOrder (all_get s peer m selects code)
  all_get_ordered selects code = (rises, reply_falls peer m selects (each_gets code selects))

  heard_rises : (b : Bool) (t : TransactionState) → DoRise (places t.ledger.subscriptions) → DoRise (places (ledger_of (hearing_if b (with_transactions s t) peer m)).subscriptions)
  heard_rises true t h = h
  heard_rises false t h = h

  taking_ordered : (selects : List Select) → IsInOrder (taking s peer m (configured s.transactions peer m selects))
  taking_ordered selects =
      let h = configured_ordered s.transactions rises m selects peer kept in
      (heard_rises (configured s.transactions peer m selects).is_heard (configured s.transactions peer m selects).state h.0, h.1)

  order_ordered : (selects : List Select) (a b c : Bool)
      → IsInOrder (cond (not a) (turn s []) (cond (not b) (all_get s peer m selects 4) (cond c (all_get s peer m selects 18) (taking s peer m (configured s.transactions peer m selects)))))
  order_ordered selects false b c = (rises, tt)
  order_ordered selects true false c = all_get_ordered selects 4
  order_ordered selects true true true = all_get_ordered selects 18
  order_ordered selects true true false = taking_ordered selects

  config_ordered : (selects : List Select) (b : Bool) → IsInOrder (cond b (by_order s peer m selects) (turn s []))
  config_ordered selects true = order_ordered selects (results_fit selects && message_fits m) (is_own s m) (m.flags.em == 0)
  config_ordered selects false = (rises, tt)

  answer_falls : (selects : List Select) (b : Bool) → NeverFall (told_by (cond b (out peer (query_answer s m selects) ∷ []) []))
  answer_falls selects true = tt
  answer_falls selects false = tt

  query_ordered : (selects : List Select) (b : Bool) → IsInOrder (cond b (turn (hearing s peer m) (query_outs s peer m selects)) (turn s []))
  query_ordered selects true = (rises, answer_falls selects (results_fit selects))
  query_ordered selects false = (rises, tt)

  response_ordered : (b : Bool) → IsInOrder (cond b (turn (with_associations s (entered s.associations m.source peer s.clock)) []) (turn s []))
  response_ordered true = (rises, tt)
  response_ordered false = (rises, tt)

  heartbeat_falls : (b : Bool) → NeverFall (told_by (cond b (out peer (answer_to m) ∷ []) []))
  heartbeat_falls true = tt
  heartbeat_falls false = tt

  body_ordered : (body : MsgBody) → IsInOrder (on_body s peer m body)
  body_ordered (Setup selects) = (rises, tt)
  body_ordered (SetupResponse result) = response_ordered (is_own s m && result == 0)
  body_ordered (Teardown reason) = (rises, down_falls s (remove s.associations m.source))
  body_ordered (Config selects) = config_ordered selects (is_associated s m)
  body_ordered (ConfigResponse selects) = (rises, tt)
  body_ordered (Query selects) = query_ordered selects (is_associated s m)
  body_ordered (QueryResponse selects) = (rises, tt)
  body_ordered (Event selects) = (rises, tt)
  body_ordered Heartbeat = (rises, heartbeat_falls (is_associated s m && m.flags.ack == 3))

  message_ordered : (b : Bool) → IsInOrder (cond b (on_body s peer m m.body) (turn s []))
  message_ordered true = body_ordered m.body
  message_ordered false = (rises, tt)

beating_rises : (w : ElementState) (b : Bool) → DoRise (places (ledger_of w).subscriptions) → DoRise (places (cond b (turn (beaten w) (beats_of (id_of w) w.associations)) (turn w [])).state.transactions.ledger.subscriptions)
beating_rises w true h = h
beating_rises w false h = h

moment_ordered : (s : ElementState) (moment : ℕ) → DoRise (places (ledger_of s).subscriptions) → IsInOrder (on_moment (moved_on s moment))
moment_ordered s moment h =
    let w = watched (moved_on s moment) in
    (beating_rises w (is_due w) h, moment_falls (moved_on s moment) w.associations w)

step_ordered : (s : ElementState) (i : ElIn) → DoRise (places (ledger_of s).subscriptions) → IsResponse s.transactions.kept → IsInOrder (step s i)
unfolding step
step_ordered s (Opened peer) h k = (h, tt)
step_ordered s (Arrived peer m) h k = message_ordered s h k peer m (is_ce m.source)
step_ordered s (Closed peer) h k = (h, tt)
step_ordered s (Moment moment) h k = moment_ordered s moment h

-- ---- all inputs
after_rises : (s : ElementState) (is : List ElIn) → DoRise (places (ledger_of s).subscriptions) → IsResponse s.transactions.kept → DoRise (places (ledger_of (after s is)).subscriptions)
after_rises s [] h k = h
after_rises s (i ∷ is) h k = after_rises (step s i).state is (step_ordered s i h k).0 (step_responds s i k)

pub always_rises : (id ce : ℕ) (library : List Class) (instances : List (ℕ × ℕ)) (is : List ElIn) → DoRise (places (ledger_of (after (opened id ce library instances) is)).subscriptions)
always_rises id ce library instances is = after_rises (opened id ce library instances) is tt tt

pub always_done : (id ce : ℕ) (library : List Class) (instances : List (ℕ × ℕ)) (is : List ElIn) (m : Message) (selects : List Select) (d : Did)
    → did_at (after (opened id ce library instances) is).transactions m selects ≡ Some d → NeverFall (told_places d.notices)
always_done id ce library instances is m selects d e =
    done_ordered (after (opened id ce library instances) is).transactions (always_rises id ce library instances is) m selects d e

pub always_sent : (id ce : ℕ) (library : List Class) (instances : List (ℕ × ℕ)) (is : List ElIn) (i : ElIn) → NeverFall (told_by (step (after (opened id ce library instances) is) i).outs)
always_sent id ce library instances is i =
    (step_ordered (after (opened id ce library instances) is) i (always_rises id ce library instances is) (kept_responds id ce library instances is)).1
