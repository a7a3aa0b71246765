-- What an element sends for a Config that it does is the response and the notices of its reports, to the control element that may configure it.
use Rattle.std.proofs.Common.{◌≡◌, ℕ, ◌+◌, ◌==◌, ◌&&◌, not, Bool, true, false, cond, List, [], ◌∷◌, ◌++◌, Option, Some, None, refl, sym, ap, ◌∙◌, subst, eqb-true, eq-eqb, if◌then◌else◌}
use Rattle.std.specs.Cmp.{nat_cmp_total, unsigned_tied}
use Rattle.std.specs.FinMap.{contains_key, get, get-insert, insert}
use Rattle.fc_assoc.specs.Associations.{AssociationMap, heard_at, renewed}
use Rattle.fc_element.proofs.Ledgered.{after_ledgered}
use Rattle.fc_element.specs.ElementMachine.{Turn, all_get, by_order, ce_of, hearing_if, id_of, is_associated, is_ce, is_own, ledger_of, on_body, step, taking, turn, with_transactions}
use Rattle.fc_element.specs.ElementState.{ElementState, opened, restarted}
use Rattle.fc_element.specs.Runs.{Taken, after, did_at, did_by, ledgered, taken, taken_body, taken_if}
use Rattle.fc_element.specs.declared.input.ElIn.{ElIn}
use Rattle.fc_element.specs.declared.input.ElIn.TheVariants.{Arrived}
use Rattle.fc_events.specs.declared.subscriptions.Notice.{Notice}
use Rattle.fc_lives.specs.SettledEvents.{with_restarts}
use Rattle.fc_lives.specs.Told.{IsOver, Takes, TellsReports}
use Rattle.fc_msg.specs.Messages.{message_fits}
use Rattle.fc_msg.specs.declared.message.Message.{Message}
use Rattle.fc_msg.specs.declared.message.MsgBody.{MsgBody}
use Rattle.fc_msg.specs.declared.message.MsgBody.TheVariants as body
use Rattle.fc_path.specs.Results.{results_fit}
use Rattle.fc_path.specs.declared.oper.Select.{Select}
use Rattle.fc_performing.specs.Notices.{notice_outs, route}
use Rattle.fc_performing.specs.Sending.{responses}
use Rattle.fc_performing.specs.declared.out.Out.{Out}
use Rattle.fc_phases.specs.declared.asked.Asked.{Asked}
use Rattle.fc_protocol.specs.Codes.{not_supported, read_only}
use Rattle.fc_protocol.specs.Fence.{claims, judge}
use Rattle.fc_protocol.specs.Messages.{Stamp, stamp}
use Rattle.fc_protocol.specs.declared.verdict.Verdict.{Verdict}
use Rattle.fc_protocol.specs.declared.verdict.Verdict.TheVariants.{Claim as Claims, Unclaimed, Stale, Again, Gap, Next}
use Rattle.fc_reply.specs.Replies.{reply}
use Rattle.fc_store.proofs.Lists.{none_some, some_is}
use Rattle.fc_transactions.specs.Order.{Step, asked_of, by_verdict, claim_in, configured, judged, unclaimed}
use Rattle.fc_transactions.specs.Phases.{Did, acts, executes}
use Rattle.fc_transactions.specs.Phases as phases
use Rattle.fc_transactions.specs.State.{TransactionState}
use Rattle.fc_types.specs.declared.class.Class.{Class}

-- ---- the control element of an element that was claimed is its master
abbrev IsMasters : TransactionState → Type 0
IsMasters t = (t.epoch == 0) ≡ false → t.ce ≡ t.master

masters_stay : (t : TransactionState) (peer : ℕ) (m : Message) (selects : List Select) (a : Asked) (v : Verdict) → IsMasters t → IsMasters (by_verdict t peer m selects a v).state
masters_stay t peer m selects a (Claims e) h = λ _. refl
masters_stay t peer m selects a Unclaimed h = h
masters_stay t peer m selects a Stale h = h
masters_stay t peer m selects a Again h = h
masters_stay t peer m selects a Gap h = h
masters_stay t peer m selects a Next h = h

masters_configured : (t : TransactionState) (peer : ℕ) (m : Message) (selects : List Select) → IsMasters t → IsMasters (configured t peer m selects).state
unfolding configured
masters_configured t peer m selects h = masters_stay t peer m selects (asked_of m selects) (judged t m (asked_of m selects)) h

masters_all : (cs : List Taken) (t : TransactionState) → IsMasters t → IsMasters (ledgered t cs).state
masters_all [] t h = h
masters_all (c ∷ cs) t h = masters_all cs (configured t c.peer c.message c.selects).state (masters_configured t c.peer c.message c.selects h)

masters_after : (s : ElementState) (is : List ElIn) → IsMasters s.transactions → IsMasters (after s is).transactions
masters_after s is h = subst IsMasters (sym (after_ledgered s is)) (masters_all (taken s is) s.transactions h)

masters_runs : (s : ElementState) (runs : List (List ElIn)) → IsMasters s.transactions → IsMasters (with_restarts s runs).transactions
masters_runs s [] h = h
masters_runs s (is ∷ runs) h = masters_runs (restarted (after s is)) runs (masters_after s is h)

-- ---- whose Config it is
-- the next one is of the master of an element that was claimed
next_by : (a b c d e f : Bool) (life : ℕ) → cond a (Claims life) (cond b Unclaimed (cond (c && f) (cond d Again (cond e Next Gap)) Stale)) ≡ Next → (b ≡ false) × (f ≡ true)
next_by true b c d e f life h = absurd cc
next_by false true c d e f life h = absurd cc
next_by false false true true e true life h = absurd cc
next_by false false true false true true life h = (refl, refl)
next_by false false true false false true life h = absurd cc
next_by false false true d e false life h = absurd cc
next_by false false false d e f life h = absurd cc

-- where there are notices, the Config was of the control element that may configure the element
abbrev IsOfCe : TransactionState → Message → Did → Type 0
IsOfCe t m d = (n : Notice) (ns : List Notice) → d.notices ≡ n ∷ ns → m.source ≡ t.ce

cons_nil : {X : Type 0} {x : X} {xs : List X} {R : Type 0} → x ∷ xs ≡ [] → R
cons_nil e = absurd cc

unclaimed_of : (t : TransactionState) (m : Message) (selects : List Select) (b : Bool) → (m.source == t.ce) ≡ b → IsOfCe t m (cond (not b) (phases.all_get t.ledger selects read_only) (if m.flags.at then phases.all_get t.ledger selects not_supported else executes t.id t.ledger m selects))
unclaimed_of t m selects true e = λ n ns _. eqb-true m.source t.ce e
unclaimed_of t m selects false e = λ n ns h. cons_nil (sym h)

module _ (t : TransactionState) (peer : ℕ) (m : Message) (selects : List Select) (d : Did) where
  of_ce : IsMasters t → (a : Asked) (v : Verdict) → judged t m a ≡ v → did_by t m selects a v ≡ Some d → IsOfCe t m d
  of_ce h a (Claims e) is did = absurd (none_some d did)
  of_ce h a Unclaimed is did = subst (IsOfCe t m) (some_is _ d did) (unclaimed_of t m selects (m.source == t.ce) refl)
  of_ce h a Stale is did = absurd (none_some d did)
  of_ce h a Again is did = absurd (none_some d did)
  of_ce h a Gap is did = absurd (none_some d did)
  of_ce h a Next is did =
      let x = next_by (claims t.epoch m.source (stamp m.corr) (claim_in a)) (t.epoch == 0) ((stamp m.corr).life == t.epoch) ((stamp m.corr).count == t.sequence) ((stamp m.corr).count == t.sequence + 1) (m.source == t.master) (stamp m.corr).life is in
      λ n ns _. eqb-true m.source t.master x.1 ∙ sym (h x.0)

  -- what the step of the Config gives
  record Does (r : Step) : Type 0 where
    outs : r.outs ≡ responses peer (reply m selects d.codes) ++ notice_outs d.ledger.store.library (route t.id m.source peer) d.notices
    heard : r.is_heard ≡ true
    ce : r.state.ce ≡ t.ce

  does_as : (r : Step) (did : Did) → did ≡ d → r.outs ≡ responses peer (reply m selects did.codes) ++ notice_outs did.ledger.store.library (route t.id m.source peer) did.notices → r.is_heard ≡ true → r.state.ce ≡ t.ce → Does r
  does_as r did e o h c = record {
    outs = o ∙ ap (λ (x : Did). responses peer (reply m selects x.codes) ++ notice_outs x.ledger.store.library (route t.id m.source peer) x.notices) e;
    heard = h;
    ce = c;
  }

  does_by : (a : Asked) (v : Verdict) → did_by t m selects a v ≡ Some d → Does (by_verdict t peer m selects a v)
  does_by a (Claims e) did = absurd (none_some d did)
  does_by a Unclaimed did = does_as (by_verdict t peer m selects a Unclaimed) (unclaimed t m selects) (some_is _ d did) refl refl refl
  does_by a Stale did = absurd (none_some d did)
  does_by a Again did = absurd (none_some d did)
  does_by a Gap did = absurd (none_some d did)
  does_by a Next did = does_as (by_verdict t peer m selects a Next) (acts t.id t.epoch t.ledger m selects a) (some_is _ d did) refl refl refl

  does_configured : did_at t m selects ≡ Some d → Does (configured t peer m selects)
  unfolding configured
  does_configured did = does_by (asked_of m selects) (judged t m (asked_of m selects)) did

-- ---- the step of the element
module _ (s : ElementState) (peer : ℕ) (m : Message) (selects : List Select) (c : Taken) where
  abbrev done : Turn
  done = taking s peer m (configured s.transactions peer m selects)

  -- it takes the Config of an associated sender
  abbrev IsDone : Turn → Type 0
  IsDone t = (is_associated s m ≡ true) × (t ≡ done)

  order_done : (a b e f : Bool) → is_associated s m ≡ a → taken_if (a && (b && (e && not f))) (record { peer = peer; message = m; selects = selects }) ≡ c ∷ []
      → IsDone (cond a (cond (not b) (turn s []) (cond (not e) (all_get s peer m selects 4) (cond f (all_get s peer m selects 18) done))) (turn s []))
  order_done false b e f h k = cons_nil (sym k)
  order_done true false e f h k = cons_nil (sym k)
  order_done true true false f h k = cons_nil (sym k)
  order_done true true true true h k = cons_nil (sym k)
  order_done true true true false h k = (h, refl)

  message_done : (b : Bool) → cond b (taken_body s peer m (body.Config selects)) [] ≡ c ∷ [] → IsDone (cond b (on_body s peer m (body.Config selects)) (turn s []))
  message_done false k = cons_nil (sym k)
  message_done true k = order_done (is_associated s m) (results_fit selects && message_fits m) (is_own s m) (m.flags.em == 0) refl k

  step_done : m.body ≡ body.Config selects → cond (is_ce m.source) (taken_body s peer m m.body) [] ≡ c ∷ [] → IsDone (step s (Arrived peer m))
  unfolding step
  step_done is k =
      subst (λ b. IsDone (cond (is_ce m.source) (on_body s peer m b) (turn s []))) (sym is)
      (message_done (is_ce m.source) (ap (λ b. cond (is_ce m.source) (taken_body s peer m b) []) (sym is) ∙ k))

-- notices go to the same one, whoever it is, where there are none
routed : (library : List Class) (id from to peer : ℕ) (ns : List Notice) → ((n : Notice) (more : List Notice) → ns ≡ n ∷ more → from ≡ to) → notice_outs library (route id from peer) ns ≡ notice_outs library (route id to peer) ns
routed library id from to peer [] f = refl
routed library id from to peer (n ∷ ns) f = ap (λ who. notice_outs library (route id who peer) (n ∷ ns)) (f n ns refl)

-- who was heard has an association over the peer
heard_over : (m : AssociationMap) (ce now peer : ℕ) (b : Bool) → contains_key m ce ≡ b → b ≡ true → get (cond b (insert m ce (heard_at now peer)) m) ce ≡ Some (heard_at now peer)
heard_over m ce now peer true e h = get-insert nat_cmp_total m ce (heard_at now peer) ce ∙ ap (λ b. cond b (Some (heard_at now peer)) (get m ce)) (unsigned_tied ce ce ∙ eq-eqb ce ce refl)
heard_over m ce now peer false e h = absurd (let k : false ≡ true = h in cc)

module _ (s : ElementState) (peer : ℕ) (m : Message) (selects : List Select) (d : Did) where
  abbrev r : Step
  r = configured s.transactions peer m selects

  tells : IsMasters s.transactions → m.body ≡ body.Config selects → Takes s peer m selects → did_at s.transactions m selects ≡ Some d → TellsReports s peer m selects d
  tells h is takes did =
      let at = step_done s peer m selects (record { peer = peer; message = m; selects = selects }) is takes in
      let does = does_configured s.transactions peer m selects d did in
      let whom = of_ce s.transactions peer m selects d h (asked_of m selects) (judged s.transactions m (asked_of m selects)) refl did in
      let same : (step s (Arrived peer m)).state ≡ hearing_if true (with_transactions s r.state) peer m = ap (λ (t : Turn). t.state) at.1 ∙ ap (λ b. hearing_if b (with_transactions s r.state) peer m) does.heard in
      let ce : ce_of (step s (Arrived peer m)).state ≡ ce_of s = ap ce_of same ∙ does.ce in
      let of : (n : Notice) (ns : List Notice) → d.notices ≡ n ∷ ns → m.source ≡ ce_of (step s (Arrived peer m)).state = λ n ns e. whom n ns e ∙ sym ce in
      record {
        outs =
            ap (λ (t : Turn). t.outs) at.1 ∙ does.outs
            ∙ ap (λ ns. responses peer (reply m selects d.codes) ++ ns) (routed d.ledger.store.library (id_of s) m.source (ce_of (step s (Arrived peer m)).state) peer d.notices of);
        source = of;
        over = λ n ns e. (
          s.clock,
          ap (λ (t : ElementState). get t.associations (ce_of (step s (Arrived peer m)).state)) same
              ∙ ap (λ who. get (renewed s.associations m.source peer s.clock) who) (sym (of n ns e))
              ∙ heard_over s.associations m.source s.clock peer (is_associated s m) refl at.0,
        );
      }

pub always_told : (id ce : ℕ) (library : List Class) (instances : List (ℕ × ℕ)) (runs : List (List ElIn)) (is : List ElIn) (peer : ℕ) (m : Message) (selects : List Select) (d : Did)
    → let s = after (with_restarts (opened id ce library instances) runs) is in m.body ≡ body.Config selects → Takes s peer m selects → did_at s.transactions m selects ≡ Some d → TellsReports s peer m selects d
always_told id ce library instances runs is peer m selects d =
    let s = with_restarts (opened id ce library instances) runs in
    tells (after s is) peer m selects d (masters_after s is (masters_runs (opened id ce library instances) runs (λ e. absurd (let k : true ≡ false = e in cc))))
