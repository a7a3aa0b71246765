-- What a Config that is taken well makes of an element, and what is sent then: one response, and event notices behind it.
use Rattle.std.proofs.Common.{[], ◌≡◌, ℕ, ◌==◌, ◌&&◌, Bool, true, false, List, ◌∷◌, ◌++◌, Option, Some, None, is_none, refl, sym, ap, ◌∙◌, subst, eq-eqb, if◌then◌else◌}
use Rattle.std.specs.FinMap.{contains_key}
use Rattle.std.specs.List.{AllByRecursion}
use Rattle.fc_element.specs.ElementMachine.{Turn, all_get, hearing_if, id_of, is_associated, is_ce, is_own, step, taking, turn, with_transactions}
use Rattle.fc_element.specs.ElementState.{ElementState}
use Rattle.fc_element.specs.declared.input.ElIn.TheVariants.{Arrived}
use Rattle.fc_events.specs.declared.subscriptions.Notice.{Notice}
use Rattle.fc_rounds.proofs.Elements.{as_chosen}
use Rattle.fc_headline.proofs.Served.{still_there}
use Rattle.fc_msg.specs.Messages.{message_fits}
use Rattle.fc_msg.specs.declared.message.Message.{Message}
use Rattle.fc_path.specs.Results.{results_fit}
use Rattle.fc_path.specs.declared.oper.Select.{Select}
use Rattle.fc_performing.specs.Notices.{notice_message, notice_out, notice_outs, route, sent_if}
use Rattle.fc_performing.specs.Sending.{out, responses}
use Rattle.fc_performing.specs.declared.out.Out.{Out}
use Rattle.fc_performing.specs.declared.out.Route.{Route}
use Rattle.fc_protocol.specs.Fence.{judge}
use Rattle.fc_protocol.specs.Messages.{stamp}
use Rattle.fc_protocol.specs.declared.verdict.Verdict.TheVariants.{Next}
use Rattle.fc_reply.specs.Answered.{answered_selects}
use Rattle.fc_reply.specs.Replies.{is_wanted, reply, response, with_selects}
use Rattle.fc_transactions.specs.Order.{Step, asked_of, by_verdict, claim_in, configured}
use Rattle.fc_transactions.specs.Phases.{Did, acts}
use Rattle.fc_transactions.specs.State.{TransactionState}
use Rattle.fc_types.specs.declared.class.Class.{Class}
use Rattle.fc_rounds.proofs.Delivering.{TakesWell, last_of}
use Rattle.fc_rounds.proofs.Spelling.{IsAnswered}
use Rattle.fc_rounds.specs.CleanRound.{tells_event}

-- ---- what is sent
if_told : (b : Bool) (m : Message) (ss : List Select) (r : Message) → (if b then Some (response m ss) else None) ≡ Some r → tells_event r.body ≡ false
if_told true m ss r e = let same : response m ss ≡ r = cc in subst (λ (x : Message). tells_event x.body ≡ false) same refl
if_told false m ss r e = absurd cc

with_told : (m : Message) (codes : List ℕ) (ss : List Select) (r : Message) → with_selects m codes ss ≡ Some r → tells_event r.body ≡ false
with_told m codes [] r e = absurd cc
with_told m codes (s ∷ ss) r e = if_told (is_wanted m.flags.ack codes) m (s ∷ ss) r e

-- a response tells of no event
reply_told : (m : Message) (selects : List Select) (codes : List ℕ) (r : Message) → reply m selects codes ≡ Some r → tells_event r.body ≡ false
reply_told m selects codes r e = with_told m codes (answered_selects selects codes) r e

abbrev Tell : Out → Type 0
Tell o = tells_event o.message.body ≡ true

-- a notice tells of one
if_notice : (b : Bool) (o : Out) → Tell o → AllByRecursion Tell (sent_if b o)
if_notice true o h = (h, tt)
if_notice false o h = tt

tell_more : (xs ys : List Out) → AllByRecursion Tell xs → AllByRecursion Tell ys → AllByRecursion Tell (xs ++ ys)
tell_more [] ys h k = k
tell_more (x ∷ xs) ys h k = (h.0, tell_more xs ys h.1 k)

notices_tell : (library : List Class) (r : Route) (ns : List Notice) → AllByRecursion Tell (notice_outs library r ns)
notices_tell library r [] = tt
notices_tell library r (n ∷ ns) = tell_more (notice_out library r n) (notice_outs library r ns) (if_notice (message_fits (notice_message library r n)) (out r.peer (notice_message library r n)) refl) (notices_tell library r ns)

-- one response, and notices behind it
pub record AnswersFirst (k : ℕ) (outs : List Out) : Type 0 where
  pub response : Message
  pub notices : List Out
  pub are : outs ≡ out k response ∷ notices
  pub plain : tells_event response.body ≡ false
  pub tell : AllByRecursion Tell notices

answers_by : (k : ℕ) (o : Option Message) (notices : List Out) → is_none o ≡ false → ((r : Message) → o ≡ Some r → tells_event r.body ≡ false) → AllByRecursion Tell notices → AnswersFirst k (responses k o ++ notices)
answers_by k None notices some plain tell = absurd cc
answers_by k (Some r) notices some plain tell = record { response = r; notices = notices; are = refl; plain = plain r refl; tell = tell }

module _ (t : TransactionState) (k : ℕ) (m : Message) (selects : List Select) (answered : IsAnswered m selects) (next : judge t.epoch t.master t.sequence m.source (stamp m.corr) (claim_in (asked_of m selects)) ≡ Next) where
  configured_is : configured t k m selects ≡ by_verdict t k m selects (asked_of m selects) Next
  unfolding configured
  configured_is = ap (by_verdict t k m selects (asked_of m selects)) next

  configured_answers : AnswersFirst k (configured t k m selects).outs
  configured_answers =
      let d : Did = acts t.id t.epoch t.ledger m selects (asked_of m selects) in
      subst (λ (x : Step). AnswersFirst k x.outs) (sym configured_is)
      (answers_by k (reply m selects d.codes) (notice_outs d.ledger.store.library (route t.id m.source k) d.notices) (answered.loud d.codes) (λ r e. reply_told m selects d.codes r e) (notices_tell d.ledger.store.library (route t.id m.source k) d.notices))

-- ---- the element then
heard_keeps : (b : Bool) (e : ElementState) (k : ℕ) (m : Message) → (hearing_if b e k m).transactions ≡ e.transactions
heard_keeps true e k m = refl
heard_keeps false e k m = refl

heard_there : (b : Bool) (e : ElementState) (k : ℕ) (m : Message) → contains_key e.associations m.source ≡ true → contains_key (hearing_if b e k m).associations m.source ≡ true
heard_there true e k m h = still_there e.associations m.source k e.clock h
heard_there false e k m h = h

module _ (e : ElementState) (k : ℕ) (m : Message) (selects : List Select) (well : TakesWell e m selects) (own : m.dest ≡ id_of e) (mode : m.flags.em ≡ 1) where
  abbrev t : Step
  t = configured e.transactions k m selects

  pub step_is : step e (Arrived k m) ≡ taking e k m t
  step_is =
      let mine : is_own e m ≡ true = eq-eqb m.dest (id_of e) own in
      as_chosen e k m selects well.answered.config mine mode
      ∙ last_of (is_ce m.source) (is_associated e m) (results_fit selects && message_fits m) (is_own e m) (m.flags.em == 0) (turn e []) (all_get e k m selects 4) (all_get e k m selects 18) (taking e k m t)
      well.control well.associated well.answered.fits mine (ap (λ v. v == 0) mode)

  pub transactions_are : (step e (Arrived k m)).state.transactions ≡ t.state
  transactions_are = ap (λ (u : Turn). u.state.transactions) step_is ∙ heard_keeps t.is_heard (with_transactions e t.state) k m

  pub associated_still : contains_key (step e (Arrived k m)).state.associations m.source ≡ true
  associated_still = ap (λ (u : Turn). contains_key u.state.associations m.source) step_is ∙ heard_there t.is_heard (with_transactions e t.state) k m well.associated

  pub answers_first : judge e.transactions.epoch e.transactions.master e.transactions.sequence m.source (stamp m.corr) (claim_in (asked_of m selects)) ≡ Next → AnswersFirst k (step e (Arrived k m)).outs
  answers_first next = subst (λ (u : Turn). AnswersFirst k u.outs) (sym step_is) (configured_answers e.transactions k m selects well.answered next)
