-- What is sent for what was done.
use Rattle.std.proofs.Common.{◌≡◌, ℕ, true, false, cond, List, [], ◌∷◌, ◌++◌, refl, sym, ap, ap₂, subst, ◌∙◌, None, Result, Ok, Err}
use Rattle.std.specs.Prelude.{IfOk, OnErr, OnOk}
use Rattle.std.specs.List.{AllByRecursion}
use Rattle.fc_base.specs.Ids.{Txn}
use Rattle.fc_base.specs.declared.faults.Memory.{Memory}
use Rattle.fc_events.specs.declared.subscriptions.Notice.{Notice}
use Rattle.fc_events.specs.declared.subscriptions.Subscription.{Subscription}
use Rattle.fc_holding.specs.Held.{held_instances, waits}
use Rattle.fc_msg.specs.declared.message.Message.{Message}
use Rattle.fc_path.specs.declared.oper.Select.{Select}
use Rattle.fc_reply.specs.Replies.{reply}
use Rattle.fc_store.specs.Stores.{Stored}
use Rattle.fc_performing.specs.Notices.{notice_outs, route}
use Rattle.fc_performing.specs.Performing.{Performed, done_by, evaluated}
use Rattle.fc_performing.specs.Performing as performing
use Rattle.fc_performing.specs.Sending.{IsAnswer, IsSaid, responses}
use Rattle.fc_performing.specs.declared.answering.Answered.{Answered}
use Rattle.fc_performing.specs.declared.out.Out.{Out}
use Rattle.fc_performing.specs.declared.out.Route.{Route}
use Rattle.fc_transactions.specs.Done.{IsAnswered, IsDone}
use Rattle.fc_transactions.specs.Order.{says}
use Rattle.fc_transactions.specs.Phases.{Did, all_get, executes, performs, plain}
use Rattle.fc_transactions.specs.declared.ledger.Ledger.{Ledger}

none_behind : (outs : List Out) → outs ≡ outs ++ []
none_behind [] = refl
none_behind (o ∷ outs) = ap (λ os. o ∷ os) (none_behind outs)

module _ (peer : ℕ) (m : Message) (selects : List Select) where
  pub if_answered : (codes : List ℕ) (r : Result Answered Memory) → IfOk r (λ a. a.outs ≡ responses peer (reply m selects codes)) → IfOk r (λ a. AllByRecursion IsSaid a.outs)
      → IfOk r (λ a. a.reply ≡ reply m selects codes) → IfOk r (λ a. IsAnswer a.reply) → IfOk r (λ a. IsAnswered peer m selects codes a)
  if_answered codes (Ok a) outs said response proper = record { outs = outs; said = said; response = response; proper = proper }
  if_answered codes (Err memory) outs said response proper = tt

  -- by codes that are the same
  pub if_codes : (codes others : List ℕ) (r : Result Answered Memory) → codes ≡ others → IfOk r (λ a. IsAnswered peer m selects codes a) → IfOk r (λ a. IsAnswered peer m selects others a)
  if_codes codes others r is x = subst (λ cs. IfOk r (λ a. IsAnswered peer m selects cs a)) is x

module _ (p peer : ℕ) (m : Message) (selects : List Select) where
  -- a response alone
  says_is : (codes : List ℕ) (d : Did) → d.codes ≡ codes → d.notices ≡ [] → responses peer (reply m selects codes) ≡ says p peer m selects d
  says_is codes d e f =
      ap (λ cs. responses peer (reply m selects cs)) (sym e) ∙ none_behind (responses peer (reply m selects d.codes))
      ∙ ap (λ (ns : List Notice). responses peer (reply m selects d.codes) ++ notice_outs d.ledger.store.library (route p m.source peer) ns) (sym f)

  pub answered_done : (codes : List ℕ) (a : Answered) → IsAnswered peer m selects codes a → (d : Did) → d.codes ≡ codes → d.notices ≡ [] → IsDone p peer m selects d a
  answered_done codes a x d e f = record { outs = x.outs ∙ says_is codes d e f; said = x.said; response = x.response ∙ ap (reply m selects) (sym e); proper = x.proper }

  pub if_done : (codes : List ℕ) (r : Result Answered Memory) → IfOk r (λ a. IsAnswered peer m selects codes a) → (d : Did) → d.codes ≡ codes → d.notices ≡ [] → IfOk r (λ a. IsDone p peer m selects d a)
  if_done codes (Ok a) x d e f = answered_done codes a x d e f
  if_done codes (Err memory) x d e f = tt

  -- the same of what is the same
  pub same_done : (d e : Did) (a : Answered) → d ≡ e → IsDone p peer m selects d a → IsDone p peer m selects e a
  same_done d e a is x = subst (λ k. IsDone p peer m selects k a) is x

  pub if_same : (d e : Did) (r : Result Answered Memory) → d ≡ e → IfOk r (λ a. IsDone p peer m selects d a) → IfOk r (λ a. IsDone p peer m selects e a)
  if_same d e (Ok a) is x = same_done d e a is x
  if_same d e (Err memory) is x = tt

  pub on_same : (d e : Did) (now : Ledger) (r : Result Answered Memory) → d ≡ e → OnOk r (now ≡ d.ledger) → OnOk r (now ≡ e.ledger)
  on_same d e now (Ok a) is x = x ∙ ap (λ (k : Did). k.ledger) is
  on_same d e now (Err memory) is x = tt

  pub on_idle : (d : Did) (now : Ledger) (r : Result Answered Memory) → now ≡ d.ledger → OnOk r (now ≡ d.ledger)
  on_idle d now (Ok a) e = e
  on_idle d now (Err memory) e = tt

  -- ---- what is performed
  module _ (l : Ledger) (held all : List (ℕ × ℕ)) (w : Route) (is : held ≡ held_instances all None l.records.entries) (there : all ≡ l.store.instances) (way : w ≡ route p m.source peer) where
    abbrev performed : Performed
    performed = done_by m selects l.store l.subscriptions

    performed_is : performs p l selects held performed ≡ executes p l m selects
    performed_is = ap (λ h. performs p l selects h performed) (is ∙ ap (λ instances. held_instances instances None l.records.entries) there)

    performed_done : (a : Answered) → a.outs ≡ performing.says held w m selects performed → AllByRecursion IsSaid a.outs → a.reply ≡ reply m selects performed.codes → IsAnswer a.reply → IsDone p peer m selects (executes p l m selects) a
    performed_done a outs said response proper =
        same_done (performs p l selects held performed) (executes p l m selects) a performed_is
        (record { outs = outs ∙ ap (λ r. performing.says held r m selects performed) way; said = said; response = response; proper = proper })

    pub if_performed : (r : Result Answered Memory) → IfOk r (λ a. a.outs ≡ performing.says held w m selects performed) → IfOk r (λ a. AllByRecursion IsSaid a.outs) → IfOk r (λ a. a.reply ≡ reply m selects performed.codes)
        → IfOk r (λ a. IsAnswer a.reply) → IfOk r (λ a. IsDone p peer m selects (executes p l m selects) a)
    if_performed (Ok a) outs said response proper = performed_done a outs said response proper
    if_performed (Err memory) outs said response proper = tt

    pub on_performed : (r : Result Answered Memory) (store : Stored) (subs : List Subscription) → OnOk r (store ≡ performed.store) → OnOk r (subs ≡ (evaluated held performed).0)
        → OnOk r (◌≡◌ {A = Ledger} (record { records = l.records; holdings = l.holdings; store = store; subscriptions = subs }) (executes p l m selects).ledger)
    on_performed (Ok a) store subs e f =
        ap₂ (λ (s : Stored) (them : List Subscription). record { records = l.records; holdings = l.holdings; store = s; subscriptions = them }) e f ∙ ap (λ (d : Did). d.ledger) performed_is
    on_performed (Err memory) store subs e f = tt

  -- after want of memory all is as before
  pub on_stays : (l : Ledger) (r : Result Answered Memory) (store : Stored) (subs : List Subscription) → OnErr r (store ≡ l.store) → OnErr r (subs ≡ l.subscriptions)
      → OnErr r (◌≡◌ {A = Ledger} (record { records = l.records; holdings = l.holdings; store = store; subscriptions = subs }) l)
  on_stays l (Ok a) store subs e f = tt
  on_stays l (Err memory) store subs e f = ap₂ (λ (s : Stored) (them : List Subscription). record { records = l.records; holdings = l.holdings; store = s; subscriptions = them }) e f

  -- what is done for one transaction is done for the same
  pub if_of : (f : Txn → Did) (x y : Txn) (r : Result Answered Memory) → x ≡ y → IfOk r (λ a. IsDone p peer m selects (f x) a) → IfOk r (λ a. IsDone p peer m selects (f y) a)
  if_of f x y r is done = if_same (f x) (f y) r (ap f is) done

  pub on_of : (f : Txn → Did) (x y : Txn) (now : Ledger) (r : Result Answered Memory) → x ≡ y → OnOk r (now ≡ (f x).ledger) → OnOk r (now ≡ (f y).ledger)
  on_of f x y now r is done = on_same (f x) (f y) now r (ap f is) done

  -- a plain change that waits, and one that does not
  pub plain_waits : (l : Ledger) → waits l.records.entries selects ≡ true → all_get l selects 18 ≡ plain p l m selects
  plain_waits l e = sym (ap (λ b. cond b (all_get l selects 18) (executes p l m selects)) e)

  pub plain_goes : (l : Ledger) → waits l.records.entries selects ≡ false → executes p l m selects ≡ plain p l m selects
  plain_goes l e = sym (ap (λ b. cond b (all_get l selects 18) (executes p l m selects)) e)
