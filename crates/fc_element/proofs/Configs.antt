-- What holds of each message that is sent for a Config: of a response, of the one that was kept, and of each notice.
use Rattle.std.proofs.Common.{◌≡◌, ℕ, ◌+◌, ◌==◌, ◌&&◌, not, Bool, true, false, cond, List, [], refl, sym, ap, subst, ◌∙◌, Option, Some, None, eqb-true}
use Rattle.std.specs.List.{AllByRecursion}
use Rattle.fc_msg.specs.Messages.{message_fits}
use Rattle.fc_msg.specs.declared.message.Message.{Message}
use Rattle.fc_path.specs.Results.{results_fit}
use Rattle.fc_path.specs.declared.oper.Select.{Select}
use Rattle.fc_performing.specs.Notices.{notice_outs, route}
use Rattle.fc_performing.specs.Sending.{out, responses}
use Rattle.fc_performing.specs.declared.out.Out.{Out}
use Rattle.fc_phases.specs.declared.asked.Asked.{Asked}
use Rattle.fc_protocol.specs.Fence.{claims}
use Rattle.fc_protocol.specs.Messages.{stamp}
use Rattle.fc_protocol.specs.declared.verdict.Verdict.{Verdict}
use Rattle.fc_protocol.specs.declared.verdict.Verdict.TheVariants.{Claim, Unclaimed, Stale, Again, Gap, Next}
use Rattle.fc_reply.specs.Counting.{each_gets}
use Rattle.fc_reply.specs.Replies.{reply}
use Rattle.fc_transactions.specs.Order.{asked_of, by_verdict, claim_in, configured, judged, says, unclaimed}
use Rattle.fc_transactions.specs.Phases.{Did, acts, executes}
use Rattle.fc_transactions.specs.Phases as phases
use Rattle.fc_transactions.specs.State.{TransactionState}
use Rattle.fc_element.specs.ElementMachine.{all_get, by_order, id_of, is_associated, is_own, taking, turn}
use Rattle.fc_element.specs.ElementState.{ElementState}
use Rattle.fc_element.specs.Runs.{did_at, did_by, may_configure}
use Rattle.fc_element.proofs.Telling.{all_append}

-- ---- what a verdict tells of the fence
-- the verdict by what it looks at: a claim; no epoch; the life and its control element; the same count; the next one
abbrev verdict_by : ℕ → Bool → Bool → Bool → Bool → Bool → Verdict
verdict_by life a b c d e = cond a (Claim life) (cond b Unclaimed (cond c (cond d Again (cond e Next Gap)) Stale))

no_epoch : (life : ℕ) (a b c d e : Bool) → verdict_by life a b c d e ≡ Unclaimed → b ≡ true
no_epoch life true b c d e h = absurd (cc)
no_epoch life false true c d e h = refl
no_epoch life false false true true e h = absurd (cc)
no_epoch life false false true false true h = absurd (cc)
no_epoch life false false true false false h = absurd (cc)
no_epoch life false false false d e h = absurd (cc)

-- of the life that has claimed the element
abbrev OfLife : Bool → Bool → Type 0
OfLife b c = (b ≡ false) × (c ≡ true)

again_of : (life : ℕ) (a b c d e : Bool) → verdict_by life a b c d e ≡ Again → OfLife b c
again_of life true b c d e h = absurd (cc)
again_of life false true c d e h = absurd (cc)
again_of life false false true d e h = (refl, refl)
again_of life false false false d e h = absurd (cc)

next_of : (life : ℕ) (a b c d e : Bool) → verdict_by life a b c d e ≡ Next → OfLife b c
next_of life true b c d e h = absurd (cc)
next_of life false true c d e h = absurd (cc)
next_of life false false true d e h = (refl, refl)
next_of life false false false d e h = absurd (cc)

second : (a b : Bool) → (a && b) ≡ true → b ≡ true
second true b e = e
second false b e = absurd (cc)

module _ (P : Out → Type 0) (s : ElementState) (peer : ℕ) (m : Message) (selects : List Select) where
  abbrev T : TransactionState
  T = s.transactions

  -- of the responses
  abbrev pub Replied : Type 0
  Replied = (codes : List ℕ) (r : Message) → is_associated s m ≡ true → results_fit selects ≡ true → reply m selects codes ≡ Some r → P (out peer r)

  -- of the one that was kept
  abbrev pub Repeated : Type 0
  Repeated = (r : Message) → is_associated s m ≡ true → m.source ≡ s.transactions.master → s.transactions.kept ≡ Some r → P (out peer r)

  -- of the notices
  abbrev pub Told : Type 0
  Told = (d : Did) → is_associated s m ≡ true → m.source ≡ may_configure s → did_at s.transactions m selects ≡ Some d
      → AllByRecursion P (notice_outs d.ledger.store.library (route (id_of s) m.source peer) d.notices)

  -- of those of what was done
  abbrev Noted : Did → Type 0
  Noted d = AllByRecursion P (notice_outs d.ledger.store.library (route (id_of s) m.source peer) d.notices)

  module _ (replied : Replied) (repeated : Repeated) (told : Told) (known : is_associated s m ≡ true) where
    -- ---- the sender may configure the element
    first_may : (T.epoch == 0) ≡ true → (m.source == T.ce) ≡ true → m.source ≡ may_configure s
    first_may e f = eqb-true m.source T.ce f ∙ sym (ap (λ (b : Bool). cond b T.ce T.master) e)

    master_may : (T.epoch == 0) ≡ false → m.source ≡ T.master → m.source ≡ may_configure s
    master_may e f = f ∙ sym (ap (λ (b : Bool). cond b T.ce T.master) e)

    module _ (fits : results_fit selects ≡ true) where
      reply_all : (codes : List ℕ) (r : Option Message) → reply m selects codes ≡ r → AllByRecursion P (responses peer r)
      reply_all codes None e = tt
      reply_all codes (Some r) e = (replied codes r known fits e, tt)

      replies_all : (codes : List ℕ) → AllByRecursion P (responses peer (reply m selects codes))
      replies_all codes = reply_all codes (reply m selects codes) refl

      says_all : (d : Did) → Noted d → AllByRecursion P (says (id_of s) peer m selects d)
      says_all d noted =
          all_append P (responses peer (reply m selects d.codes)) (notice_outs d.ledger.store.library (route (id_of s) m.source peer) d.notices) (replies_all d.codes) noted

      kept_all : (r : Option Message) → T.kept ≡ r → m.source ≡ T.master → AllByRecursion P (responses peer r)
      kept_all None e f = tt
      kept_all (Some r) e f = (repeated r known f e, tt)

      -- what is done while no life has claimed the element, by whether the sender is the one that may configure it
      abbrev first_did : Bool → Did
      first_did b = cond (not b) (phases.all_get T.ledger selects 12) (cond m.flags.at (phases.all_get T.ledger selects 21) (executes T.id T.ledger m selects))

      first_noted : (T.epoch == 0) ≡ true → did_at T m selects ≡ Some (unclaimed T m selects) → (b : Bool) → (m.source == T.ce) ≡ b → Noted (first_did b)
      first_noted e f true g = subst (λ (b : Bool). Noted (first_did b)) g (told (unclaimed T m selects) known (first_may e g) f)
      first_noted e f false g = tt

      module _ (a : Asked) (is : a ≡ asked_of m selects) where
        did_is : (v : Verdict) → judged T m a ≡ v → did_at T m selects ≡ did_by T m selects a v
        did_is v e = ap (λ (x : Asked). did_by T m selects x (judged T m x)) (sym is) ∙ ap (did_by T m selects a) e

        abbrev of_life : Bool
        of_life = (stamp m.corr).life == T.epoch && m.source == T.master

        epoch_none : judged T m a ≡ Unclaimed → (T.epoch == 0) ≡ true
        epoch_none e =
            no_epoch (stamp m.corr).life (claims T.epoch m.source (stamp m.corr) (claim_in a)) (T.epoch == 0) of_life ((stamp m.corr).count == T.sequence) ((stamp m.corr).count == T.sequence + 1) e

        life_again : judged T m a ≡ Again → OfLife (T.epoch == 0) of_life
        life_again e =
            again_of (stamp m.corr).life (claims T.epoch m.source (stamp m.corr) (claim_in a)) (T.epoch == 0) of_life ((stamp m.corr).count == T.sequence) ((stamp m.corr).count == T.sequence + 1) e

        life_next : judged T m a ≡ Next → OfLife (T.epoch == 0) of_life
        life_next e =
            next_of (stamp m.corr).life (claims T.epoch m.source (stamp m.corr) (claim_in a)) (T.epoch == 0) of_life ((stamp m.corr).count == T.sequence) ((stamp m.corr).count == T.sequence + 1) e

        from_master : of_life ≡ true → m.source ≡ T.master
        from_master e = eqb-true m.source T.master (second _ _ e)

        verdict_all : (v : Verdict) → judged T m a ≡ v → AllByRecursion P (by_verdict T peer m selects a v).outs
        verdict_all (Claim e) j = replies_all (each_gets 0 selects)
        verdict_all Unclaimed j = says_all (unclaimed T m selects) (first_noted (epoch_none j) (did_is Unclaimed j) (m.source == T.ce) refl)
        verdict_all Stale j = says_all (phases.all_get T.ledger selects 12) tt
        verdict_all Again j = kept_all T.kept refl (from_master (life_again j).1)
        verdict_all Gap j = says_all (phases.all_get T.ledger selects 16) tt
        verdict_all Next j =
            says_all (acts T.id T.epoch T.ledger m selects a)
            (told (acts T.id T.epoch T.ledger m selects a) known (master_may (life_next j).0 (from_master (life_next j).1)) (did_is Next j))

      configured_all : AllByRecursion P (configured T peer m selects).outs
      unfolding configured
      configured_all = verdict_all (asked_of m selects) refl (judged T m (asked_of m selects)) refl

      named_all : (b c : Bool) → AllByRecursion P (cond (not b) (all_get s peer m selects 4) (cond c (all_get s peer m selects 18) (taking s peer m (configured T peer m selects)))).outs
      named_all false c = replies_all (each_gets 4 selects)
      named_all true true = replies_all (each_gets 18 selects)
      named_all true false = configured_all

    order_all : (a b : Bool) → results_fit selects ≡ a
        → AllByRecursion P (cond (not (a && b)) (turn s []) (cond (not (is_own s m)) (all_get s peer m selects 4) (cond (m.flags.em == 0) (all_get s peer m selects 18) (taking s peer m (configured T peer m selects))))).outs
    order_all true true e = named_all e (is_own s m) (m.flags.em == 0)
    order_all true false e = tt
    order_all false b e = tt

  pub config_all : Replied → Repeated → Told → (a : Bool) → is_associated s m ≡ a → AllByRecursion P (cond a (by_order s peer m selects) (turn s [])).outs
  config_all replied repeated told true known = order_all replied repeated told known (results_fit selects) (message_fits m) refl
  config_all replied repeated told false known = tt
