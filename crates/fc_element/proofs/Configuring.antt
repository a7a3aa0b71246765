-- What a Config leaves of the ID of an element, and of the response that is kept.
use Rattle.std.proofs.Common.{◌≡◌, ℕ, List, Option, Some, None, refl, ap}
use Rattle.fc_msg.specs.declared.message.Message.{Message}
use Rattle.fc_msg.specs.declared.message.MsgBody.TheVariants.{ConfigResponse}
use Rattle.fc_path.specs.declared.oper.Select.{Select}
use Rattle.fc_phases.specs.declared.asked.Asked.{Asked}
use Rattle.fc_protocol.specs.declared.verdict.Verdict.{Verdict}
use Rattle.fc_protocol.specs.declared.verdict.Verdict.TheVariants.{Claim, Unclaimed, Stale, Again, Gap, Next}
use Rattle.fc_reply.specs.Answered.{answered_selects}
use Rattle.fc_reply.specs.Counting.{each_gets}
use Rattle.fc_reply.specs.Replies.{reply}
use Rattle.fc_reply.proofs.Fitting.{sent_is}
use Rattle.fc_transactions.specs.Order.{asked_of, by_verdict, configured, judged}
use Rattle.fc_transactions.specs.Phases.{acts}
use Rattle.fc_transactions.specs.State.{TransactionState}

-- a response to a Config, if there is one
abbrev pub IsResponse : Option Message → Type 0
IsResponse None = Unit {0}
IsResponse (Some r) = (selects : List Select) × (r.body ≡ ConfigResponse selects)

reply_responds : (m : Message) (selects : List Select) (codes : List ℕ) (o : Option Message) → reply m selects codes ≡ o → IsResponse o
reply_responds m selects codes None e = tt
reply_responds m selects codes (Some r) e = (answered_selects selects codes, ap (λ (x : Message). x.body) (sent_is m r codes (answered_selects selects codes) e))

module _ (t : TransactionState) (peer : ℕ) (m : Message) (selects : List Select) where
  verdict_id : (a : Asked) (v : Verdict) → (by_verdict t peer m selects a v).state.id ≡ t.id
  verdict_id a (Claim e) = refl
  verdict_id a Unclaimed = refl
  verdict_id a Stale = refl
  verdict_id a Again = refl
  verdict_id a Gap = refl
  verdict_id a Next = refl

  verdict_responds : (a : Asked) (v : Verdict) → IsResponse t.kept → IsResponse (by_verdict t peer m selects a v).state.kept
  verdict_responds a (Claim e) k = reply_responds m selects (each_gets 0 selects) (reply m selects (each_gets 0 selects)) refl
  verdict_responds a Unclaimed k = k
  verdict_responds a Stale k = k
  verdict_responds a Again k = k
  verdict_responds a Gap k = k
  verdict_responds a Next k =
      let codes = (acts t.id t.epoch t.ledger m selects a).codes in
      reply_responds m selects codes (reply m selects codes) refl

  pub configured_id : (configured t peer m selects).state.id ≡ t.id
  unfolding configured
  configured_id = verdict_id (asked_of m selects) (judged t m (asked_of m selects))

  pub configured_responds : IsResponse t.kept → IsResponse (configured t peer m selects).state.kept
  unfolding configured
  configured_responds k = verdict_responds (asked_of m selects) (judged t m (asked_of m selects)) k
