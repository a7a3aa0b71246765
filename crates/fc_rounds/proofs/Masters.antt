-- What one life of a control element makes of a message and of each call is what the protocol's master makes of it.
use Rattle.std.proofs.Common.{◌≡◌, ◌<◌, ◌≤◌, ◌^◌, ℕ, ◌==◌, nat_le, length, arith, Bool, true, false, List, [], ◌∷◌, ◌++◌, Option, Some, None, refl, sym, ap, ◌∙◌, subst, if◌then◌else◌}
use Rattle.std.proofs.lemmas.List.{map-append}
use Rattle.std.specs.List.{AllByRecursion, list_all}
use Rattle.fc_base.specs.Ids.{IsFe, Txn}
use Rattle.fc_hearing.specs.Hearing.{IsHeardAs, is_setup, is_wish}
use Rattle.fc_jobs.specs.Plans.{changes_in, participants_of, scopes_in}
use Rattle.fc_jobs.specs.Sending.{spelled}
use Rattle.fc_jobs.specs.declared.sending.CeOut.{CeOut}
use Rattle.fc_master.specs.Steps.{at_once_to, heard_of, said as said_by, setup_response, stepped}
use Rattle.fc_master.specs.declared.input.CeIn.TheVariants as input
use Rattle.fc_msg.specs.declared.message.Message.{Message}
use Rattle.fc_msg.specs.declared.message.MsgBody.{MsgBody}
use Rattle.fc_msg.specs.declared.message.MsgBody.TheVariants as body
use Rattle.fc_numbering.proofs.Keeping.{begin_speaks, forget_speaks, give_up_speaks, hear_speaks, plain_speaks, resend_numbered}
use Rattle.fc_numbering.specs.Numbering.{AreNumbered, AreInstances, IsWord, SpeaksNumbers}
use Rattle.fc_path.specs.declared.oper.Select.{Select}
use Rattle.fc_plans.specs.Plans.{has_scope, order_fault, plan_fault, scope_fault}
use Rattle.fc_plans.specs.declared.fault.PlanFault.{PlanFault}
use Rattle.fc_plans.specs.declared.fault.PlanFault.TheVariants as fault
use Rattle.fc_plans.specs.declared.plan.Part.{Part}
use Rattle.fc_protocol.specs.Collections.{among, or_next}
use Rattle.fc_protocol.specs.MasterMachine.{Master, Speaks, Waiting, again, at_once, begin_refusal, begins, finish, forget_refusal, forgets, gives_up, heard, plain_refusal, sends_one}
use Rattle.fc_protocol.specs.Messages as said
use Rattle.fc_protocol.specs.Messages.{Plain, Sent, sent}
use Rattle.fc_store.specs.Stores.{Pairwise}
use Rattle.fc_wellformed.proofs.Said.{begin_clear, forget_clear, give_up_clear, plain_clear, resend_clear, step_clear}
use Rattle.fc_wellformed.specs.WellFormed.{AreWellFormed, HasChanges, IsChange, SpeaksClearly}
use Rattle.fc_world.specs.Settings.{FitsWords}
use Rattle.fc_world.specs.Worlds.{Ruling, downward}
use Rattle.fc_world.specs.WorldSteps.{Spoke, begins_in, changes_at, forgets_in, gives_up_in, hears, resends_in}
use Rattle.fc_world.specs.declared.sent.Parcel.TheVariants.{Downward}
use Rattle.fc_world.specs.declared.setting.Setting.{Setting}
use Rattle.fc_rounds.specs.Following.{GoesUpAs, IsLife, IsSent}
use Rattle.fc_rounds.specs.Networks.{ce_of}
use Rattle.fc_rounds.proofs.Pairs.{pairs_more}
use Rattle.fc_rounds.proofs.Requests.{spelled_sent}
use Rattle.fc_rounds.proofs.Speaking.{again_of, finish_of, one_of}
use Rattle.fc_protocol.proofs.Puts.{both_first, both_second}

-- the life after something is the protocol's master m, and has said this
pub record SpeaksAs (s : Setting) (k ce : ℕ) (spoke : Spoke) (m : Master) (ts : List Sent) : Type 0 where
  pub life : IsLife ce spoke.ruling
  pub core : spoke.ruling.core ≡ m
  pub sent : Pairwise (IsSent s) (downward k spoke.outs) ts

-- ---- the numbers of a plan
fits_word : (n : ℕ) → IsFe n → IsWord n
fits_word n fe = let below : n < 2 ^ 30 = fe.1 in grind arith

pub parts_words : (parts : List Part) → AllByRecursion FitsWords parts → AllByRecursion IsWord (participants_of parts)
parts_words [] words = tt
parts_words (part ∷ parts) words = (fits_word part.element words.0.0, parts_words parts words.1)

pub scopes_words : (parts : List Part) → AllByRecursion FitsWords parts → (p : ℕ) → AreInstances (scopes_in parts p)
scopes_words [] words p = tt
scopes_words (part ∷ parts) words p = by (p == part.element) (scopes_words parts words.1 p)
  where
    by : (b : Bool) → AreInstances (scopes_in parts p) → AreInstances (if b then part.scope else scopes_in parts p)
    by true more = words.0.1
    by false more = more

narrow_in : (parts : List Part) → list_all has_scope parts ≡ true → (p : ℕ) → length (scopes_in parts p) ≤ 4096
narrow_in [] all p = omega arith
narrow_in (part ∷ parts) all p = by (p == part.element) (narrow_in parts (both_second (has_scope part) (list_all has_scope parts) all) p)
  where
    small : (m n : ℕ) → nat_le m n ≡ true → m ≤ n
    small m n h = grind arith

    by : (b : Bool) → length (scopes_in parts p) ≤ 4096 → length (if b then part.scope else scopes_in parts p) ≤ 4096
    by true more = small (length part.scope) 4096 (both_first (has_scope part) (list_all has_scope parts) all)
    by false more = more

order_none : (o next : Option PlanFault) → or_next o next ≡ None → next ≡ None
order_none None next is = is
order_none (Some f) next is = absurd cc

scopes_hold : (b : Bool) → (if b then None else Some fault.Changes) ≡ None → b ≡ true
scopes_hold true is = refl
scopes_hold false is = absurd cc

pub scopes_narrow : (parts : List Part) → plan_fault parts ≡ None → (p : ℕ) → length (scopes_in parts p) ≤ 4096
scopes_narrow parts plan p = narrow_in parts (scopes_hold (list_all has_scope parts) (order_none (order_fault parts) (scope_fault parts) plan)) p

-- ---- what is well formed in two parts
first_good : (xs ys : List CeOut) → AreWellFormed (xs ++ ys) → AreWellFormed xs
first_good [] ys good = tt
first_good (x ∷ xs) ys good = (good.0, first_good xs ys good.1)

second_good : (xs ys : List CeOut) → AreWellFormed (xs ++ ys) → AreWellFormed ys
second_good [] ys good = good
second_good (x ∷ xs) ys good = second_good xs ys good.1

module _ (s : Setting) (k : ℕ) where
  down_both : (xs ys : List CeOut) (ts us : List Sent) → Pairwise (IsSent s) (downward k xs) ts → Pairwise (IsSent s) (downward k ys) us → Pairwise (IsSent s) (downward k (xs ++ ys)) (ts ++ us)
  down_both xs ys ts us first more =
      subst (λ ps. Pairwise (IsSent s) ps (ts ++ us)) (sym (map-append (λ (o : CeOut). Downward k o.to o.message) xs ys)) (pairs_more (IsSent s) (downward k xs) (downward k ys) ts us first more)

module _ (s : Setting) (k ce : ℕ) (r : Ruling) (sender : ce_of s k ≡ ce) (is : IsLife ce r) where
  by_ce : r.life.ce ≡ ce_of s k
  by_ce = is.own ∙ sym sender

  -- ---- what is sent once more
  again_sent : (p j : ℕ) → Pairwise (IsSent s) (downward k (spelled r.life (again j p (r.core.at p).waits))) (again k p (r.core.at p).waits)
  again_sent p j = by (r.core.at p).waits (resend_numbered k r.core p is.numbers) (resend_clear r.life k r.core p is.clear)
    where
      by : (o : Option Waiting) → AreNumbered (again k p o) → AreWellFormed (spelled r.life (again k p o)) → Pairwise (IsSent s) (downward k (spelled r.life (again j p o))) (again k p o)
      by None numbered good = tt
      by (Some o) numbered good = spelled_sent s k r.life by_ce is.clear.0 (again k p (Some o)) (again_of k p (Some o)) numbered good

  pub resends_as : (p : ℕ) → SpeaksAs s k ce (resends_in k p r) r.core (again k p (r.core.at p).waits)
  resends_as p = record { life = is; core = refl; sent = again_sent p k }

  -- ---- a message of an element
  setup_sent : (p corr result : ℕ) → IsSent s (Downward k p (setup_response r.life p corr result).message) (sent p k said.Other_down)
  setup_sent p corr result = (refl, refl, (result, refl))

  greeting_by : (p corr : ℕ) (b : Bool)
      → Pairwise (IsSent s) (downward k (if b then setup_response r.life p corr 0 ∷ spelled r.life (again 0 p (r.core.at p).waits) else setup_response r.life p corr 1 ∷ []))
      (sent p k said.Other_down ∷ (if b then again k p (r.core.at p).waits else []))
  greeting_by p corr true = (setup_sent p corr 0, again_sent p 0)
  greeting_by p corr false = (setup_sent p corr 1, tt)

  -- a wish is answered at once
  wish_by : (p : ℕ) (m : Message) (x : said.Message) (b : MsgBody) → is_wish b ≡ true → is_setup x ≡ true → Pairwise (IsSent s) (downward k (at_once_to r.life r.core p m b)) (at_once k r.core p x)
  wish_by p m said.Setup (body.Setup selects) wish setup = greeting_by p m.corr (among p r.core.elements)
  wish_by p m said.Beat b wish setup = absurd cc
  wish_by p m (said.Request st a) b wish setup = absurd cc
  wish_by p m (said.Reply st code) b wish setup = absurd cc
  wish_by p m (said.Holds st e ns) b wish setup = absurd cc
  wish_by p m (said.Tells st y e t) b wish setup = absurd cc
  wish_by p m (said.Unread st e) b wish setup = absurd cc
  wish_by p m said.Other_up b wish setup = absurd cc
  wish_by p m said.Other_down b wish setup = absurd cc
  wish_by p m said.Setup (body.SetupResponse result) wish setup = absurd cc
  wish_by p m said.Setup (body.Teardown reason) wish setup = absurd cc
  wish_by p m said.Setup (body.Config selects) wish setup = absurd cc
  wish_by p m said.Setup (body.ConfigResponse selects) wish setup = absurd cc
  wish_by p m said.Setup (body.Query selects) wish setup = absurd cc
  wish_by p m said.Setup (body.QueryResponse selects) wish setup = absurd cc
  wish_by p m said.Setup (body.Event selects) wish setup = absurd cc
  wish_by p m said.Setup body.Heartbeat wish setup = absurd cc

  at_once_sent : (p : ℕ) (m : Message) (x : said.Message) → IsHeardAs m x → Pairwise (IsSent s) (downward k (at_once_to r.life r.core p m m.body)) (at_once k r.core p x)
  at_once_sent p m x heard = by (is_wish m.body) refl
    where
      by : (b : Bool) → is_wish m.body ≡ b → Pairwise (IsSent s) (downward k (at_once_to r.life r.core p m m.body)) (at_once k r.core p x)
      by true wish = wish_by p m x m.body wish (sym heard.wish ∙ wish)
      by false wish =
          subst (λ outs. Pairwise (IsSent s) (downward k outs) (at_once k r.core p x)) (sym (heard.calm wish r.life r.core p)) (subst (λ ts. Pairwise (IsSent s) [] ts) (sym (heard.silent (sym heard.wish ∙ wish) k r.core p)) tt)

  -- what is due is said after that
  module _ (speaks : Speaks) (numbers : SpeaksNumbers speaks) (clear : SpeaksClearly r.life speaks.master) where
    spoken_life : IsLife ce (record { life = r.life; core = speaks.master })
    spoken_life = record { own = is.own; clear = clear; numbers = numbers.master }

  pub hears_as : (p : ℕ) (m : Message) (x : said.Message) → GoesUpAs m x → SpeaksAs s k ce (hears k p m r) (finish k (heard r.core p x)).master (at_once k r.core p x ++ (finish k (heard r.core p x)).says)
  hears_as p m x goes =
      let same : heard_of r.core p m.corr m.body ≡ heard r.core p x = goes.0.core r.core p in
      let clear = step_clear r.life k r.core (input.Arrived p m) is.clear in
      let numbers = subst (λ (c : Master). SpeaksNumbers (finish k c)) (sym same) (hear_speaks k r.core p x goes.2 is.numbers) in
      let says = (finish k (heard_of r.core p m.corr m.body)).says in record {
        life = spoken_life (stepped k r.core (input.Arrived p m)) numbers clear.0;
        core = ap (λ (c : Master). (finish k c).master) same;
        sent = subst (λ us. Pairwise (IsSent s) (downward k (said_by r.life k r.core (input.Arrived p m))) (at_once k r.core p x ++ us)) (ap (λ (c : Master). (finish k c).says) same)
            (down_both s k (at_once_to r.life r.core p m m.body) (spelled r.life says) (at_once k r.core p x) says (at_once_sent p m x goes.0)
            (spelled_sent s k r.life by_ce is.clear.0 says (finish_of k (heard_of r.core p m.corr m.body)) numbers.says (second_good (at_once_to r.life r.core p m m.body) (spelled r.life says) clear.1)));
      }

  -- ---- calls
  pub begins_as : (parts : List Part) → AllByRecursion HasChanges parts → plan_fault parts ≡ None → AllByRecursion FitsWords parts → begin_refusal r.core (participants_of parts) (changes_in parts) (scopes_in parts) ≡ None
      → let n = finish k (begins r.core (participants_of parts) (changes_in parts) (scopes_in parts)) in SpeaksAs s k ce (begins_in k parts r).spoke n.master n.says
  begins_as parts holds plan words none =
      let m = begins r.core (participants_of parts) (changes_in parts) (scopes_in parts) in
      let clear = begin_clear r.life k r.core parts holds plan none is.clear in
      let numbers = begin_speaks k r.core (participants_of parts) (changes_in parts) (scopes_in parts) none (parts_words parts words) (λ p. scopes_words parts words p) (λ p. scopes_narrow parts plan p) is.numbers in record {
        life = record { own = is.own; clear = clear.0; numbers = numbers.master };
        core = refl;
        sent = spelled_sent s k r.life by_ce is.clear.0 (finish k m).says (finish_of k m) numbers.says clear.1;
      }

  pub changes_as : (p : ℕ) (change : List Select) → IsChange change → plain_refusal r.core p ≡ None → let n = sends_one k r.core p (Some Plain) in SpeaksAs s k ce (changes_at k p change r).spoke n.master n.says
  changes_as p change holds none =
      let clear = plain_clear r.life k r.core p change holds is.clear in
      let numbers = plain_speaks k r.core p none is.numbers in record {
        life = record { own = is.own; clear = clear.0; numbers = numbers.master };
        core = refl;
        sent = spelled_sent s k (changes_at k p change r).spoke.ruling.life by_ce clear.0.0 (sends_one k r.core p (Some Plain)).says (one_of k r.core p (Some Plain)) numbers.says clear.1;
      }

  pub gives_up_as : (x : Txn) → let n = finish k (gives_up r.core x) in SpeaksAs s k ce (gives_up_in k x r).spoke n.master n.says
  gives_up_as x =
      let clear = give_up_clear r.life k r.core x is.clear in
      let numbers = give_up_speaks k r.core x is.numbers in record {
        life = record { own = is.own; clear = clear.0; numbers = numbers.master };
        core = refl;
        sent = spelled_sent s k r.life by_ce is.clear.0 (finish k (gives_up r.core x)).says (finish_of k (gives_up r.core x)) numbers.says clear.1;
      }

  pub forgets_as : forget_refusal r.core ≡ None → let n = finish k (forgets r.core) in SpeaksAs s k ce (forgets_in k r).spoke n.master n.says
  forgets_as none =
      let clear = forget_clear r.life k r.core is.clear in
      let numbers = forget_speaks k r.core none is.numbers in record {
        life = record { own = is.own; clear = clear.0; numbers = numbers.master };
        core = refl;
        sent = spelled_sent s k r.life by_ce is.clear.0 (finish k (forgets r.core)).says (finish_of k (forgets r.core)) numbers.says clear.1;
      }
