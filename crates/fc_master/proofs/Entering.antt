-- A transaction that begins, and a plain change that is sent.
use Rattle.std.proofs.Common.{◌≡◌, ℕ, false, ◌+◌, ◌<◌, ◌++◌, cond, List, [], ◌∷◌, length, get_or, map, nat_lt, Some, None, refl, sym, ap, ◌∙◌, eq-eqb}
use Rattle.std.proofs.Math.ListN.{set}
use Rattle.fc_base.specs.Ids.{Txn}
use Rattle.fc_path.specs.declared.oper.Select.{Select}
use Rattle.fc_msg.specs.declared.message.Message.{Message as Wire}
use Rattle.fc_protocol.specs.Collections.{put}
use Rattle.fc_protocol.specs.Jobs.{Job as Work, new_job}
use Rattle.fc_protocol.specs.Messages.{Plain, correlator}
use Rattle.fc_protocol.specs.MasterMachine.{Master as Core, Peer, Spent, TooMany, any_spent, at_put, begin_refusal, begins, deposed_by, first_refusal, last_count, refused_if, decide_all, next_txn, part_refusal, plain_refusal, sending, sends_one}
use Rattle.fc_protocol.specs.Scopes.{Scope}
use Rattle.fc_plans.specs.declared.plan.Part.{Part}
use Rattle.fc_asks.specs.Plans.{selects_of}
use Rattle.fc_asks.specs.Requests.{all_or_none, config, flags, start}
use Rattle.fc_asks.specs.Tables.{counts, found, placed}
use Rattle.fc_jobs.specs.declared.job.Job.{Job}
use Rattle.fc_jobs.specs.declared.job.Scoped.{Scoped}
use Rattle.fc_jobs.specs.declared.seat.Seat.{Seat}
use Rattle.fc_jobs.specs.JobViews.{jobs_of}
use Rattle.fc_jobs.specs.Plans.{changes_in, counted, participants_of, scoped, scopes_in}
use Rattle.fc_jobs.specs.Scopes.{scope_of}
use Rattle.fc_jobs.specs.Seats.{elements_of, peer_at, peer_of}
use Rattle.fc_jobs.specs.Sending.{core_by, out, spelled}
use Rattle.fc_jobs.proofs.Laws.{found_placed}
use Rattle.fc_jobs.proofs.Seating.{core_set, peer_found}
use Rattle.fc_master.proofs.Changing.{all_decided}
use Rattle.fc_master.proofs.Refusing.{numbered, unspent}
use Rattle.fc_master.specs.Masters.{begun_of, core_of}
use Rattle.fc_master.specs.declared.master.Master.{Master}

-- why a job may not begin, by its plan
same_refusal : (m : Core) (ps qs : List ℕ) (cs ds : List (ℕ × ℕ)) (ss ts : List Scoped) → ps ≡ qs → cs ≡ ds → ss ≡ ts
    → begin_refusal m ps (counts cs) (λ p. scope_of p ss) ≡ begin_refusal m qs (counts ds) (λ p. scope_of p ts)
same_refusal m ps qs cs ds ss ts a b c =
    ap (λ (es : List ℕ). begin_refusal m es (counts cs) (λ p. scope_of p ss)) a
    ∙ ap (λ (es : List (ℕ × ℕ)). begin_refusal m qs (counts es) (λ p. scope_of p ss)) b
    ∙ ap (λ (es : List Scoped). begin_refusal m qs (counts ds) (λ p. scope_of p es)) c

pub plan_refusal : (m : Core) (j : Job) (plan : List Part) → j.participants ≡ participants_of plan → j.changes ≡ map counted plan → j.scopes ≡ map scoped plan
    → begin_refusal m j.participants (counts j.changes) (λ p. scope_of p j.scopes) ≡ begin_refusal m (participants_of plan) (changes_in plan) (scopes_in plan)
plan_refusal m j plan a b c = same_refusal m j.participants (participants_of plan) j.changes (map counted plan) j.scopes (map scoped plan) a b c

-- a transaction that may begin has a number
pub begins_early : (m : Core) (ps : List ℕ) (changes : ℕ → ℕ) (scopes : ℕ → Scope) → begin_refusal m ps changes scopes ≡ None → m.begun < last_count
begins_early m ps changes scopes e = numbered (deposed_by m.deposed) (refused_if (nat_lt 64 (length ps)) (TooMany (length ps))) (first_refusal m ps scopes) m.begun (any_spent m ps changes) Spent e

-- the master with a job more
module _ (me : Master) (x : Txn) (ps : List ℕ) (changes : ℕ → ℕ) (scopes : ℕ → Scope) (n : x ≡ next_txn (core_of me)) where
  pub begun_core : (ss : List Seat) (js : List Job) (w : Work) → ss ≡ me.seats → jobs_of js ≡ all_decided me.life.epoch (jobs_of me.jobs.all ++ w ∷ []) → w ≡ new_job x ps changes scopes
      → core_by me.life.epoch ss js (record { count = me.begun + 1; wanted = me.wanted }) me.deposed ≡ decide_all (begins (core_of me) ps changes scopes)
  begun_core ss js w a b f =
      let e = me.life.epoch in
      ap (λ (ts : List Seat). core_by e ts js (record { count = me.begun + 1; wanted = me.wanted }) me.deposed) a
      ∙ ap (λ (ks : List Work). record { epoch = e; elements = elements_of me.seats; at = peer_at e me.wanted me.seats; jobs = ks; begun = me.begun + 1; deposed = me.deposed })
      (b ∙ ap (λ (v : Work). all_decided e (jobs_of me.jobs.all ++ v ∷ [])) f)
      ∙ ap (λ (y : Txn). decide_all (record { epoch = e; elements = elements_of me.seats; at = peer_at e me.wanted me.seats; jobs = jobs_of me.jobs.all ++ new_job y ps changes scopes ∷ []; begun = me.begun + 1; deposed = me.deposed })) n

-- what is found where it was placed
found_again : (p : ℕ) (c : List Select) (es : List (ℕ × List Select)) → found p (placed p c es) ≡ Some c
unfolding put
found_again p c es = found_placed p c es p ∙ ap (λ b. cond b (Some c) (found p es)) (eq-eqb p p refl)

-- a plain change that may be sent has a sequence
pub plain_early : (m : Core) (p : ℕ) → plain_refusal m p ≡ None → (m.at p).last < last_count
plain_early m p e = unspent (deposed_by m.deposed) (part_refusal m p []) (m.at p).last Spent e

-- a plain change to the element of a seat
module _ (me : Master) (i : ℕ) (s : Seat) (p : ℕ) (l : i < length me.seats) (g : s ≡ get_or me.seats i s) (q : s.element ≡ p) where
  abbrev plainly : Peer → Peer
  plainly y = sending y (record { stamp = record { life = me.life.epoch; count = y.last + 1 }; body = Plain })

  here : peer_at me.life.epoch me.wanted me.seats p ≡ peer_of me.life.epoch s
  here = ap (peer_at me.life.epoch me.wanted me.seats) (sym q) ∙ peer_found me.life.epoch me.wanted me.seats i s l g me.apart

  pub last_is : s.last ≡ ((core_of me).at p).last
  last_is = sym (ap (λ (y : Peer). y.last) here)

  pub plain_is : (k c : ℕ) (n : Seat) (hs : List Seat) → hs ≡ set me.seats i n → c ≡ s.last + 1 → n.element ≡ s.element
      → peer_of me.life.epoch n ≡ sending (peer_of me.life.epoch s) (record { stamp = record { life = me.life.epoch; count = c }; body = Plain })
      → core_by me.life.epoch hs me.jobs.all (begun_of me) me.deposed ≡ (sends_one k (core_of me) p (Some Plain)).master
  plain_is k c n hs r u h v =
      ap (λ (ts : List Seat). core_by me.life.epoch ts me.jobs.all (begun_of me) me.deposed) r
      ∙ core_set me.life.epoch me.seats me.jobs.all (begun_of me) me.deposed i s n (plainly (peer_of me.life.epoch s)) l g me.apart h
      (v ∙ ap (λ z. sending (peer_of me.life.epoch s) (record { stamp = record { life = me.life.epoch; count = z }; body = Plain })) u)
      ∙ ap (λ (y : Peer). at_put (core_of me) s.element (plainly y)) (sym (peer_found me.life.epoch me.wanted me.seats i s l g me.apart))
      ∙ ap (λ r. at_put (core_of me) r (plainly ((core_of me).at r))) q

  -- and its message
  pub plain_out : (k : ℕ) (plains : List (ℕ × List Select)) (msg : Wire) (change : List Select) → plains ≡ placed p change me.life.plains
      → msg ≡ config me.life.ce p (correlator (record { life = me.life.epoch; count = s.last + 1 })) (flags all_or_none false start) change
      → out p msg ∷ [] ≡ spelled (record me.life { plains = plains }) (sends_one k (core_of me) p (Some Plain)).says
  plain_out k plains msg change f h =
      let said : selects_of (found p plains) ≡ change = ap selects_of (ap (found p) f ∙ found_again p change me.life.plains) in
      ap (λ (w : Wire). out p w ∷ [])
      (h ∙ ap (λ n. config me.life.ce p (correlator (record { life = me.life.epoch; count = n + 1 })) (flags all_or_none false start) change) last_is
      ∙ ap (config me.life.ce p (correlator (record { life = me.life.epoch; count = ((core_of me).at p).last + 1 })) (flags all_or_none false start)) (sym said))
