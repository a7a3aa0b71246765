-- A clean round: where each participant stands, and what is on its way.
use Rattle.std.proofs.Common.{◌≡◌, ℕ, zero, suc, ◌+◌, ◌*◌, ◌-◌, ◌≤◌, ◌==◌, ◌&&◌, not, nat_le, Bool, true, false, cond, List, [], ◌∷◌, ◌++◌, Option, Some, None, ◌⊎◌, inl, inr, ⊎_elim, refl, sym, ap, ◌∙◌, subst, arith, eqb-true, eq-eqb}
use Rattle.fc_base.specs.Ids.{Txn}
use Rattle.fc_agreement.specs.CleanRound.{is_notice}
use Rattle.fc_protocol.specs.Collections.{among, put}
use Rattle.fc_protocol.specs.ElementMachine.{ElementState, takes_part}
use Rattle.fc_protocol.specs.Floors.{is_below}
use Rattle.fc_protocol.specs.Jobs.{Job, find, first_need, answer}
use Rattle.fc_protocol.specs.MasterMachine.{Waiting, Peer, Master, last_count, due, next_txn}
use Rattle.fc_protocol.specs.Messages.{Body, Sot, Mot, Eot, Trcomp, Message, Request, Reply, Other_down, Sent, sent}
use Rattle.fc_protocol.specs.Records.{state_of, clashes, is_packed}
use Rattle.fc_protocol.specs.Trace.{Fact, Settled_at}
use Rattle.fc_protocol.specs.WorldSteps.{World, sender}
use Rattle.fc_protocol.specs.Scopes.{Scope, is_scope}
use Rattle.fc_protocol.specs.declared.states.Decision.TheVariants.{Complete}
use Rattle.fc_protocol.specs.declared.states.Seen.TheVariants.{Prepared}
use Rattle.fc_protocol.specs.declared.states.TxnState.TheVariants.{Started as RecordStarted, Prepared as RecordPrepared}
use Rattle.fc_protocol.proofs.Basics.{In, AllOf, in_either, cond_true, cond_false, both}
use Rattle.fc_agreement.proofs.Calm.{Set, CalmWorld}
use Rattle.fc_agreement.proofs.Duty.{Flags}
use Rattle.fc_agreement.proofs.Sends.{busy, busy_append}
use Rattle.fc_agreement.proofs.Taking.{at_count}

-- where a participant stands: its message of this number is on its way, or the answer to it; it has prepared; TRCOMP is on its way, or the answer; it is done
pub data Phase : Type 0 where
  Asking : ℕ → Phase
  Told : ℕ → Phase
  Ready : Phase
  Ending : Phase
  Ended : Phase
  Done : Phase

abbrev pub flies : Phase → Bool
flies (Asking d) = true
flies (Told d) = true
flies Ready = false
flies Ending = true
flies Ended = true
flies Done = false

abbrev pub votes : Phase → Bool
votes (Asking d) = true
votes (Told d) = true
votes Ready = true
votes Ending = false
votes Ended = false
votes Done = false

abbrev pub is_ready : Phase → Bool
is_ready (Asking d) = false
is_ready (Told d) = false
is_ready Ready = true
is_ready Ending = false
is_ready Ended = false
is_ready Done = false

abbrev pub ends : Phase → Bool
ends (Asking d) = false
ends (Told d) = false
ends Ready = false
ends Ending = true
ends Ended = true
ends Done = true

module _ (w : World) (k : ℕ) (m : Master) (ps : List ℕ) (changes : ℕ → ℕ) (scopes : ℕ → Scope) where
  abbrev pub x : Txn
  x = next_txn m

  abbrev pub last : ℕ → ℕ
  last p = (m.at p).last

  abbrev pub body : ℕ → ℕ → Body
  body d p = cond (d == 0) (Sot x ps (scopes p)) (cond (nat_le d (changes p)) (Mot x d) (Eot x))

  -- how many deliveries are left for p
  abbrev pub left : ℕ → Phase → ℕ
  left p (Asking d) = 2 * (changes p + 3) - 2 * d
  left p (Told d) = 2 * (changes p + 3) - 2 * d - 1
  left p Ready = 2
  left p Ending = 2
  left p Ended = 1
  left p Done = 0

  pub record Part (p : ℕ) : Type 0 where
    pub inside : among p m.elements ≡ true
    pub need : first_need m.jobs p ≡ None
    pub room : last p + changes p + 3 ≤ last_count
    pub takes : takes_part p ps ≡ true
    pub scoped : is_scope (scopes p) ≡ true

  -- what does not change
  pub record Ground : Type 0 where
    pub set : AllOf (Set m.epoch) m.jobs
    pub still : (q : ℕ) → among q m.elements ≡ true → due m q ≡ None
    pub absent : find x m.jobs ≡ None
    pub parts : (p : ℕ) → among p ps ≡ true → Part p
    pub deposed : m.deposed ≡ None
    pub epoch : (m.epoch == 0) ≡ false

  abbrev pub waits_of : ℕ → Phase → Option Waiting
  waits_of p (Asking d) = Some (record { stamp = at_count m.epoch (last p + 1 + d); body = body d p })
  waits_of p (Told d) = Some (record { stamp = at_count m.epoch (last p + 1 + d); body = body d p })
  waits_of p Ready = None
  waits_of p Ending = Some (record { stamp = at_count m.epoch (last p + changes p + 3); body = Trcomp x })
  waits_of p Ended = Some (record { stamp = at_count m.epoch (last p + changes p + 3); body = Trcomp x })
  waits_of p Done = None

  abbrev pub last_of : ℕ → Phase → ℕ
  last_of p (Asking d) = last p + 1 + d
  last_of p (Told d) = last p + 1 + d
  last_of p Ready = last p + changes p + 2
  last_of p Ending = last p + changes p + 3
  last_of p Ended = last p + changes p + 3
  last_of p Done = last p + changes p + 3

  pub record PeerIn (p : ℕ) (y : Peer) (h : Phase) : Type 0 where
    pub flags : Flags y
    pub waits : y.waits ≡ waits_of p h
    pub sequence : y.last ≡ last_of p h

  pub record Voting (p d : ℕ) (j : Job) : Type 0 where
    pub low : d ≤ changes p + 1
    pub done : j.done p ≡ d
    pub answers : j.answers p ≡ None
    pub settled : j.settled p ≡ false
    pub stuck : j.stuck p ≡ false

  abbrev pub JobIn : ℕ → Job → Phase → Type 0
  JobIn p j (Asking d) = Voting p d j
  JobIn p j (Told d) = Voting p d j
  JobIn p j Ready = (j.answers p ≡ Some (answer m.epoch Prepared)) × (j.settled p ≡ false) × (j.stuck p ≡ false)
  JobIn p j Ending = Unit {0}
  JobIn p j Ended = Unit {0}
  JobIn p j Done = j.settled p ≡ true

  abbrev pub Fresh : ℕ → ElementState → ℕ → Type 0
  Fresh p el zero = (state_of x el.records ≡ None) × (clashes (scopes p) el.records ≡ false) × (is_packed el.records ≡ false) × (is_below x el.floor ≡ false)
  Fresh p el (suc d) = state_of x el.records ≡ Some RecordStarted

  abbrev pub Stands : ℕ → ElementState → List Fact → Phase → Type 0
  Stands p el fs (Asking d) = (el.sequence ≡ last p + d) × Fresh p el d
  Stands p el fs (Told d) = (el.sequence ≡ last p + 1 + d) × (state_of x el.records ≡ Some (cond (nat_le d (changes p)) RecordStarted RecordPrepared))
  Stands p el fs Ready = (el.sequence ≡ last p + changes p + 2) × (state_of x el.records ≡ Some RecordPrepared)
  Stands p el fs Ending = (el.sequence ≡ last p + changes p + 2) × (state_of x el.records ≡ Some RecordPrepared)
  Stands p el fs Ended = In (Settled_at p x Complete) fs
  Stands p el fs Done = In (Settled_at p x Complete) fs

  pub record ElIn (p : ℕ) (el : ElementState) (fs : List Fact) (h : Phase) : Type 0 where
    pub epoch : el.epoch ≡ m.epoch
    pub master : el.master ≡ sender w k
    pub stands : Stands p el fs h

  abbrev pub message_of : ℕ → Phase → Message
  message_of p (Asking d) = Request (at_count m.epoch (last p + 1 + d)) (body d p)
  message_of p (Told d) = Reply (at_count m.epoch (last p + 1 + d)) 0
  message_of p Ready = Other_down
  message_of p Ending = Request (at_count m.epoch (last p + changes p + 3)) (Trcomp x)
  message_of p Ended = Reply (at_count m.epoch (last p + changes p + 3)) 0
  message_of p Done = Other_down

  -- a message on its way is a notice, or that of a participant
  abbrev pub OnWay : (ℕ → Phase) → Sent → Type 0
  OnWay ph s = (is_notice s.message ≡ true) ⊎ ((among s.element ps ≡ true) × (flies (ph s.element) ≡ true) × (s ≡ sent s.element k (message_of s.element (ph s.element))))

  pub record Queue (ph : ℕ → Phase) (q : List Sent) : Type 0 where
    pub each : (s : Sent) → In s q → OnWay ph s
    pub count : (p : ℕ) → among p ps ≡ true → busy p q ≡ cond (flies (ph p)) 1 0

  pub record Going (v : World) (before after : List Sent) (ph : ℕ → Phase) : Type 0 where
    pub sent : v.sent ≡ before ++ after
    pub network : sender v k ≡ sender w k
    pub calm : CalmWorld v
    pub now : Master
    pub runs : v.masters k ≡ Some now
    pub epoch : now.epoch ≡ m.epoch
    pub elements : now.elements ≡ m.elements
    pub deposed : now.deposed ≡ None
    pub job : Job
    pub jobs : now.jobs ≡ m.jobs ++ job ∷ []
    pub txn : job.txn ≡ x
    pub mine : job.mine ≡ true
    pub parts : job.parts ≡ ps
    pub changed : (job.changes ≡ changes) × (job.scopes ≡ scopes)
    pub others : (q : ℕ) → among q ps ≡ false → now.at q ≡ m.at q
    pub peers : (p : ℕ) → among p ps ≡ true → PeerIn p (now.at p) (ph p)
    pub job_in : (p : ℕ) → among p ps ≡ true → JobIn p job (ph p)
    pub stand : (p : ℕ) → among p ps ≡ true → ElIn p (v.at p) v.facts (ph p)
    pub mode : ((job.decision ≡ None) × ((p : ℕ) → among p ps ≡ true → votes (ph p) ≡ true) × ((p : ℕ) × (among p ps ≡ true) × (is_ready (ph p) ≡ false))) ⊎ ((job.decision ≡ Some Complete) × ((p : ℕ) → among p ps ≡ true → ends (ph p) ≡ true))
    pub queue : Queue ph after

  -- The first message of the queue arrives

  one_more : (a b : ℕ) → a + b ≡ 1 → a ≡ 1 → b ≡ 0
  one_more a b e f = omega arith

  busy_one : (q : ℕ) (s : Sent) (b : Bool) → (q == s.element && not (is_notice s.message)) ≡ b → (rest : List Sent) → busy q (s ∷ rest) ≡ cond b 1 0 + busy q rest
  busy_one q s b e rest = ap (λ v. cond v 1 0 + busy q rest) e

  counted : (q : ℕ) (s : Sent) → q ≡ s.element → is_notice s.message ≡ false → (q == s.element && not (is_notice s.message)) ≡ true
  counted q s e n = both_true (q == s.element) (not (is_notice s.message)) (eq-eqb q s.element e) (ap not n)
    where
      both_true : (a b : Bool) → a ≡ true → b ≡ true → (a && b) ≡ true
      both_true true b e f = f
      both_true false b e f = e

  uncounted : (q : ℕ) (s : Sent) → (q == s.element) ≡ false → (q == s.element && not (is_notice s.message)) ≡ false
  uncounted q s e = first_false (q == s.element) (not (is_notice s.message)) e
    where
      first_false : (a b : Bool) → a ≡ false → (a && b) ≡ false
      first_false true b e = cc
      first_false false b e = refl

  -- a message that is there is counted
  busy_in : (q : ℕ) (t : Sent) (ss : List Sent) → In t ss → t.element ≡ q → is_notice t.message ≡ false → 1 ≤ busy q ss
  busy_in q t [] i e n = absurd i
  busy_in q t (s ∷ ss) i e n =
      ⊎_elim (λ u. let c = busy_one q s true (counted q s (sym e ∙ ap (λ (v : Sent). v.element) u) (ap (λ (v : Sent). is_notice v.message) (sym u) ∙ n)) ss in omega arith)
      (λ u. let r = busy_in q t ss u e n in omega arith) i

  -- what is left once the message of p has arrived
  pub record Rest (ph : ℕ → Phase) (p : ℕ) (rest : List Sent) : Type 0 where
    pub each : (t : Sent) → In t rest → (is_notice t.message ≡ true) ⊎ (((t.element == p) ≡ false) × (among t.element ps ≡ true) × (flies (ph t.element) ≡ true) × (t ≡ sent t.element k (message_of t.element (ph t.element))))
    pub here : busy p rest ≡ 0
    pub there : (q : ℕ) → among q ps ≡ true → (q == p) ≡ false → busy q rest ≡ cond (flies (ph q)) 1 0

  rest_each : (p : ℕ) (ph : ℕ → Phase) (rest : List Sent) → busy p rest ≡ 0 → (t : Sent) → In t rest → (b : Bool) → is_notice t.message ≡ b → OnWay ph t
      → (is_notice t.message ≡ true) ⊎ (((t.element == p) ≡ false) × (among t.element ps ≡ true) × (flies (ph t.element) ≡ true) × (t ≡ sent t.element k (message_of t.element (ph t.element))))
  rest_each p ph rest z t i true n o = inl n
  rest_each p ph rest z t i false n o =
      ⊎_elim (λ u. inl u)
      (λ u. ⊎_elim (λ a. let l : 1 ≤ busy p rest = busy_in p t rest i (eqb-true t.element p a) n in absurd (omega arith)) (λ a. inr (a, u.0, u.1, u.2)) (both (t.element == p))) o

  pub rest_of : (ph : ℕ → Phase) (s : Sent) (rest : List Sent) (p : ℕ) → Queue ph (s ∷ rest) → s.element ≡ p → is_notice s.message ≡ false → among p ps ≡ true → flies (ph p) ≡ true → Rest ph p rest
  rest_of ph s rest p q e n a f =
      let all : busy p (s ∷ rest) ≡ 1 = q.count p a ∙ cond_true (flies (ph p)) 1 0 f in
      let first : busy p (s ∷ rest) ≡ 1 + busy p rest = busy_one p s true (counted p s (sym e) n) rest in
      let none : busy p rest ≡ 0 = omega arith in
      record {
        each = λ t i. rest_each p ph rest none t i (is_notice t.message) refl (q.each t (inr i));
        here = none;
        there = λ r b u. let one = busy_one r s false (uncounted r s (ap (λ v. r == v) e ∙ u)) rest in sym (let z : busy r (s ∷ rest) ≡ busy r rest = omega arith in sym (q.count r b) ∙ z);
      }

  -- the queue with what was sent since, where p alone has gone on
  pub queue_on : (ph : ℕ → Phase) (p : ℕ) (h : Phase) (rest more : List Sent) → Rest ph p rest → ((t : Sent) → In t more → OnWay (put ph p h) t) → busy p more ≡ cond (flies h) 1 0 → ((q : ℕ) → (q == p) ≡ false → busy q more ≡ 0) → Queue (put ph p h) (rest ++ more)
  unfolding put
  queue_on ph p h rest more r o c z = record {
    each = λ t i. ⊎_elim (λ u. ⊎_elim (λ n. inl n)
        (λ n. let g = cond_false (t.element == p) h (ph t.element) n.0 in inr (n.1, ap flies g ∙ n.2, n.3 ∙ ap (λ v. sent t.element k (message_of t.element v)) (sym g))) (r.each t u)) (λ u. o t u) (in_either t rest more i);
    count = λ q a. ⊎_elim (λ u.
        let s : busy q (rest ++ more) ≡ busy q rest + busy q more = busy_append q rest more in
        let e : q ≡ p = eqb-true q p u in
        let one : busy q rest ≡ 0 = subst (λ v. busy v rest ≡ 0) (sym e) r.here in
        let two : busy q more ≡ cond (flies h) 1 0 = subst (λ v. busy v more ≡ cond (flies h) 1 0) (sym e) c in
        let all : busy q (rest ++ more) ≡ cond (flies h) 1 0 = omega arith in
        all ∙ ap (λ v. cond (flies v) 1 0) (sym (cond_true (q == p) h (ph q) u)))
        (λ u.
        let s : busy q (rest ++ more) ≡ busy q rest + busy q more = busy_append q rest more in
        let one : busy q rest ≡ cond (flies (ph q)) 1 0 = r.there q a u in
        let two : busy q more ≡ 0 = z q u in
        let all : busy q (rest ++ more) ≡ cond (flies (ph q)) 1 0 = omega arith in
        all ∙ ap (λ v. cond (flies v) 1 0) (sym (cond_false (q == p) h (ph q) u))) (both (q == p));
  }
