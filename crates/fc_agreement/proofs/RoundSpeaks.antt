-- A clean round: what a master that has gone on sends.
use Rattle.std.proofs.Common.{◌≡◌, ℕ, ◌+◌, ◌||◌, true, false, cond, List, [], ◌∷◌, ◌++◌, Option, Some, None, ◌⊎◌, inr, ⊎_elim, sym, ap, ◌∙◌, subst}
use Rattle.fc_protocol.specs.Collections.{among}
use Rattle.fc_protocol.specs.Jobs.{Job, first_need}
use Rattle.fc_protocol.specs.MasterMachine.{Peer, Master, due, stamp_of, Speaks, sends_all, next_txn}
use Rattle.fc_protocol.specs.Messages.{Body, is_query, is_claim, Request, Sent, sent}
use Rattle.fc_protocol.specs.WorldSteps.{World, sender, speaks}
use Rattle.fc_protocol.specs.Scopes.{Scope}
use Rattle.fc_protocol.specs.declared.states.Decision.TheVariants.{Complete}
use Rattle.fc_protocol.proofs.Puts.{put_here}
use Rattle.fc_protocol.proofs.Basics.{In, in_either, both}
use Rattle.fc_agreement.proofs.Calm.{CalmWorld, all_jobs}
use Rattle.fc_agreement.proofs.Duty.{need_there, due_same}
use Rattle.fc_agreement.proofs.Round.{Phase, flies, votes, is_ready, ends, Ground, ElIn, PeerIn, JobIn, message_of, OnWay, Going}
use Rattle.fc_agreement.proofs.Sends.{busy, busy_append, sent_peer, due_count, Sends, sends_all_is}
use Rattle.fc_agreement.proofs.Taking.{at_count}

-- a Config that is no claim has the next sequence
pub config_stamp : (e : ℕ) (b : Body) (y : Peer) → is_query b ≡ false → is_claim b ≡ false → stamp_of e b y ≡ at_count e (y.last + 1)
config_stamp e b y q c = ap (λ v. at_count e (cond v 0 (cond (is_query b) y.queries y.last + 1))) c ∙ ap (λ v. at_count e (cond v y.queries y.last + 1)) q

pub config_waits : (e : ℕ) (b : Body) (y : Peer) → is_query b ≡ false → is_claim b ≡ false → (sent_peer e y (Some b)).waits ≡ Some (record { stamp = at_count e (y.last + 1); body = b })
config_waits e b y q c = ap (λ s. Some (record { stamp = s; body = b })) (config_stamp e b y q c)

pub config_last : (e : ℕ) (b : Body) (y : Peer) → is_query b ≡ false → is_claim b ≡ false → (sent_peer e y (Some b)).last ≡ y.last + 1
config_last e b y q c =
    ap (λ v. cond (v || is_claim b) y.last (cond (is_claim b) 0 (cond (is_query b) y.queries y.last + 1))) q ∙ ap (λ v. cond v y.last (cond v 0 (cond (is_query b) y.queries y.last + 1))) c ∙ ap (λ v. cond v y.queries y.last + 1) q

module _ (w : World) (k : ℕ) (m : Master) (ps : List ℕ) (changes : ℕ → ℕ) (scopes : ℕ → Scope) where
  -- what is due at a participant q of a master n whose job is j, and what q then stands for
  pub record Duty (v : World) (n : Master) (j : Job) (rest : List Sent) (q : ℕ) (h : Phase) : Type 0 where
    pub need : Option Body
    pub due_is : due n q ≡ need
    pub peer : PeerIn w k m ps changes scopes q (sent_peer m.epoch (n.at q) need) h
    pub job : JobIn w k m ps changes scopes q j h
    pub stand : ElIn w k m ps changes scopes q (v.at q) v.facts h
    pub message : (b : Body) → need ≡ Some b → (flies h ≡ true) × (message_of w k m ps changes scopes q h ≡ Request (stamp_of m.epoch b (n.at q)) b)
    pub count : busy q rest + due_count need ≡ cond (flies h) 1 0

  -- the master before it sends what is due
  pub record Turned (v : World) (n : Master) (j : Job) (rest : List Sent) (ph : ℕ → Phase) : Type 0 where
    pub epoch : n.epoch ≡ m.epoch
    pub elements : n.elements ≡ m.elements
    pub deposed : n.deposed ≡ None
    pub jobs : n.jobs ≡ m.jobs ++ j ∷ []
    pub txn : j.txn ≡ next_txn m
    pub mine : j.mine ≡ true
    pub parts : j.parts ≡ ps
    pub changed : (j.changes ≡ changes) × (j.scopes ≡ scopes)
    pub others : (q : ℕ) → among q ps ≡ false → n.at q ≡ m.at q
    pub duties : (q : ℕ) → among q ps ≡ true → Duty v n j rest q (ph q)
    pub mode : ((j.decision ≡ None) × ((p : ℕ) → among p ps ≡ true → votes (ph p) ≡ true) × ((p : ℕ) × (among p ps ≡ true) × (is_ready (ph p) ≡ false))) ⊎ ((j.decision ≡ Some Complete) × ((p : ℕ) → among p ps ≡ true → ends (ph p) ≡ true))
    pub on_way : (t : Sent) → In t rest → OnWay w k m ps changes scopes ph t

  module _ (v : World) (n : Master) (j : Job) (rest : List Sent) (ph : ℕ → Phase) (ground : Ground w k m ps changes scopes) (t : Turned v n j rest ph) (r : Speaks) (z : Sends k n.elements n r) (same : (r.master.jobs ≡ n.jobs) × (r.master.epoch ≡ n.epoch) × (r.master.elements ≡ n.elements)) where
    inside : (q : ℕ) → among q ps ≡ true → among q n.elements ≡ true
    inside q a = ap (among q) t.elements ∙ (ground.parts q a).inside

    at_part : (q : ℕ) (a : among q ps ≡ true) → r.master.at q ≡ sent_peer m.epoch (n.at q) (t.duties q a).need
    at_part q a = z.inside q (inside q a) ∙ ap (λ e. sent_peer e (n.at q) (due n q)) t.epoch ∙ ap (sent_peer m.epoch (n.at q)) (t.duties q a).due_is

    other_due : (q : ℕ) → among q ps ≡ false → among q n.elements ≡ true → due n q ≡ None
    other_due q a i =
        due_same m n q t.epoch (ap (λ js. first_need js q) t.jobs ∙ need_there m.jobs j q (ap (among q) t.parts ∙ a)) (t.deposed ∙ sym ground.deposed) (t.others q a) ∙ ground.still q (ap (among q) (sym t.elements) ∙ i)

    other_at : (q : ℕ) → among q ps ≡ false → r.master.at q ≡ m.at q
    other_at q a =
        ⊎_elim (λ i. z.inside q i ∙ ap (sent_peer n.epoch (n.at q)) (other_due q a i) ∙ t.others q a) (λ i. z.outside q i ∙ t.others q a) (both (among q n.elements))

    said_by : (s : Sent) (b : Body) → among s.element n.elements ≡ true → due n s.element ≡ Some b → s ≡ sent s.element k (Request (stamp_of n.epoch b (n.at s.element)) b) → OnWay w k m ps changes scopes ph s
    said_by s b i d e =
        ⊎_elim (λ a.
        let u = t.duties s.element a in
        let g = u.message b (sym u.due_is ∙ d) in
        inr (a, g.0, e ∙ ap (λ c. sent s.element k (Request (stamp_of c b (n.at s.element)) b)) t.epoch ∙ ap (sent s.element k) (sym g.1)))
        (λ a. let clash : None ≡ Some b = sym (other_due s.element a i) ∙ d in cc) (both (among s.element ps))

    said_way : (s : Sent) → In s r.says → OnWay w k m ps changes scopes ph s
    said_way s i = let u = z.says s i in said_by s u.1 u.0 u.2 u.3

    counts : (q : ℕ) → among q ps ≡ true → busy q (rest ++ r.says) ≡ cond (flies (ph q)) 1 0
    counts q a =
        let u = t.duties q a in
        let one : busy q (rest ++ r.says) ≡ busy q rest + busy q r.says = busy_append q rest r.says in
        let two : busy q r.says ≡ due_count u.need = z.busy_inside q (inside q a) ∙ ap due_count u.due_is in
        let all : busy q (rest ++ r.says) ≡ busy q rest + due_count u.need = one ∙ ap (λ c. busy q rest + c) two in
        all ∙ u.count

    pub turned_going : (before : List Sent) → (v.sent ++ [] ++ r.says) ≡ before ++ (rest ++ r.says) → sender v k ≡ sender w k → CalmWorld (speaks v k [] r) → Going w k m ps changes scopes (speaks v k [] r) before (rest ++ r.says) ph
    turned_going before sends net calm = record {
      sent = sends;
      network = net;
      calm = calm;
      now = r.master;
      runs = put_here v.masters k (Some r.master);
      epoch = same.1 ∙ t.epoch;
      elements = same.2 ∙ t.elements;
      deposed = z.deposed ∙ t.deposed;
      job = j;
      jobs = same.0 ∙ t.jobs;
      txn = t.txn;
      mine = t.mine;
      parts = t.parts;
      changed = t.changed;
      others = other_at;
      peers = λ q a. subst (λ y. PeerIn w k m ps changes scopes q y (ph q)) (sym (at_part q a)) (t.duties q a).peer;
      job_in = λ q a. (t.duties q a).job;
      stand = λ q a. (t.duties q a).stand;
      mode = t.mode;
      queue = record { each = λ s i. ⊎_elim (λ u. t.on_way s u) (λ u. said_way s u) (in_either s rest r.says i); count = counts };
    }

  -- with what is due
  pub spoken_going : (v : World) (n : Master) (j : Job) (rest : List Sent) (ph : ℕ → Phase) (before : List Sent) → Ground w k m ps changes scopes → Turned v n j rest ph → (v.sent ++ [] ++ (sends_all k n.elements n).says) ≡ before ++ (rest ++ (sends_all k n.elements n).says) → sender v k ≡ sender w k
      → CalmWorld (speaks v k [] (sends_all k n.elements n)) → Going w k m ps changes scopes (speaks v k [] (sends_all k n.elements n)) before (rest ++ (sends_all k n.elements n).says) ph
  spoken_going v n j rest ph before ground t sends net calm = turned_going v n j rest ph ground t (sends_all k n.elements n) (sends_all_is k n.elements n) (all_jobs k n.elements n) before sends net calm
