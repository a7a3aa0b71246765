-- What holds in every world, for one transaction x with these participants.
use Rattle.std.proofs.Common.{◌≡◌, ◌≢◌, ℕ, ◌+◌, ◌*◌, ◌^◌, ◌<◌, ◌≤◌, Bool, true, false, cond, List, [], ◌∷◌, Option, Some, None, is_some, ◌⊎◌, inl, inr, ⊎_elim, refl, sym, ap, ◌∙◌}
use Rattle.fc_agreement.specs.Agreement.{decision_of}
use Rattle.fc_protocol.specs.Collections.{among}
use Rattle.fc_agreement.specs.Core.{Note, Element, Core}
use Rattle.fc_protocol.specs.ElementMachine.{ElementState}
use Rattle.fc_protocol.specs.Floors.{is_under, is_below}
use Rattle.fc_protocol.specs.Jobs.{Job, find}
use Rattle.fc_protocol.specs.MasterMachine.{last_count, Waiting, Peer, Master, count_of}
use Rattle.fc_protocol.specs.Messages.{Malformed, Beat, Unread, same, Stamp, Body, Claim, Sot, Mot, Eot, Trcomp, Abt, Floor, Ask, Ask_record, Plain, is_query, Message, Setup, Request, Reply, Holds, Tells, Other_up, Other_down, Sent, sent}
use Rattle.fc_protocol.specs.Records.{is_held, seen, state_of}
use Rattle.fc_protocol.specs.Trace.{Fact, Opened_at, Prepared_at, Settled_at, Claimed_at}
use Rattle.fc_protocol.specs.WorldSteps.{Begun, World}
use Rattle.fc_protocol.specs.declared.answers.Answer.{Answer}
use Rattle.fc_protocol.specs.declared.answers.TxnEntry.{TxnEntry}
use Rattle.fc_protocol.specs.declared.states.Decision.{Decision}
use Rattle.fc_protocol.specs.declared.states.Decision.TheVariants.{Complete, Abort}
use Rattle.fc_protocol.specs.declared.states.Seen.{Seen}
use Rattle.fc_protocol.specs.declared.states.Seen.TheVariants.{Absent, Started, Prepared, Completed, Aborted}
use Rattle.fc_base.specs.Ids.{Txn}
use Rattle.fc_protocol.proofs.Basics.{In, AllOf, all_on}
use Rattle.fc_agreement.proofs.Sealing.{is_live, Sealed}
use Rattle.fc_agreement.proofs.Moves.{Told, note, Reached, over}

-- what has happened: the core, and of the world what only grows
pub record Past : Type 0 where
  pub core : Core
  pub sent : List Sent
  pub used : ℕ → List ℕ
  pub begun : List Begun
  pub elements : List ℕ  -- of the network, which stays

abbrev pub past : World → Core → Past
past w c = record { core = c; sent = w.sent; used = w.used; begun = w.begun; elements = w.network.elements }

-- e is the epoch of a life of k
abbrev pub Lives : Past → ℕ → ℕ → Type 0
Lives h k e = (r : ℕ) × In r (h.used k) × (e ≡ 256 * r + k) × (k < 256) × (r < 2 ^ 24) × (0 < r)

abbrev pub Asked : Past → ℕ → ℕ → Stamp → Body → Type 0
Asked h p k s b = In (sent p k (Request s b)) h.sent

abbrev pub is_open : Seen → Bool
is_open Absent = false
is_open Started = true
is_open Prepared = true
is_open Completed = true
is_open Aborted = false

abbrev pub done : Decision → Seen
done Complete = Completed
done Abort = Aborted

abbrev pub has : Txn → List TxnEntry → Bool
has x [] = false
has x (n ∷ ns) = cond (same x n.txn) true (has x ns)

-- two requests to one element with one correlator and of one kind are the same
abbrev pub Unique : List Sent → Type 0
Unique ss = (p j k : ℕ) (s : Stamp) (a b : Body) → In (sent p j (Request s a)) ss → In (sent p k (Request s b)) ss → is_query a ≡ is_query b → a ≡ b

pub done_over : (d : Decision) → over (done d) ≡ true
done_over Complete = refl
done_over Abort = refl

module _ (x : Txn) (parts : List ℕ) where
  abbrev pub Born : Past → Type 0
  Born h = (b : Begun) × In b h.begun × (b.txn ≡ x) × (0 < x.number)

  -- every transaction x that was begun has these participants
  abbrev pub Named : List Begun → Type 0
  Named bs = (b : Begun) → In b bs → b.txn ≡ x → b.parts ≡ parts

  -- an entry of x at an element of this epoch
  abbrev pub EntryFine : Past → ℕ → TxnEntry → Type 0
  EntryFine h e n = n.txn ≡ x → (is_held n.state ≡ true → n.participants ≡ parts) × (x.epoch ≤ e) × Born h

  -- p has told the life e that it holds x
  abbrev pub Found : Past → ℕ → ℕ → Type 0
  Found h e p = (s : Seen) × Told h.core.notes (note e p s) × (is_live s ≡ true) × (among p parts ≡ true)

  abbrev pub HeldFine : Past → ℕ → ℕ → TxnEntry → Type 0
  HeldFine h p e n = n.txn ≡ x → (n.participants ≡ parts) × (x.epoch ≤ e) × Born h × Found h e p

  -- p no longer holds x, can not open it, and has told no life above e that it holds it
  abbrev pub Closed : Past → ℕ → ℕ → Type 0
  Closed h e p = Sealed x.epoch parts e p h.core

  -- x has this end at p, where the life e was told so
  abbrev pub Ends : Past → ℕ → ℕ → Seen → Type 0
  Ends h e p s = ((h.core.at p).state ≡ s) × Closed h e p

  -- a life up to e has sent a floor above x
  abbrev pub Forgotten : Past → ℕ → Type 0
  Forgotten h e = (f : Txn) × (p : ℕ) × (j : ℕ) × (s : Stamp) × Asked h p j s (Floor f) × (s.life ≤ e) × (is_under x f ≡ true)

  -- what a request of the life e to p shows
  abbrev pub Means : Past → ℕ → ℕ → Body → Type 0
  Means h e p (Claim w) = Unit {0}
  Means h e p (Sot y ps sc) = y ≡ x → (e ≡ x.epoch) × (ps ≡ parts) × Born h
  Means h e p (Mot y i) = y ≡ x → e ≡ x.epoch
  Means h e p (Eot y) = y ≡ x → e ≡ x.epoch
  Means h e p (Trcomp y) = y ≡ x → (h.core.decided e ≡ Some Complete) × (among p parts ≡ true)
  Means h e p (Abt y) = y ≡ x → (h.core.decided e ≡ Some Abort) × (among p parts ≡ true) × (x.epoch ≤ e) × Born h
  Means h e p (Floor f) = (f.epoch ≡ e) × (is_under x f ≡ true → 0 < x.number → (q : ℕ) → among q parts ≡ true → Closed h e q) × (f.number ≤ last_count) × ((q : ℕ) → among q h.elements ≡ true → e ≤ (h.core.at q).epoch)
  Means h e p Ask = Unit {0}
  Means h e p (Ask_record y) = y ≡ x → x.epoch < e
  Means h e p Plain = Unit {0}
  Means h e p Malformed = Unit {0}

  pub record RequestFine (h : Past) (k p : ℕ) (s : Stamp) (b : Body) : Type 0 where
    pub life : Lives h k s.life
    pub low : s.count ≤ last_count
    pub first : s.count ≡ 0 → b ≡ Claim s.life
    pub means : Means h s.life p b

  -- each response has its request
  pub record ReplyFine (h : Past) (p : ℕ) (s : Stamp) (code : ℕ) : Type 0 where
    pub body : Body
    pub controller : ℕ
    pub asked : Asked h p controller s body
    pub kind : is_query body ≡ false
    pub prepared : code ≡ 0 → body ≡ Eot x → Told h.core.notes (note s.life p Prepared)
    pub completed : code ≡ 0 → body ≡ Trcomp x → Ends h s.life p Completed
    pub aborted : code ≡ 0 → body ≡ Abt x → Ends h s.life p Aborted

  pub record TellsFine (h : Past) (p : ℕ) (s : Stamp) (e : ℕ) (t : Seen) : Type 0 where
    pub body : Body
    pub controller : ℕ
    pub asked : Asked h p controller s body
    pub kind : is_query body ≡ true
    pub told : body ≡ Ask_record x → Told h.core.notes (note e p t) ⊎ ((t ≡ Absent) × Forgotten h e)
    pub ended : body ≡ Ask_record x → over t ≡ true → Ends h e p t

  pub record HoldsFine (h : Past) (p : ℕ) (s : Stamp) (e : ℕ) (ns : List TxnEntry) : Type 0 where
    pub controller : ℕ
    pub asked : Asked h p controller s Ask
    pub reached : e ≤ (h.core.at p).epoch
    pub each : AllOf (HeldFine h p e) ns
    pub closed : x.epoch < e → has x ns ≡ false → Closed h e p

  abbrev pub MessageFine : Past → ℕ → ℕ → Message → Type 0
  MessageFine h p k Setup = Unit {0}
  MessageFine h p k (Request s b) = RequestFine h k p s b
  MessageFine h p k (Reply s code) = ReplyFine h p s code
  MessageFine h p k (Holds s e ns) = HoldsFine h p s e ns
  MessageFine h p k (Tells s z e t) = TellsFine h p s e t
  MessageFine h p k Beat = Unit {0}
  MessageFine h p k (Unread s e) = Unit {0}
  MessageFine h p k Other_up = Unit {0}
  MessageFine h p k Other_down = Unit {0}

  abbrev pub SentFine : Past → Sent → Type 0
  SentFine h s = MessageFine h s.element s.controller s.message

  -- what is kept is no request: it stands whoever it goes to
  abbrev pub KeptFine : Past → ℕ → Option Message → Type 0
  KeptFine h p None = Unit {0}
  KeptFine h p (Some Setup) = ⊥
  KeptFine h p (Some Beat) = ⊥
  KeptFine h p (Some (Unread s e)) = ⊥
  KeptFine h p (Some (Request s b)) = ⊥
  KeptFine h p (Some (Reply s code)) = ReplyFine h p s code
  KeptFine h p (Some (Holds s e ns)) = ⊥
  KeptFine h p (Some (Tells s z e t)) = ⊥
  KeptFine h p (Some Other_up) = ⊥
  KeptFine h p (Some Other_down) = ⊥

  -- at most one entry is of x
  abbrev pub Single : List TxnEntry → Type 0
  Single [] = Unit {0}
  Single (n ∷ ns) = (same x n.txn ≡ true → has x ns ≡ false) × Single ns

  -- what an element has done stands in the facts
  pub record Marks (fs : List Fact) (p : ℕ) (y : Element) : Type 0 where
    pub opened : is_open y.state ≡ true → In (Opened_at p x parts) fs
    pub was : (ps : List ℕ) → In (Opened_at p x ps) fs → y.state ≡ Absent → ⊥
    pub prepared : y.prepared ≡ true → In (Prepared_at p x) fs
    pub settled : (d : Decision) → In (Settled_at p x d) fs → y.state ≡ done d
    pub ended : (d : Decision) → y.state ≡ done d → In (Settled_at p x d) fs

  -- a fact after these
  abbrev pub GoodFact : List Fact → Fact → Type 0
  GoodFact fs (Opened_at p y ps) = y ≡ x → (ps ≡ parts) × (0 < x.number)
  GoodFact fs (Prepared_at p y) = Unit {0}
  GoodFact fs (Settled_at p y d) = y ≡ x → ((g : Decision) → In (Settled_at p x g) fs → ⊥) × (d ≡ Complete → In (Opened_at p x parts) fs × ((q : ℕ) → among q parts ≡ true → In (Prepared_at q x) fs))
  GoodFact fs (Claimed_at p e) = Unit {0}

  abbrev pub GoodFacts : List Fact → Type 0
  GoodFacts [] = Unit {0}
  GoodFacts (f ∷ fs) = GoodFact fs f × GoodFacts fs

  pub record ElFine (h : Past) (p : ℕ) (el : ElementState) (y : Element) : Type 0 where
    pub epoch : el.epoch ≡ y.epoch
    pub state : is_below x el.floor ≡ false → seen (state_of x el.records) ≡ y.state
    pub gone : is_below x el.floor ≡ true → (state_of x el.records ≡ None) × (is_live y.state ≡ false)
    pub floor : (f : Txn) → el.floor ≡ Some f → (j : ℕ) × (s : Stamp) × Asked h p j s (Floor f) × (s.life ≤ el.epoch)
    pub entries : AllOf (EntryFine h el.epoch) el.records
    pub single : Single el.records
    pub kept : KeptFine h p el.kept
    pub low : (el.epoch < 2 ^ 32) × (el.sequence ≤ last_count)

  pub record AnswerFine (h : Past) (e p : ℕ) (a : Answer) : Type 0 where
    pub above : x.epoch < e → Told h.core.notes (note a.epoch p a.seen) ⊎ ((a.seen ≡ Absent) × Forgotten h e)
    pub prepared : a.seen ≡ Prepared → Told h.core.notes (note a.epoch p a.seen)
    pub own : x.epoch ≡ e → a.seen ≢ Completed
    pub ended : x.epoch < e → over a.seen ≡ true → Ends h e p a.seen

  pub record OfX (h : Past) (e : ℕ) (j : Job) : Type 0 where
    pub named : j.parts ≡ parts
    pub born : Born h
    pub low : x.epoch ≤ e
    pub mine : j.mine ≡ true → e ≡ x.epoch
    pub other : j.mine ≡ false → x.epoch < e
    pub answers : (p : ℕ) (a : Answer) → j.answers p ≡ Some a → AnswerFine h e p a
    pub found : j.mine ≡ false → (q : ℕ) × Found h e q
    pub settled : (p : ℕ) → j.settled p ≡ true → (d : Decision) × (j.decision ≡ Some d) × ((h.core.at p).state ≡ done d) × Closed h e p

  abbrev pub JobFine : Past → ℕ → Job → Type 0
  JobFine h e j = j.txn ≡ x → OfX h e j

  -- at most one job is of x
  abbrev pub Once : List Job → Type 0
  Once [] = Unit {0}
  Once (j ∷ js) = (same x j.txn ≡ true → find x js ≡ None) × Once js

  pub record JobsFine (h : Past) (e begun : ℕ) (js : List Job) : Type 0 where
    pub decided : h.core.decided e ≡ decision_of (find x js)
    pub each : AllOf (JobFine h e) js
    pub once : Once js
    pub numbers : e ≡ x.epoch → Born h → (x.number ≤ begun) × (is_some (find x js) ≡ true)
    pub made : e ≡ x.epoch → 0 < x.number → x.number ≤ begun → is_some (find x js) ≡ true

  pub record PeerFine (h : Past) (k e p : ℕ) (y : Peer) : Type 0 where
    pub low : (y.last ≤ last_count) × (y.queries ≤ last_count)
    pub waits : (o : Waiting) → y.waits ≡ Some o → (o.stamp.life ≡ e) × Asked h p k o.stamp o.body
    pub counts : (j : ℕ) (s : Stamp) (b : Body) → Asked h p j s b → s.life ≡ e → s.count ≤ count_of b y

  -- no answer to an ask that waits at p lists x
  abbrev pub Unlisted : Past → Master → ℕ → Type 0
  Unlisted h m p = (o : Waiting) → (m.at p).waits ≡ Some o → o.body ≡ Ask → (j e : ℕ) (ns : List TxnEntry) → In (sent p j (Holds o.stamp e ns)) h.sent → has x ns ≡ false

  -- there is a job of x, or p is closed
  abbrev pub Known : Past → Master → ℕ → Type 0
  Known h m p = (is_some (find x m.jobs) ≡ true) ⊎ (Closed h m.epoch p × Unlisted h m p)

  -- every job of x that has a participant is decided
  abbrev pub Settling : List Job → Type 0
  Settling js = (j : Job) → find x js ≡ Some j → (p : ℕ) → among p parts ≡ true → is_some j.decision ≡ true

  -- a floor of this life, wanted or sent
  abbrev pub FloorKnown : Master → Txn → Type 0
  FloorKnown m f = (f.number ≤ m.begun + 1) × (is_under x f ≡ true → ((q : ℕ) → among q m.elements ≡ true → (m.at q).answered ≡ true) × Settling m.jobs) × (f.epoch ≡ m.epoch)

  -- what is known for forgetting
  pub record Forgets (h : Past) (m : Master) : Type 0 where
    pub inside : (q : ℕ) → among q parts ≡ true → among q m.elements ≡ true
    pub manned : (q : ℕ) → among q h.elements ≡ true → among q m.elements ≡ true
    pub reached : (p : ℕ) → (m.at p).answered ≡ true → m.epoch ≤ (h.core.at p).epoch
    pub known : (p : ℕ) → (m.at p).answered ≡ true → x.epoch < m.epoch → Known h m p
    pub owed : (p : ℕ) (f : Txn) → (m.at p).owes ≡ Some f → FloorKnown m f × Means h m.epoch p (Floor f)
    pub floors : (p j : ℕ) (s : Stamp) (f : Txn) → Asked h p j s (Floor f) → s.life ≡ m.epoch → FloorKnown m f

  pub record MasterFine (h : Past) (k : ℕ) (m : Master) : Type 0 where
    pub life : Lives h k m.epoch
    pub low : m.begun ≤ last_count
    pub jobs : JobsFine h m.epoch m.begun m.jobs
    pub peers : (p : ℕ) → PeerFine h k m.epoch p (m.at p)
    pub forgets : Forgets h m

  abbrev pub LifeFine : Past → ℕ → Option Master → Type 0
  LifeFine h k None = Unit {0}
  LifeFine h k (Some m) = MasterFine h k m

  pub record Tied (w : World) (c : Core) : Type 0 where
    pub reached : Reached x.epoch parts c
    pub inside : (q : ℕ) → among q parts ≡ true → among q w.network.elements ≡ true
    pub elements : (p : ℕ) → ElFine (past w c) p (w.at p) (c.at p)
    pub masters : (k : ℕ) → LifeFine (past w c) k (w.masters k)
    pub sent : (s : Sent) → In s w.sent → SentFine (past w c) s
    pub unique : Unique w.sent
    pub decided : (e : ℕ) (d : Decision) → c.decided e ≡ Some d → (k : ℕ) × Lives (past w c) k e
    pub owner : Born (past w c) → (k : ℕ) × Lives (past w c) k x.epoch
    pub marks : (p : ℕ) → Marks w.facts p (c.at p)
    pub good : GoodFacts w.facts

  -- Growth

  pub record Later (h g : Past) : Type 0 where
    pub decided : (e : ℕ) (d : Decision) → h.core.decided e ≡ Some d → g.core.decided e ≡ Some d
    pub told : (n : Note) → Told h.core.notes n → Told g.core.notes n
    pub final : (q : ℕ) (s : Seen) → over s ≡ true → (h.core.at q).state ≡ s → (g.core.at q).state ≡ s
    pub sent : (s : Sent) → In s h.sent → In s g.sent
    pub used : (k r : ℕ) → In r (h.used k) → In r (g.used k)
    pub born : Born h → Born g
    pub closed : (e p : ℕ) → Closed h e p → Closed g e p
    pub rises : (e p : ℕ) → e ≤ (h.core.at p).epoch → e ≤ (g.core.at p).epoch
    pub crew : (q : ℕ) → among q g.elements ≡ true → among q h.elements ≡ true

  -- and nothing new of the life e
  pub record Apart (e : ℕ) (h g : Past) : Type 0 where
    pub decided : g.core.decided e ≡ h.core.decided e
    pub asked : (p k : ℕ) (s : Stamp) (b : Body) → Asked g p k s b → s.life ≡ e → Asked h p k s b
    pub born : e ≡ x.epoch → Born g → Born h
    pub silent : (p k : ℕ) (s : Stamp) (f : ℕ) (ns : List TxnEntry) → In (sent p k (Holds s f ns)) g.sent → In (sent p k (Holds s f ns)) h.sent ⊎ (Closed h e p → has x ns ≡ false)

  module _ (h g : Past) (l : Later h g) where
    pub lives_on : (k e : ℕ) → Lives h k e → Lives g k e
    lives_on k e t = (t.0, l.used k t.0 t.1, t.2, t.3, t.4, t.5)

    pub means_on : (e p : ℕ) (b : Body) → Means h e p b → Means g e p b
    means_on e p (Claim w) m = tt
    means_on e p (Sot y ps sc) m = λ t. let n = m t in (n.0, n.1, l.born n.2)
    means_on e p (Mot y i) m = m
    means_on e p (Eot y) m = m
    means_on e p (Trcomp y) m = λ t. let n = m t in (l.decided e Complete n.0, n.1)
    means_on e p (Abt y) m = λ t. let n = m t in (l.decided e Abort n.0, n.1, n.2, l.born n.3)
    means_on e p (Floor f) m = (m.0, (λ u n q a. l.closed e q (m.1 u n q a)), m.2, (λ q a. l.rises e q (m.3 q (l.crew q a))))
    means_on e p Ask m = tt
    means_on e p (Ask_record y) m = m
    means_on e p Plain m = tt
    means_on e p Malformed m = tt

    pub ends_on : (e p : ℕ) (s : Seen) → over s ≡ true → Ends h e p s → Ends g e p s
    ends_on e p s o t = (l.final p s o t.0, l.closed e p t.1)

    pub found_on : (e p : ℕ) → Found h e p → Found g e p
    found_on e p t = (t.0, l.told _ t.1, t.2, t.3)

    pub forgotten_on : (e : ℕ) → Forgotten h e → Forgotten g e
    forgotten_on e t = (t.0, t.1, t.2, t.3, l.sent _ t.4, t.5, t.6)

    pub told_on : (e : ℕ) (n : Note) (t : Seen) → Told h.core.notes n ⊎ ((t ≡ Absent) × Forgotten h e) → Told g.core.notes n ⊎ ((t ≡ Absent) × Forgotten g e)
    told_on e n t u = ⊎_elim (λ v. inl (l.told n v)) (λ v. inr (v.0, forgotten_on e v.1)) u

    pub reply_on : (p : ℕ) (s : Stamp) (code : ℕ) → ReplyFine h p s code → ReplyFine g p s code
    reply_on p s code r = record { body = r.body; controller = r.controller; asked = l.sent _ r.asked; kind = r.kind; prepared = λ z e. l.told _ (r.prepared z e); completed = λ z e. ends_on s.life p Completed refl (r.completed z e); aborted = λ z e. ends_on s.life p Aborted refl (r.aborted z e) }

    pub held_on : (p e : ℕ) (n : TxnEntry) → HeldFine h p e n → HeldFine g p e n
    held_on p e n f = λ t. let k = f t in (k.0, k.1, l.born k.2, found_on e p k.3)

    pub entry_on : (e : ℕ) (n : TxnEntry) → EntryFine h e n → EntryFine g e n
    entry_on e n f = λ t. let k = f t in (k.0, k.1, l.born k.2)

    pub message_on : (p k : ℕ) (m : Message) → MessageFine h p k m → MessageFine g p k m
    message_on p k Setup f = tt
    message_on p k (Request s b) f = record { life = lives_on k s.life f.life; low = f.low; first = f.first; means = means_on s.life p b f.means }
    message_on p k (Reply s code) f = reply_on p s code f
    message_on p k (Holds s e ns) f = record { controller = f.controller; asked = l.sent _ f.asked; reached = l.rises e p f.reached; each = all_on (HeldFine h p e) (HeldFine g p e) ns (held_on p e) f.each; closed = λ u v. l.closed e p (f.closed u v) }
    message_on p k (Tells s z e t) f = record { body = f.body; controller = f.controller; asked = l.sent _ f.asked; kind = f.kind; told = λ i. told_on e (note e p t) t (f.told i); ended = λ i o. ends_on e p t o (f.ended i o) }
    message_on p k Beat f = tt
    message_on p k (Unread s e) f = tt
    message_on p k Other_up f = tt
    message_on p k Other_down f = tt

    pub kept_on : (p : ℕ) (m : Option Message) → KeptFine h p m → KeptFine g p m
    kept_on p None f = tt
    kept_on p (Some Setup) f = f
    kept_on p (Some Beat) f = f
    kept_on p (Some (Unread s e)) f = f
    kept_on p (Some (Request s b)) f = f
    kept_on p (Some (Reply s code)) f = reply_on p s code f
    kept_on p (Some (Holds s e ns)) f = f
    kept_on p (Some (Tells s z e t)) f = f
    kept_on p (Some Other_up) f = f
    kept_on p (Some Other_down) f = f

    pub el_on : (p : ℕ) (el : ElementState) (y z : Element) → z ≡ y → ElFine h p el y → ElFine g p el z
    el_on p el y z e f = record {
      epoch = f.epoch ∙ ap (λ (v : Element). v.epoch) (sym e);
      state = λ b. f.state b ∙ ap (λ (v : Element). v.state) (sym e);
      gone = λ b. let v = f.gone b in (v.0, ap (λ (v : Element). is_live v.state) e ∙ v.1);
      floor = λ t i. let v = f.floor t i in (v.0, v.1, l.sent _ v.2, v.3);
      entries = all_on (EntryFine h el.epoch) (EntryFine g el.epoch) el.records (entry_on el.epoch) f.entries;
      single = f.single;
      kept = kept_on p el.kept f.kept;
      low = f.low;
    }

    pub job_on : (e : ℕ) (j : Job) → JobFine h e j → JobFine g e j
    job_on e j f = λ t. let o = f t in
        record {
          named = o.named;
          born = l.born o.born;
          low = o.low;
          mine = o.mine;
          other = o.other;
          answers = λ p a i. let b = o.answers p a i in record { above = λ u. told_on e (note a.epoch p a.seen) a.seen (b.above u); prepared = λ u. l.told _ (b.prepared u); own = b.own; ended = λ u v. ends_on e p a.seen v (b.ended u v) };
          found = λ i. let b = o.found i in (b.0, found_on e b.0 b.1);
          settled = λ p i. let b = o.settled p i in (b.0, b.1, l.final p (done b.0) (done_over b.0) b.2, l.closed e p b.3);
        }

    pub jobs_on : (e begun : ℕ) (js : List Job) → g.core.decided e ≡ h.core.decided e → (e ≡ x.epoch → Born g → Born h) → JobsFine h e begun js → JobsFine g e begun js
    jobs_on e begun js d o f = record {
      decided = d ∙ f.decided;
      each = all_on (JobFine h e) (JobFine g e) js (job_on e) f.each;
      once = f.once;
      numbers = λ i b. f.numbers i (o i b);
      made = f.made;
    }

    pub peer_on : (k e p : ℕ) (y : Peer) → Apart e h g → PeerFine h k e p y → PeerFine g k e p y
    peer_on k e p y a f = record {
      low = f.low;
      waits = λ o i. let t = f.waits o i in (t.0, l.sent _ t.1);
      counts = λ j s b i t. f.counts j s b (a.asked p j s b i t) t;
    }

    -- no request of the life e is new, and no answer lists x where p is closed for it
    abbrev pub Quiet : ℕ → Type 0
    Quiet e = ((p k : ℕ) (s : Stamp) (b : Body) → Asked g p k s b → s.life ≡ e → Asked h p k s b)
        × ((p k : ℕ) (s : Stamp) (f : ℕ) (ns : List TxnEntry) → In (sent p k (Holds s f ns)) g.sent → In (sent p k (Holds s f ns)) h.sent ⊎ (Closed h e p → has x ns ≡ false))

    pub known_on : (m : Master) (p : ℕ) → Quiet m.epoch → Known h m p → Known g m p
    known_on m p a k = ⊎_elim (λ u. inl u) (λ u. inr (l.closed m.epoch p u.0, (λ o w b j e ns i. ⊎_elim (λ v. u.1 o w b j e ns v) (λ v. v u.0) (a.1 p j o.stamp e ns i)))) k

    pub forgets_on : (m : Master) → Quiet m.epoch → Forgets h m → Forgets g m
    forgets_on m a f = record {
      inside = f.inside;
      manned = λ q a. f.manned q (l.crew q a);
      reached = λ p u. l.rises m.epoch p (f.reached p u);
      known = λ p u v. known_on m p a (f.known p u v);
      owed = λ p t i. let v = f.owed p t i in (v.0, means_on m.epoch p (Floor t) v.1);
      floors = λ p j s t i u. f.floors p j s t (a.0 p j s (Floor t) i u) u;
    }

    pub master_on : (k : ℕ) (m : Master) → Apart m.epoch h g → MasterFine h k m → MasterFine g k m
    master_on k m a f = record { life = lives_on k m.epoch f.life; low = f.low; jobs = jobs_on m.epoch m.begun m.jobs a.decided a.born f.jobs; peers = λ p. peer_on k m.epoch p (m.at p) a (f.peers p); forgets = forgets_on m (a.asked, a.silent) f.forgets }
