-- What holds of a world however messages are lost, repeated and reordered and controllers stop and return. Lists of facts have the newest first. This profile's own.
use Rattle.std.specs.Prelude.{◌≡◌, ℕ, ◌<◌, ◌≤◌, ◌^◌, true, false, List, [], ◌∷◌, ◌++◌, Option, Some, None}
use Rattle.fc_base.specs.Ids.{Txn}
use Rattle.fc_protocol.specs.Collections.{In, among}
use Rattle.fc_agreement.specs.Core.{Core, Move, start, moves}
use Rattle.fc_protocol.specs.Floors.{is_under, is_below}
use Rattle.fc_protocol.specs.Jobs.{Job, find, is_settled}
use Rattle.fc_protocol.specs.MasterMachine.{Master, finish}
use Rattle.fc_protocol.specs.Messages.{Stamp, Body, Request, Trcomp, Abt, Floor, sent}
use Rattle.fc_protocol.specs.OneElement.{end_of}
use Rattle.fc_protocol.specs.Records.{seen, state_of, is_held}
use Rattle.fc_protocol.specs.Trace.{Fact, Opened_at, Prepared_at, Settled_at}
use Rattle.fc_protocol.specs.WorldSteps.{World, Begun}
use Rattle.fc_protocol.specs.declared.answers.TxnEntry.{TxnEntry}
use Rattle.fc_protocol.specs.declared.states.Decision.{Decision}
use Rattle.fc_protocol.specs.declared.states.Decision.TheVariants.{Complete, Abort}
use Rattle.fc_protocol.specs.declared.states.TxnState.{TxnState}

-- no two elements settle one transaction differently
abbrev pub Agree : List Fact → Type 0
Agree fs = (x : Txn) (p q : ℕ) (d g : Decision) → In (Settled_at p x d) fs → In (Settled_at q x g) fs → d ≡ g

-- an element settles a transaction at most once
abbrev pub SettleOnce : List Fact → Type 0
SettleOnce fs = (x : Txn) (p : ℕ) (d g : Decision) (later before : List Fact) → fs ≡ later ++ Settled_at p x d ∷ before → In (Settled_at p x g) before → ⊥

-- before an element completes a transaction it has opened it, and before that every participant it was opened with has prepared
abbrev pub Ready : List Fact → Type 0
Ready fs =
    (x : Txn) (p : ℕ) (later before : List Fact) → fs ≡ later ++ Settled_at p x Complete ∷ before → (ps : List ℕ) × In (Opened_at p x ps) before × ((q : ℕ) → among q ps ≡ true → In (Prepared_at q x) before)

-- all elements open a transaction with one list of participants
abbrev pub OnePlan : List Fact → Type 0
OnePlan fs = (x : Txn) (p q : ℕ) (ps qs : List ℕ) → In (Opened_at p x ps) fs → In (Opened_at q x qs) fs → ps ≡ qs

-- what a master counts as settled at an element has been settled there, by the decision of the job
abbrev pub Settled : World → Type 0
Settled w = (k : ℕ) (m : Master) (j : Job) (p : ℕ) → w.masters k ≡ Some m → In j m.jobs → j.settled p ≡ true → (d : Decision) × (j.decision ≡ Some d) × In (Settled_at p j.txn d) w.facts

-- a job that is settled whole has been settled so by every participant
abbrev pub SettledWhole : World → Type 0
SettledWhole w = (k : ℕ) (m : Master) (j : Job) (p : ℕ) → w.masters k ≡ Some m → In j m.jobs → is_settled j ≡ true → among p j.parts ≡ true → (d : Decision) × (j.decision ≡ Some d) × In (Settled_at p j.txn d) w.facts

-- a transaction is begun once at most; the newest stands first
abbrev pub BegunOnce : World → Type 0
BegunOnce w = (a b : Begun) (later before : List Begun) → w.begun ≡ later ++ a ∷ before → In b before → a.txn ≡ b.txn → ⊥

-- what one life says of a transaction's end it never takes back
abbrev pub SaysOnce : World → Type 0
SaysOnce w = (x : Txn) (p q j k : ℕ) (m n : Stamp) → In (sent p j (Request m (Trcomp x))) w.sent → In (sent q k (Request n (Abt x))) w.sent → m.life ≡ n.life → ⊥

-- the decision of a job, where there is one
abbrev pub decision_of : Option Job → Option Decision
decision_of None = None
decision_of (Some j) = j.decision

-- what a running master's life has said of a transaction's end is what it has decided
abbrev pub SaysDecision : World → Type 0
SaysDecision w =
    (x : Txn) (p j k : ℕ) (m : Master) (n : Stamp) → w.masters k ≡ Some m → n.life ≡ m.epoch
    → (In (sent p j (Request n (Trcomp x))) w.sent → decision_of (find x m.jobs) ≡ Some Complete) × (In (sent p j (Request n (Abt x))) w.sent → decision_of (find x m.jobs) ≡ Some Abort)

-- the core tells each element's epoch, its record of x, where x is not below its floor, and how it has settled x, whatever it has forgotten; and what each running master has decided of x
abbrev pub Mirrors : Txn → Core → World → Type 0
Mirrors x c w =
    ((p : ℕ) → ((c.at p).epoch ≡ (w.at p).epoch) × (is_below x (w.at p).floor ≡ false → (c.at p).state ≡ seen (state_of x (w.at p).records)))
    × ((p : ℕ) (d : Decision) → (In (Settled_at p x d) w.facts → (c.at p).state ≡ seen (Some (end_of d))) × ((c.at p).state ≡ seen (Some (end_of d)) → In (Settled_at p x d) w.facts))
    × ((p : ℕ) → (c.at p).prepared ≡ true → In (Prepared_at p x) w.facts)
    × ((k : ℕ) (m : Master) → w.masters k ≡ Some m → c.decided m.epoch ≡ decision_of (find x m.jobs))

-- whatever has happened until w, and from there until v, is, for each transaction, a list of moves of its core
abbrev pub FollowsCore : World → World → Type 0
FollowsCore w v =
    (x : Txn) → (parts : List ℕ) × ((b : Begun) → In b v.begun → b.txn ≡ x → b.parts ≡ parts) × (until since : List Move) × Mirrors x (moves x.epoch parts until start) w × Mirrors x (moves x.epoch parts since (moves x.epoch parts until start)) v

-- where a life has sent a floor, what is below it is held nowhere, and each element that has opened such a transaction has settled it
abbrev pub FloorsSettle : World → Type 0
FloorsSettle w =
    (x f : Txn) (p q k : ℕ) (m : Stamp) → In (sent q k (Request m (Floor f))) w.sent → is_under x f ≡ true
    → ((s : TxnState) → state_of x (w.at p).records ≡ Some s → is_held s ≡ false) × ((ps : List ℕ) → In (Opened_at p x ps) w.facts → (d : Decision) × In (Settled_at p x d) w.facts)

-- where a life has sent a floor, every element has reached that life's epoch
abbrev pub FloorsReach : World → Type 0
FloorsReach w = (f : Txn) (p q k : ℕ) (m : Stamp) → In (sent q k (Request m (Floor f))) w.sent → among p w.network.elements ≡ true → (f.epoch ≡ m.life) × (m.life ≤ (w.at p).epoch)

-- where a running master's life has sent a floor, every element has answered it
abbrev pub FloorsAnswered : World → Type 0
FloorsAnswered w = (f : Txn) (p q j k : ℕ) (m : Master) (n : Stamp) → w.masters k ≡ Some m → In (sent q j (Request n (Floor f))) w.sent → n.life ≡ m.epoch → among p w.network.elements ≡ true → (m.at p).answered ≡ true

-- no running master has anything left to decide or to send: what is due was sent with the input that made it due
abbrev pub AtRest : World → Type 0
AtRest w = (k : ℕ) (m : Master) → w.masters k ≡ Some m → finish k m ≡ record { master = m; says = [] }

-- the halves of the correlator of a request, the parts of a floor that is sent or kept, of a transaction that was begun and of one of which there is a record, and the epochs, sequences and counts of elements and of running masters fit in their 32 bits
abbrev pub Bounded : World → Type 0
Bounded w =
    ((p k : ℕ) (m : Stamp) (b : Body) → In (sent p k (Request m b)) w.sent → (m.life < 2 ^ 32) × (m.count < 2 ^ 32))
    × ((p : ℕ) → ((w.at p).epoch < 2 ^ 32) × ((w.at p).sequence < 2 ^ 32))
    × ((p k : ℕ) (m : Stamp) (f : Txn) → In (sent p k (Request m (Floor f))) w.sent → (f.epoch < 2 ^ 32) × (f.number < 2 ^ 32))
    × ((p : ℕ) (f : Txn) → (w.at p).floor ≡ Some f → (f.epoch < 2 ^ 32) × (f.number < 2 ^ 32))
    × ((k : ℕ) (m : Master) → w.masters k ≡ Some m → (m.epoch < 2 ^ 32) × (m.begun < 2 ^ 32) × ((p : ℕ) → ((m.at p).last < 2 ^ 32) × ((m.at p).queries < 2 ^ 32)))
    × ((b : Begun) → In b w.begun → (b.txn.epoch < 2 ^ 32) × (b.txn.number < 2 ^ 32))
    × ((p : ℕ) (n : TxnEntry) → In n (w.at p).records → (n.txn.epoch < 2 ^ 32) × (n.txn.number < 2 ^ 32))
