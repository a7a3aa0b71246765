-- What a master says is in numbers of 32 bits, so that each of them fits in its place in a message. A master says so if its epoch, its count of
-- transactions, its jobs, its floors and what waits for a response are in such numbers. This profile's own, over the machine of a master.
use Rattle.std.specs.Prelude.{◌≡◌, ◌<◌, ◌≤◌, ◌^◌, ◌==◌, ℕ, true, ⊤, List, length, Option, Some, None}
use Rattle.std.specs.List.{AllByRecursion}
use Rattle.fc_base.specs.Ids.{Txn}
use Rattle.fc_protocol.specs.Jobs.{Job}
use Rattle.fc_protocol.specs.MasterMachine.{Master, Peer, Speaks, Waiting}
use Rattle.fc_protocol.specs.Messages.{is_claim, is_epoch, is_name, Stamp, Body, Claim, Sot, Mot, Eot, Trcomp, Abt, Floor, Malformed, Plain, Ask, Ask_record, Message, Setup, Beat, Request, Reply, Holds, Tells, Unread, Other_up, Other_down, Sent}
use Rattle.fc_protocol.specs.Scopes.{Scope}
use Rattle.fc_protocol.specs.declared.answers.TxnEntry.{TxnEntry}

-- ---- numbers
-- a number that fits in 32 bits
abbrev pub IsWord : ℕ → Type 0
IsWord n = n < 2 ^ 32

-- the two numbers of a transaction, and those of the instance of a class
abbrev pub AreWords : Txn → Type 0
AreWords x = IsWord x.epoch × IsWord x.number

abbrev pub IsInstance : ℕ × ℕ → Type 0
IsInstance i = IsWord i.0 × IsWord i.1

-- the instances of a scope
abbrev pub AreInstances : Scope → Type 0
AreInstances sc = AllByRecursion IsInstance sc

-- a transaction that a master can have begun, in such numbers
abbrev pub IsTxn : Txn → Type 0
IsTxn x = AreWords x × (is_name x ≡ true)

-- the participants and the scope of an opening: numbers that fit, and no more of them than it holds
pub record FitOpening (ps : List ℕ) (sc : Scope) : Type 0 where
  pub participants : AllByRecursion IsWord ps
  pub few : length ps ≤ 64
  pub instances : AreInstances sc
  pub narrow : length sc ≤ 4096

-- ---- what a master may say
-- a request in such numbers; a message that no master means to send is none
abbrev pub IsNumbered : Body → Type 0
IsNumbered (Claim w) = IsWord w
IsNumbered (Sot x ps sc) = IsTxn x × FitOpening ps sc
IsNumbered (Mot x i) = IsTxn x
IsNumbered (Eot x) = IsTxn x
IsNumbered (Trcomp x) = IsTxn x
IsNumbered (Abt x) = IsTxn x
IsNumbered (Floor x) = IsTxn x
IsNumbered Malformed = ⊥
IsNumbered Plain = ⊤
IsNumbered Ask = ⊤
IsNumbered (Ask_record x) = IsTxn x

-- a correlator for it: both halves fit, and the count is 0 for a claim and for nothing else
pub record IsStamped (s : Stamp) (b : Body) : Type 0 where
  pub life : IsWord s.life
  pub count : IsWord s.count
  pub claims : (s.count == 0) ≡ is_claim b

abbrev pub AsksNumbers : Stamp → Body → Type 0
AsksNumbers s b = IsStamped s b × IsNumbered b

-- what is said is such a request
abbrev pub SaysNumbers : Message → Type 0
SaysNumbers Setup = ⊥
SaysNumbers Beat = ⊥
SaysNumbers (Request s b) = AsksNumbers s b
SaysNumbers (Reply s code) = ⊥
SaysNumbers (Holds s e ns) = ⊥
SaysNumbers (Tells s x e t) = ⊥
SaysNumbers (Unread s e) = ⊥
SaysNumbers Other_up = ⊥
SaysNumbers Other_down = ⊥

-- all that is said
abbrev pub AreNumbered : List Sent → Type 0
AreNumbered says = AllByRecursion (λ (s : Sent). SaysNumbers s.message) says

-- ---- a master that goes on to say it
-- what waits for its response, and the floor that is not answered
abbrev pub WaitsNumbered : Option Waiting → Type 0
WaitsNumbered None = ⊤
WaitsNumbered (Some o) = AsksNumbers o.stamp o.body

abbrev pub OwesNumbered : Option Txn → Type 0
OwesNumbered None = ⊤
OwesNumbered (Some x) = IsTxn x

-- what is kept of an element
abbrev pub KeepsNumbers : Peer → Type 0
KeepsNumbers y = WaitsNumbered y.waits × OwesNumbered y.owes

-- a job: its transaction; and, where this life began it, its participants, and the scope at each element
abbrev pub DrivesNumbers : Job → Type 0
DrivesNumbers j = IsTxn j.txn × (j.mine ≡ true → (p : ℕ) → FitOpening j.parts (j.scopes p))

-- a master in such numbers
pub record IsInNumbers (m : Master) : Type 0 where
  pub epoch : is_epoch m.epoch ≡ true
  pub begun : IsWord m.begun
  pub jobs : AllByRecursion DrivesNumbers m.jobs
  pub keeps : (p : ℕ) → KeepsNumbers (m.at p)

-- it is one, and so is all that it says
pub record SpeaksNumbers (s : Speaks) : Type 0 where
  pub master : IsInNumbers s.master
  pub says : AreNumbered s.says

-- ---- what a master hears
-- the transactions that an element tells of are such
abbrev pub TellsNumbers : Message → Type 0
TellsNumbers Setup = ⊤
TellsNumbers Beat = ⊤
TellsNumbers (Request s b) = ⊤
TellsNumbers (Reply s code) = ⊤
TellsNumbers (Holds s e ns) = AllByRecursion (λ (n : TxnEntry). IsTxn n.txn) ns
TellsNumbers (Tells s x e t) = ⊤
TellsNumbers (Unread s e) = ⊤
TellsNumbers Other_up = ⊤
TellsNumbers Other_down = ⊤
