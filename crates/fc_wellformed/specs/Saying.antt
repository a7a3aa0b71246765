-- What a master may say, so that each message can be encoded: an opening has at most 64 participants and 4,096 instances, as the first of a
-- plan of a transaction has, and a plain change goes only where there is one. This profile's own, over the machine of a master.
use Rattle.std.specs.Prelude.{◌≡◌, ℕ, ◌≤◌, true, length, ⊤, Option, Some, None}
use Rattle.std.specs.List.{AllByRecursion}
use Rattle.fc_protocol.specs.Jobs.{Job}
use Rattle.fc_protocol.specs.Messages.{Body, Claim, Sot, Mot, Eot, Trcomp, Abt, Floor, Malformed, Plain, Ask, Ask_record, Message, Setup, Beat, Request, Reply, Holds, Tells, Unread, Other_up, Other_down, Sent}
use Rattle.fc_protocol.specs.MasterMachine.{Master, Speaks, Waiting}

-- what may be said to p, where a plain change may only be said to an element that has one
abbrev pub MaySay : (ℕ → Type 0) → ℕ → Body → Type 0
MaySay HasPlain p (Claim w) = ⊤
MaySay HasPlain p (Sot x ps sc) = (length ps ≤ 64) × (length sc ≤ 4096)
MaySay HasPlain p (Mot x i) = ⊤
MaySay HasPlain p (Eot x) = ⊤
MaySay HasPlain p (Trcomp x) = ⊤
MaySay HasPlain p (Abt x) = ⊤
MaySay HasPlain p (Floor f) = ⊤
MaySay HasPlain p Malformed = ⊥
MaySay HasPlain p Plain = HasPlain p
MaySay HasPlain p Ask = ⊤
MaySay HasPlain p (Ask_record x) = ⊤

-- what waits at p
abbrev pub MayWait : (ℕ → Type 0) → ℕ → Option Waiting → Type 0
MayWait HasPlain p None = ⊤
MayWait HasPlain p (Some o) = MaySay HasPlain p o.body

-- an own job has few participants, and each one's scope is small
abbrev pub IsSmall : Job → Type 0
IsSmall j = j.mine ≡ true → (length j.parts ≤ 64) × ((p : ℕ) → length (j.scopes p) ≤ 4096)

-- a master that drives such jobs alone, and at whose elements nothing else waits
pub record MaySpeak (HasPlain : ℕ → Type 0) (m : Master) : Type 0 where
  pub jobs : AllByRecursion IsSmall m.jobs
  pub waits : (p : ℕ) → MayWait HasPlain p (m.at p).waits

-- what is said
abbrev pub MayTell : (ℕ → Type 0) → ℕ → Message → Type 0
MayTell HasPlain p Setup = ⊤
MayTell HasPlain p Beat = ⊤
MayTell HasPlain p (Request s b) = MaySay HasPlain p b
MayTell HasPlain p (Reply s code) = ⊤
MayTell HasPlain p (Holds s e ns) = ⊤
MayTell HasPlain p (Tells s x e t) = ⊤
MayTell HasPlain p (Unread s e) = ⊤
MayTell HasPlain p Other_up = ⊤
MayTell HasPlain p Other_down = ⊤

abbrev pub MaySend : (ℕ → Type 0) → Sent → Type 0
MaySend HasPlain s = MayTell HasPlain s.element s.message

-- a master that may speak on, with what it says
pub record SpeaksWell (HasPlain : ℕ → Type 0) (s : Speaks) : Type 0 where
  pub master : MaySpeak HasPlain s.master
  pub says : AllByRecursion (MaySend HasPlain) s.says
