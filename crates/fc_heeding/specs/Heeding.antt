-- What an element reads in a Config of a control element. The requests of a master, and what an element reads in them, are this profile's own, over RFC 5810, sections 7.1 and 7.6.
use Rattle.std.specs.Prelude.{◌≡◌, ◌≢◌, ◌<◌, ◌≤◌, ◌^◌, ℕ, List, [], ◌∷◌, length, None}
use Rattle.std.specs.List.{AllByRecursion}
use Rattle.fc_base.specs.Ids.{Txn}
use Rattle.fc_msg.specs.declared.message.Message.{Message}
use Rattle.fc_msg.specs.declared.message.MsgBody.TheVariants.{Config}
use Rattle.fc_path.specs.declared.oper.Select.{Select}
use Rattle.fc_phases.specs.Asking.{body_of}
use Rattle.fc_numbering.specs.Numbering.{AreWords, FitOpening, IsWord}
use Rattle.fc_plans.specs.Changes.{change_fault}
use Rattle.fc_protocol.specs.Messages.{Stamp, Body, Claim, Sot, Mot, Eot, Trcomp, Abt, Floor, Malformed, Plain, Ask, Ask_record}
use Rattle.fc_protocol.specs.Scopes.{Scope}
use Rattle.fc_transactions.specs.Order.{asked_of}

-- ---- what can be said
-- a plain change of a life: none, or selects of which nothing tells that they are no change
abbrev pub IsChange : List Select → Type 0
IsChange [] = Unit {0}
IsChange (s ∷ ss) = change_fault (s ∷ ss) ≡ None

-- what a life with this plain change can say in a Config; a Query is none, and no life says what is malformed
abbrev pub CanSay : List Select → Body → Type 0
CanSay selects (Claim w) = IsWord w
CanSay selects (Sot x ps sc) = AreWords x × FitOpening ps sc
CanSay selects (Mot x i) = AreWords x
CanSay selects (Eot x) = AreWords x
CanSay selects (Trcomp x) = AreWords x
CanSay selects (Abt x) = AreWords x
CanSay selects (Floor f) = AreWords f
CanSay selects Malformed = ⊥
CanSay selects Plain = IsChange selects
CanSay selects Ask = Unit {0}
CanSay selects (Ask_record x) = Unit {0}

-- with which count: a claim with 0, and a plain change, which may have the shape of a claim, with another
abbrev pub CountsAs : ℕ → Body → Type 0
CountsAs count (Claim w) = count ≡ 0
CountsAs count (Sot x ps sc) = Unit {0}
CountsAs count (Mot x i) = Unit {0}
CountsAs count (Eot x) = Unit {0}
CountsAs count (Trcomp x) = Unit {0}
CountsAs count (Abt x) = Unit {0}
CountsAs count (Floor f) = Unit {0}
CountsAs count Malformed = Unit {0}
CountsAs count Plain = count ≢ 0
CountsAs count Ask = Unit {0}
CountsAs count (Ask_record x) = Unit {0}

-- ---- what is read
-- what is said, but for the number of a change, which is not read
abbrev pub as_read : Body → Body
as_read (Claim w) = Claim w
as_read (Sot x ps sc) = Sot x ps sc
as_read (Mot x i) = Mot x 0
as_read (Eot x) = Eot x
as_read (Trcomp x) = Trcomp x
as_read (Abt x) = Abt x
as_read (Floor f) = Floor f
as_read Malformed = Malformed
as_read Plain = Plain
as_read Ask = Ask
as_read (Ask_record x) = Ask_record x

-- the message is a Config, and what an element reads in it, with the count of this correlator, is what was said
pub record AsksFor (m : Message) (s : Stamp) (b : Body) : Type 0 where
  pub selects : List Select
  pub config : m.body ≡ Config selects
  pub reads : body_of s.count (asked_of m selects) ≡ as_read b

-- it comes from this control element, for this element, with this correlator, and wants all of it done or nothing
pub record IsSentBy (m : Message) (ce p corr : ℕ) : Type 0 where
  pub source : m.source ≡ ce
  pub dest : m.dest ≡ p
  pub correlator : m.corr ≡ corr
  pub mode : m.flags.em ≡ 1
