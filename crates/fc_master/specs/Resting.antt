-- The jobs of a life that rest: what was done of them stays, and nothing more is sent for them. This profile's own.
use Rattle.std.specs.Prelude.{◌≡◌, ℕ, ◌==◌, ◌&&◌, Bool, true, not, nat_lt, is_some, List, ◌++◌, take, Option, Some, None}
use Rattle.std.specs.List.{list_all}
use Rattle.fc_base.specs.Ids.{Txn}
use Rattle.fc_protocol.specs.Jobs.{Job as Work, by_code, is_settled}
use Rattle.fc_protocol.specs.Messages.{Body, Claim, Sot, Mot, Eot, Trcomp, Abt, Floor, Malformed, Plain, Ask, Ask_record}
use Rattle.fc_jobs.specs.JobViews.{jobs_of}
use Rattle.fc_jobs.specs.declared.job.Job.{Job}

-- it is decided, and done at every participant
abbrev pub is_done : Work → Bool
is_done j = is_some j.decision && is_settled j

-- it is no transaction of the epoch e with a number above n
abbrev pub is_early : ℕ → ℕ → Work → Bool
is_early e n j = not (j.txn.epoch == e && nat_lt n j.txn.number)

abbrev pub rests : ℕ → ℕ → Work → Bool
rests e n j = is_done j && is_early e n j

-- the first n jobs are done
abbrev pub DoneTo : ℕ → List Job → Type 0
DoneTo n js = list_all is_done (jobs_of (take n js)) ≡ true

-- the transaction whose jobs a response to this changes
abbrev pub named : Body → Option Txn
named (Claim w) = None
named (Sot x ps sc) = Some x
named (Mot x i) = Some x
named (Eot x) = Some x
named (Trcomp x) = Some x
named (Abt x) = Some x
named (Floor f) = None
named Malformed = None
named Plain = None
named Ask = None
named (Ask_record x) = None

-- it is no transaction, or one of the epoch e with a number above n
abbrev pub is_beyond : ℕ → ℕ → Option Txn → Bool
is_beyond e n None = true
is_beyond e n (Some x) = x.epoch == e && nat_lt n x.number

-- a response to this changes none of these jobs, whatever jobs stand behind them
abbrev pub LeavesAlone : List Work → Body → Type 0
LeavesAlone rested b = (e p : ℕ) (good : Bool) (js : List Work) → by_code e p b good (rested ++ js) ≡ rested ++ by_code e p b good js

-- the jobs with these in place of all behind the first n
abbrev pub with_tail : ℕ → List Job → List Job → List Job
with_tail n js tail = take n js ++ tail
