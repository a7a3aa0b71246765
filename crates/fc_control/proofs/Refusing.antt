-- What a call of the master makes of a control element.
use Rattle.std.proofs.Common.{◌≡◌, ◌++◌, ℕ, Bool, true, false, is_none, is_some, List, [], ◌∷◌, refl, sym, subst, ap, ◌∙◌, Option, Some, None, Result, Ok, Err}
use Rattle.std.specs.Prelude.{IfSome, OnOk}
use Rattle.fc_hub.specs.Hubs.{Held}
use Rattle.fc_hub.specs.declared.event.Act.{Act}
use Rattle.fc_peers.specs.Acting.{ActsUntil}
use Rattle.fc_peers.specs.declared.acting.NodeStop.{NodeStop}
use Rattle.fc_control.specs.Beginning.{Stops}
use Rattle.fc_asks.specs.declared.life.Life.{Life}
use Rattle.fc_plans.specs.declared.plan.Part.{Part}
use Rattle.fc_protocol.specs.MasterMachine.{Master as Core, Refusal, Speaks}
use Rattle.fc_control.specs.ControlNode.{ControlState, Turn, forgets_by, gives_up_by, turn}

-- the control element with another master of the same life
abbrev pub with_core : ControlState → Core → ControlState
with_core n core = record n { core = core }

-- a refusal that was told
told_so : {A : Type 0} (o r : Option A) → IfSome o (λ x. r ≡ Some x) → is_none o ≡ false → is_some r ≡ true
told_so None r is told = absurd (cc told)
told_so (Some x) r is told = ap is_some is

refused_gives : (r : Option Refusal) (n : ControlState) (s : Speaks) → is_some r ≡ true → gives_up_by r n s ≡ turn n []
refused_gives None n s is = absurd (cc is)
refused_gives (Some r) n s is = refl

refused_forgets : (r : Option Refusal) (n : ControlState) (s : Speaks) → is_some r ≡ true → forgets_by r n s ≡ turn n []
refused_forgets None n s is = absurd (cc is)
refused_forgets (Some r) n s is = refl

-- the master has refused to give up
pub not_given_up : (o r : Option Refusal) (n : ControlState) (s : Speaks) → IfSome o (λ x. r ≡ Some x) → is_none o ≡ false → gives_up_by r n s ≡ turn n []
not_given_up o r n s is told = refused_gives r n s (told_so o r is told)

-- and to tell the elements to forget
pub not_forgotten : (o r : Option Refusal) (n : ControlState) (s : Speaks) → IfSome o (λ x. r ≡ Some x) → is_none o ≡ false → forgets_by r n s ≡ turn n []
not_forgotten o r n s is told = refused_forgets r n s (told_so o r is told)

pub given_up : (r : Option Refusal) (n : ControlState) (s : Speaks) → r ≡ None → gives_up_by r n s ≡ gives_up_by None n s
given_up r n s is = ap (λ r. gives_up_by r n s) is

pub forgotten : (r : Option Refusal) (n : ControlState) (s : Speaks) → r ≡ None → forgets_by r n s ≡ forgets_by None n s
forgotten r n s is = ap (λ r. forgets_by r n s) is

none_of : (r : Option Refusal) → is_some r ≡ true → false ≡ is_none r
none_of None is = absurd (cc is)
none_of (Some r) is = refl

-- a beginning was refused
pub begun_not : (o r : Option Refusal) → IfSome o (λ x. r ≡ Some x) → is_none o ≡ false → false ≡ is_none r
begun_not o r is told = none_of r (told_so o r is told)

pub always : {T E P : Type 0} (r : Result T E) → P → OnOk r P
always (Ok x) p = p
always (Err e) p = tt

-- another life and master, that are these
pub took : (n : ControlState) (life : Life) (core now : Core) → life ≡ n.life → core ≡ now → record n { life = life; core = core } ≡ record n { core = now }
took n life core now same is = ap (λ l. record n { life = l; core = core }) same ∙ ap (λ c. record n { core = c }) is

pub forgot_now : (n : ControlState) (life : Life) (core now : Core) → life ≡ n.life → core ≡ now → record n { life = life; core = core; forgot = true } ≡ record n { core = now; forgot = true }
forgot_now n life core now same is = ap (λ l. record n { life = l; core = core; forgot = true }) same ∙ ap (λ c. record n { core = c; forgot = true }) is

-- what was to be done where it was not refused
pub stops_free : (r : Option Refusal) (stop : NodeStop) (a b : Option Held) (acts : List Act) → r ≡ None → ActsUntil stop a b acts → Stops stop a b r acts
stops_free r stop a b acts is until = subst (λ r. Stops stop a b r acts) (sym is) until
