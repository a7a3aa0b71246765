-- Whatever a master that speaks clearly takes or is asked to do, it speaks clearly then.
use Rattle.std.proofs.Common.{◌≡◌, ℕ, ◌<◌, ◌≤◌, ◌==◌, ◌&&◌, Bool, true, false, nat_le, if◌then◌else◌, List, [], ◌∷◌, map, length, Option, Some, None, refl, ap, ◌∙◌, arith}
use Rattle.std.specs.List.{AllByRecursion, list_all}
use Rattle.fc_base.specs.Ids.{Txn}
use Rattle.fc_path.specs.declared.oper.Select.{Select}
use Rattle.fc_msg.specs.declared.message.Message.{Message as Wire}
use Rattle.fc_msg.specs.declared.message.MsgBody.{MsgBody}
use Rattle.fc_msg.specs.declared.message.MsgBody.TheVariants as wire
use Rattle.fc_protocol.specs.Collections.{among, or_next}
use Rattle.fc_protocol.specs.Messages.{Message, Setup, Beat, Request, Reply, Holds, Tells, Unread, Other_up, Other_down, Sent, Body as Asked, Claim, Sot, Mot, Eot, Trcomp, Abt, Floor, Malformed, Plain, Ask, Ask_record, correlator, stamp}
use Rattle.fc_protocol.specs.MasterMachine.{Master, Speaks, again, begin_refusal, begins, finish, forgets, gives_up, new_master, sends_one, Waiting}
use Rattle.fc_protocol.specs.Scopes.{Scope}
use Rattle.fc_plans.specs.Plans.{has_scope, order_fault, plan_fault, scope_fault}
use Rattle.fc_plans.specs.declared.fault.PlanFault.{PlanFault}
use Rattle.fc_plans.specs.declared.fault.PlanFault.TheVariants as fault
use Rattle.fc_plans.specs.declared.plan.Part.{Part}
use Rattle.fc_asks.specs.Codes.{response_code}
use Rattle.fc_asks.specs.Tables.{found, placed}
use Rattle.fc_asks.specs.declared.life.Life.{Life}
use Rattle.fc_jobs.specs.Answers.{answer_meaning}
use Rattle.fc_jobs.specs.Plans.{changes_in, participants_of, scoped, scopes_in}
use Rattle.fc_jobs.specs.Scopes.{scope_of}
use Rattle.fc_jobs.specs.Sending.{out, spelled, spelled_to}
use Rattle.fc_jobs.specs.declared.sending.CeOut.{CeOut}
use Rattle.fc_master.specs.Steps.{at_once_to, greeting, heard_of, heartbeat_answer, quiet, said, setup_response, stepped}
use Rattle.fc_master.specs.declared.input.CeIn.{CeIn}
use Rattle.fc_master.specs.declared.input.CeIn.TheVariants as input
use Rattle.fc_wellformed.specs.Saying.{MaySay, MaySend, MaySpeak, MayTell, MayWait, SpeaksWell}
use Rattle.fc_wellformed.specs.WellFormed.{AreWellFormed, HasChanges, HasPlain, IsChange, IsWellFormed, KeepsChanges, SpeaksClearly, with_plain, with_plan}
use Rattle.fc_wellformed.proofs.Clear.{request_good}
use Rattle.fc_wellformed.proofs.Keeping.{again_may, all_append, begins_few, begins_may, either, finish_well, forgets_may, gives_up_may, heard_may, new_may, one_well}
use Rattle.fc_wellformed.proofs.Sizes.{heartbeat_fits, setup_response_fits}

abbrev Good : CeOut → Type 0
Good o = IsWellFormed o.message

-- ---- what is said is spelled so

told_good : (life : Life) (p : ℕ) (msg : Message) → KeepsChanges life → MayTell (HasPlain life) p msg → AreWellFormed (spelled_to life p msg)
told_good life p Setup keeps may = tt
told_good life p Beat keeps may = tt
told_good life p (Request s b) keeps may = (request_good life p (correlator s) b keeps may, tt)
told_good life p (Reply s code) keeps may = tt
told_good life p (Holds s e ns) keeps may = tt
told_good life p (Tells s x e t) keeps may = tt
told_good life p (Unread s e) keeps may = tt
told_good life p Other_up keeps may = tt
told_good life p Other_down keeps may = tt

pub spelled_good : (life : Life) (ss : List Sent) → KeepsChanges life → AllByRecursion (MaySend (HasPlain life)) ss → AreWellFormed (spelled life ss)
spelled_good life [] keeps may = tt
spelled_good life (s ∷ ss) keeps may = all_append Good (spelled_to life s.element s.message) (spelled life ss) (told_good life s.element s.message keeps may.0) (spelled_good life ss keeps may.1)

-- ---- a response of a master to an element, and to its heartbeat

response_good : (life : Life) (p corr result : ℕ) → result < 2 → Good (setup_response life p corr result)
response_good life p corr result small =
    record { flags = (omega arith, omega arith, omega arith, omega arith); body = omega (arith, small); fits = setup_response_fits (setup_response life p corr result).message result refl }

beat_good : (p : ℕ) (msg : Wire) → AreWellFormed (heartbeat_answer p msg)
beat_good p msg =
    let answer : Wire = record { source = msg.dest; dest = msg.source; corr = msg.corr; flags = quiet; body = wire.Heartbeat } in
    let good : IsWellFormed answer = record { flags = (omega arith, omega arith, omega arith, omega arith); body = tt; fits = heartbeat_fits answer refl } in
    either AreWellFormed (msg.flags.ack == 3) (out p answer ∷ []) [] (good, tt) tt

-- ---- inputs

heard_of_may : (HasPlain : ℕ → Type 0) (m : Master) (p corr : ℕ) (b : MsgBody) → MaySpeak HasPlain m → MaySpeak HasPlain (heard_of m p corr b)
heard_of_may P m p corr (wire.Setup selects) may = heard_may P m p Setup may
heard_of_may P m p corr (wire.SetupResponse result) may = may
heard_of_may P m p corr (wire.Teardown reason) may = may
heard_of_may P m p corr (wire.Config selects) may = may
heard_of_may P m p corr (wire.ConfigResponse selects) may = heard_may P m p (Reply (stamp corr) (response_code selects)) may
heard_of_may P m p corr (wire.Query selects) may = may
heard_of_may P m p corr (wire.QueryResponse selects) may = heard_may P m p (answer_meaning (m.at p).waits (stamp corr) selects) may
heard_of_may P m p corr (wire.Event selects) may = may
heard_of_may P m p corr wire.Heartbeat may = may

again_good : (life : Life) (m : Master) (k p : ℕ) → SpeaksClearly life m → AreWellFormed (spelled life (again k p (m.at p).waits))
again_good life m k p clear = spelled_good life (again k p (m.at p).waits) clear.0 (again_may (HasPlain life) k p (m.at p).waits (clear.1.waits p))

greeting_good : (life : Life) (m : Master) (p corr : ℕ) → SpeaksClearly life m → AreWellFormed (greeting life m p corr)
greeting_good life m p corr clear =
    either AreWellFormed (among p m.elements) (setup_response life p corr 0 ∷ spelled life (again 0 p (m.at p).waits)) (setup_response life p corr 1 ∷ [])
    (response_good life p corr 0 (omega arith), again_good life m 0 p clear) (response_good life p corr 1 (omega arith), tt)

at_once_good : (life : Life) (m : Master) (p : ℕ) (msg : Wire) (b : MsgBody) → SpeaksClearly life m → AreWellFormed (at_once_to life m p msg b)
at_once_good life m p msg (wire.Setup selects) clear = greeting_good life m p msg.corr clear
at_once_good life m p msg (wire.SetupResponse result) clear = tt
at_once_good life m p msg (wire.Teardown reason) clear = tt
at_once_good life m p msg (wire.Config selects) clear = tt
at_once_good life m p msg (wire.ConfigResponse selects) clear = tt
at_once_good life m p msg (wire.Query selects) clear = tt
at_once_good life m p msg (wire.QueryResponse selects) clear = tt
at_once_good life m p msg (wire.Event selects) clear = tt
at_once_good life m p msg wire.Heartbeat clear = beat_good p msg

-- a life and its master then, with what it says
abbrev pub StaysClear : Life → Speaks → Type 0
StaysClear life s = SpeaksClearly life s.master × AreWellFormed (spelled life s.says)

well_stays : (life : Life) (s : Speaks) → KeepsChanges life → SpeaksWell (HasPlain life) s → StaysClear life s
well_stays life s keeps well = ((keeps, well.master), spelled_good life s.says keeps well.says)

finish_stays : (life : Life) (k : ℕ) (m : Master) → SpeaksClearly life m → StaysClear life (finish k m)
finish_stays life k m clear = well_stays life (finish k m) clear.0 (finish_well (HasPlain life) k m clear.1)

pub first_clear : (life : Life) (e : ℕ) (es : List ℕ) → KeepsChanges life → SpeaksClearly life (new_master e es)
first_clear life e es keeps = (keeps, new_may (HasPlain life) e es)

pub step_clear : (life : Life) (k : ℕ) (m : Master) (i : CeIn) → SpeaksClearly life m → SpeaksClearly life (stepped k m i).master × AreWellFormed (said life k m i)
step_clear life k m (input.Arrived p msg) clear =
    let stays = finish_stays life k (heard_of m p msg.corr msg.body) (clear.0, heard_of_may (HasPlain life) m p msg.corr msg.body clear.1) in
    (stays.0, all_append Good (at_once_to life m p msg msg.body) (spelled life (finish k (heard_of m p msg.corr msg.body)).says) (at_once_good life m p msg msg.body clear) stays.1)
step_clear life k m (input.Moment t) clear = finish_stays life k m clear

pub resend_clear : (life : Life) (k : ℕ) (m : Master) (p : ℕ) → SpeaksClearly life m → AreWellFormed (spelled life (again k p (m.at p).waits))
resend_clear life k m p clear = again_good life m k p clear

-- ---- a transaction that begins

order_none : (o next : Option PlanFault) → or_next o next ≡ None → next ≡ None
order_none None next e = e
order_none (Some f) next e = cc

scopes_hold : (b : Bool) → (if b then None else Some fault.Changes) ≡ None → b ≡ true
scopes_hold true e = refl
scopes_hold false e = cc

small_of : (m n : ℕ) → nat_le m n ≡ true → m ≤ n
small_of m n h = grind arith

and_left : (a b : Bool) → (a && b) ≡ true → a ≡ true
and_left true b h = refl
and_left false b h = cc

and_right : (a b : Bool) → (a && b) ≡ true → b ≡ true
and_right true b h = h
and_right false b h = cc

scope_small : (p : ℕ) (parts : List Part) → list_all has_scope parts ≡ true → length (scope_of p (map scoped parts)) ≤ 4096
scope_small p [] h = omega arith
scope_small p (part ∷ parts) h =
    either (λ (sc : Scope). length sc ≤ 4096) (p == part.element) part.scope (scope_of p (map scoped parts)) (small_of (length part.scope) 4096 (and_left (has_scope part) (list_all has_scope parts) h)) (scope_small p parts (and_right (has_scope part) (list_all has_scope parts) h))

plan_small : (parts : List Part) → plan_fault parts ≡ None → (p : ℕ) → length (scopes_in parts p) ≤ 4096
plan_small parts e p = scope_small p parts (scopes_hold (list_all has_scope parts) (order_none (order_fault parts) (scope_fault parts) e))

same_plain : (life : Life) (parts : List Part) (m : Master) → MaySpeak (HasPlain life) m → MaySpeak (HasPlain (with_plan life parts)) m
same_plain life parts m may = may

pub begin_clear : (life : Life) (k : ℕ) (m : Master) (parts : List Part) → AllByRecursion HasChanges parts → plan_fault parts ≡ None
    → begin_refusal m (participants_of parts) (changes_in parts) (scopes_in parts) ≡ None → SpeaksClearly life m
    → SpeaksClearly (with_plan life parts) (finish k (begins m (participants_of parts) (changes_in parts) (scopes_in parts))).master
    × AreWellFormed (spelled life (finish k (begins m (participants_of parts) (changes_in parts) (scopes_in parts))).says)
begin_clear life k m parts all is e clear =
    let ps = participants_of parts in
    let begun = begins_may (HasPlain life) m ps (changes_in parts) (scopes_in parts) (begins_few m ps (changes_in parts) (scopes_in parts) e) (plan_small parts is) clear.1 in
    let stays = finish_stays life k (begins m ps (changes_in parts) (scopes_in parts)) (clear.0, begun) in
    let keeps : KeepsChanges (with_plan life parts) = record { plans = all_append (λ (parts : List Part). AllByRecursion HasChanges parts) life.plans (parts ∷ []) clear.0.plans (all, tt); plains = clear.0.plains } in
    ((keeps, same_plain life parts _ stays.0.1), stays.1)

-- ---- a plain change

placed_all : (P : List Select → Type 0) (p : ℕ) (v : List Select) (es : List (ℕ × List Select)) → P v → AllByRecursion (λ (e : ℕ × List Select). P e.1) es → AllByRecursion (λ (e : ℕ × List Select). P e.1) (placed p v es)
placed_all P p v [] h all = (h, tt)
placed_all P p v (e ∷ es) h all =
    either (λ (l : List (ℕ × List Select)). AllByRecursion (λ (e : ℕ × List Select). P e.1) l) (p == e.0) ((p, v) ∷ es) (e ∷ placed p v es) (h, all.1) (all.0, placed_all P p v es h all.1)

self_equal : (p : ℕ) → (p == p) ≡ true
self_equal p = grind arith

there_step : (p : ℕ) (v : List Select) (e : ℕ × List Select) (es : List (ℕ × List Select)) (b : Bool) → (p == e.0) ≡ b → found p (placed p v es) ≡ Some v
    → found p (if b then (p, v) ∷ es else e ∷ placed p v es) ≡ Some v
there_step p v e es true is later = ap (λ b. if b then Some v else found p es) (self_equal p)
there_step p v e es false is later = ap (λ b. if b then Some e.1 else found p (placed p v es)) is ∙ later

found_there : (p : ℕ) (v : List Select) (es : List (ℕ × List Select)) → found p (placed p v es) ≡ Some v
found_there p v [] = ap (λ b. if b then Some v else None) (self_equal p)
found_there p v (e ∷ es) = there_step p v e es (p == e.0) refl (found_there p v es)

abbrev IsThere : ℕ → List (ℕ × List Select) → Type 0
IsThere q es = (y : List Select) × (found q es ≡ Some y)

other_step : (p q : ℕ) (v : List Select) (f : ℕ × List Select) (es : List (ℕ × List Select)) (x : List Select) (here same at : Bool) → (p == f.0) ≡ here → (q == p) ≡ same → (q == f.0) ≡ at
    → (found q es ≡ Some x → IsThere q (placed p v es)) → (if at then Some f.1 else found q es) ≡ Some x → IsThere q (if here then (p, v) ∷ es else f ∷ placed p v es)
other_step p q v f es x true true at is k l more h = (v, ap (λ b. if b then Some v else found q es) k)
other_step p q v f es x true false true is k l more h = absurd (met p q f.0 is k l)
  where
    met : (p q r : ℕ) → (p == r) ≡ true → (q == p) ≡ false → (q == r) ≡ true → ⊥
    met p q r is k l = grind arith
other_step p q v f es x true false false is k l more h = (x, ap (λ b. if b then Some v else found q es) k ∙ h)
other_step p q v f es x false same true is k l more h = (f.1, ap (λ b. if b then Some f.1 else found q (placed p v es)) l)
other_step p q v f es x false same false is k l more h = let (y, there) = more h in (y, ap (λ b. if b then Some f.1 else found q (placed p v es)) l ∙ there)

found_other : (p q : ℕ) (v : List Select) (es : List (ℕ × List Select)) (x : List Select) → found q es ≡ Some x → IsThere q (placed p v es)
found_other p q v [] x e = cc
found_other p q v (f ∷ es) x e = other_step p q v f es x (p == f.0) (q == p) (q == f.0) refl refl refl (λ h. found_other p q v es x h) e

still_waits : (life : Life) (p q : ℕ) (v : List Select) → HasPlain life q → HasPlain (with_plain life p v) q
still_waits life p q v (x, is) = found_other p q v life.plains x is

-- what may be said where fewer plain changes are, may be said where more are
more_may : (P Q : ℕ → Type 0) → ((q : ℕ) → P q → Q q) → (p : ℕ) (b : Asked) → MaySay P p b → MaySay Q p b
more_may P Q more p (Claim w) h = h
more_may P Q more p (Sot x ps sc) h = h
more_may P Q more p (Mot x i) h = h
more_may P Q more p (Eot x) h = h
more_may P Q more p (Trcomp x) h = h
more_may P Q more p (Abt x) h = h
more_may P Q more p (Floor f) h = h
more_may P Q more p Malformed h = h
more_may P Q more p Plain h = more p h
more_may P Q more p Ask h = h
more_may P Q more p (Ask_record x) h = h

more_said : (P Q : ℕ → Type 0) → ((q : ℕ) → P q → Q q) → (p : ℕ) (o : Option Waiting) → MayWait P p o → MayWait Q p o
more_said P Q more p None h = h
more_said P Q more p (Some o) h = more_may P Q more p o.body h

more_speaks : (P Q : ℕ → Type 0) → ((q : ℕ) → P q → Q q) → (m : Master) → MaySpeak P m → MaySpeak Q m
more_speaks P Q more m may = record { jobs = may.jobs; waits = λ p. more_said P Q more p (m.at p).waits (may.waits p) }

pub plain_clear : (life : Life) (k : ℕ) (m : Master) (p : ℕ) (selects : List Select) → IsChange selects → SpeaksClearly life m → StaysClear (with_plain life p selects) (sends_one k m p (Some Plain))
plain_clear life k m p selects change clear =
    let other = with_plain life p selects in
    let keeps : KeepsChanges other = record { plans = clear.0.plans; plains = placed_all IsChange p selects life.plains change clear.0.plains } in
    well_stays other (sends_one k m p (Some Plain)) keeps (one_well (HasPlain other) k m p (Some Plain) (selects, found_there p selects life.plains) (more_speaks (HasPlain life) (HasPlain other) (λ q h. still_waits life p q selects h) m clear.1))

-- ---- the other calls

pub give_up_clear : (life : Life) (k : ℕ) (m : Master) (x : Txn) → SpeaksClearly life m → StaysClear life (finish k (gives_up m x))
give_up_clear life k m x clear = finish_stays life k (gives_up m x) (clear.0, gives_up_may (HasPlain life) m x clear.1)

pub forget_clear : (life : Life) (k : ℕ) (m : Master) → SpeaksClearly life m → StaysClear life (finish k (forgets m))
forget_clear life k m clear = finish_stays life k (forgets m) (clear.0, forgets_may (HasPlain life) m clear.1)
