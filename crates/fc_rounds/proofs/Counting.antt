-- A life of a control element keeps one plan for each transaction that it has begun.
use Rattle.std.specs.Prelude.{⊤}
use Rattle.std.proofs.Common.{[], ◌≡◌, ℕ, zero, suc, ◌+◌, Bool, true, false, List, ◌∷◌, ◌++◌, length, length-append, map, slice_get, Option, Some, None, refl, sym, ap, ◌∙◌, subst, arith, if◌then◌else◌}
use Rattle.std.specs.List.{AllByRecursion}
use Rattle.fc_agreement.proofs.Numbers.{finish_alike, heard_alike, one_alike}
use Rattle.fc_base.specs.Ids.{Txn}
use Rattle.fc_documents.specs.Parts.{begun}
use Rattle.fc_documents.specs.declared.transaction.PlanTxn.{PlanTxn}
use Rattle.fc_jobs.specs.Answers.{answer_meaning}
use Rattle.fc_jobs.specs.Plans.{changes_in, participants_of, scopes_in}
use Rattle.fc_master.specs.Steps.{heard_of}
use Rattle.fc_msg.specs.declared.message.Message.{Message}
use Rattle.fc_msg.specs.declared.message.MsgBody.{MsgBody}
use Rattle.fc_msg.specs.declared.message.MsgBody.TheVariants as body
use Rattle.fc_path.specs.declared.oper.Select.{Select}
use Rattle.fc_plans.specs.declared.plan.Part.{Part}
use Rattle.fc_asks.specs.Codes.{response_code}
use Rattle.fc_protocol.specs.MasterMachine.{Master, Refusal, begins, forgets, gives_up}
use Rattle.fc_protocol.specs.Messages.{Plain, Reply, Setup, stamp}
use Rattle.fc_steps.specs.declared.step.Step.{Step}
use Rattle.fc_steps.specs.declared.step.Step.TheVariants as step
use Rattle.fc_world.specs.Lookups.{controller_in, element_in, ids_of, is_controller, life_of, parcel_in, plain_in, ruling_in, transaction_in, with_controller}
use Rattle.fc_world.specs.Worlds.{Ruling, Standing, WorldState, first_controller, first_world}
use Rattle.fc_world.specs.WorldSteps.{Called, Spoke, begins_by, begins_in, called_by, calls, changes_at, changes_by, delivers, forgets_in, gives_up_in, granted, happens, hears, resends_in, restarted_by, run, running_in, started, started_by, taken_by, with_ruling, with_running, with_spoke}
use Rattle.fc_world.specs.declared.sent.Parcel.{Parcel}
use Rattle.fc_world.specs.declared.sent.Parcel.TheVariants.{Upward, Downward}
use Rattle.fc_world.specs.declared.setting.Setting.{Setting}
use Rattle.fc_element.specs.ElementState.{ElementState}
use Rattle.fc_element.specs.declared.input.ElIn.{ElIn}
use Rattle.fc_element.specs.declared.input.ElIn.TheVariants as el_in

abbrev pub IsCounted : Ruling → Type 0
IsCounted r = length r.life.plans ≡ r.core.begun

abbrev SoCounted : Option Ruling → Type 0
SoCounted None = ⊤
SoCounted (Some r) = IsCounted r

abbrev OneCounted : Standing → Type 0
OneCounted c = SoCounted c.running

abbrev pub AreCounted : WorldState → Type 0
AreCounted w = AllByRecursion OneCounted w.controllers

-- ---- control elements
found_counted : (c : ℕ) (ss : List Standing) (s : Standing) → AllByRecursion OneCounted ss → controller_in c ss ≡ Some s → OneCounted s
found_counted c [] s all is = absurd cc
found_counted c (x ∷ ss) s all is = by (is_controller c x) is (λ e. found_counted c ss s all.1 e)
  where
    by : (b : Bool) → (if b then Some x else controller_in c ss) ≡ Some s → (controller_in c ss ≡ Some s → OneCounted s) → OneCounted s
    by true e more = let same : x ≡ s = cc in subst OneCounted same all.0
    by false e more = more e

with_counted : (c : ℕ) (new : Standing) (ss : List Standing) → OneCounted new → AllByRecursion OneCounted ss → AllByRecursion OneCounted (with_controller c new ss)
with_counted c new [] h all = tt
with_counted c new (x ∷ ss) h all = by (is_controller c x) (with_counted c new ss h all.1)
  where
    by : (b : Bool) → AllByRecursion OneCounted (with_controller c new ss) → AllByRecursion OneCounted (if b then new ∷ ss else x ∷ with_controller c new ss)
    by true more = (h, all.1)
    by false more = (all.0, more)

ruling_counted : (c : ℕ) (ss : List Standing) (r : Option Ruling) → SoCounted r → AllByRecursion OneCounted ss → AllByRecursion OneCounted (with_ruling c r ss)
ruling_counted c ss r h all = by (controller_in c ss)
  where
    by : (o : Option Standing) → AllByRecursion OneCounted (running_in o c r ss)
    by None = all
    by (Some s) = with_counted c (with_running r s) ss h all

pub counted_at : (c : ℕ) (w : WorldState) (r : Ruling) → AreCounted w → ruling_in c w.controllers ≡ Some r → IsCounted r
counted_at c w r all is = by (controller_in c w.controllers) refl is
  where
    by : (o : Option Standing) → controller_in c w.controllers ≡ o → life_of o ≡ Some r → IsCounted r
    by None at e = absurd cc
    by (Some s) at e = subst SoCounted e (found_counted c w.controllers s all at)

-- ---- calls
spoke_counted : (c : ℕ) (s : Spoke) (w : WorldState) → IsCounted s.ruling → AreCounted w → AreCounted (with_spoke c s w)
spoke_counted c s w h all = ruling_counted c w.controllers (Some s.ruling) h all

called_counted : (place c : ℕ) (o : Option Refusal) (s : Spoke) (w : WorldState) → IsCounted s.ruling → AreCounted w → AreCounted (called_by place c o s w)
called_counted place c None s w h all = spoke_counted c s w h all
called_counted place c (Some e) s w h all = all

calls_counted : (place c : ℕ) (f : Ruling → Called) (w : WorldState) → ((r : Ruling) → IsCounted r → IsCounted (f r).spoke.ruling) → AreCounted w → AreCounted (calls place c f (ruling_in c w.controllers) w)
calls_counted place c f w h all = by (ruling_in c w.controllers) refl
  where
    by : (o : Option Ruling) → ruling_in c w.controllers ≡ o → AreCounted (calls place c f o w)
    by None at = all
    by (Some r) at = called_counted place c (f r).refusal (f r).spoke w (h r (counted_at c w r all at)) all

-- ---- what a life makes of a message and of each call
heard_counted : (m : Master) (p corr : ℕ) (b : MsgBody) → (heard_of m p corr b).begun ≡ m.begun
heard_counted m p corr (body.Setup selects) = (heard_alike m p Setup).1
heard_counted m p corr (body.SetupResponse result) = refl
heard_counted m p corr (body.Teardown reason) = refl
heard_counted m p corr (body.Config selects) = refl
heard_counted m p corr (body.ConfigResponse selects) = (heard_alike m p (Reply (stamp corr) (response_code selects))).1
heard_counted m p corr (body.Query selects) = refl
heard_counted m p corr (body.QueryResponse selects) = (heard_alike m p (answer_meaning (m.at p).waits (stamp corr) selects)).1
heard_counted m p corr (body.Event selects) = refl
heard_counted m p corr body.Heartbeat = refl

hears_counted : (c f : ℕ) (m : Message) (r : Ruling) → IsCounted r → IsCounted (hears c f m r).ruling
hears_counted c f m r h = h ∙ sym ((finish_alike c (heard_of r.core f m.corr m.body)).1 ∙ heard_counted r.core f m.corr m.body)

one_more : (xs : List (List Part)) (x : List Part) → length (xs ++ x ∷ []) ≡ length xs + 1
one_more xs x = omega (arith, length-append xs (x ∷ []))

begins_counted : (c : ℕ) (parts : List Part) (r : Ruling) → IsCounted r → IsCounted (begins_in c parts r).spoke.ruling
begins_counted c parts r h =
    one_more r.life.plans parts ∙ ap (λ n. n + 1) h
    ∙ sym (finish_alike c (begins r.core (participants_of parts) (changes_in parts) (scopes_in parts))).1

changes_counted : (c f : ℕ) (change : List Select) (r : Ruling) → IsCounted r → IsCounted (changes_at c f change r).spoke.ruling
changes_counted c f change r h = h ∙ sym (one_alike c r.core f (Some Plain)).1

gives_up_counted : (c : ℕ) (x : Txn) (r : Ruling) → IsCounted r → IsCounted (gives_up_in c x r).spoke.ruling
gives_up_counted c x r h = h ∙ sym (finish_alike c (gives_up r.core x)).1

forgets_counted : (c : ℕ) (r : Ruling) → IsCounted r → IsCounted (forgets_in c r).spoke.ruling
forgets_counted c r h = h ∙ sym (finish_alike c (forgets r.core)).1

-- ---- one step
takes_counted : (o : Option ElementState) (f : ℕ) (i : ElIn) (w : WorldState) → AreCounted w → AreCounted (taken_by o f i w)
takes_counted None f i w all = all
takes_counted (Some e) f i w all = all

delivers_counted : (place : ℕ) (o : Option Parcel) (w : WorldState) → AreCounted w → AreCounted (delivers place o w)
delivers_counted place None w all = all
delivers_counted place (Some (Upward f c m)) w all = calls_counted place c (λ r. granted (hears c f m r)) w (λ r h. hears_counted c f m r h) all
delivers_counted place (Some (Downward c f m)) w all = takes_counted (element_in f w.nodes) f (el_in.Arrived c m) w all

starts_counted : (o : Option Standing) (c round : ℕ) (w : WorldState) → AreCounted w → AreCounted (started_by o c round w)
starts_counted None c round w all = all
starts_counted (Some s) c round w all = with_counted c (started (ids_of w.nodes) round s) w.controllers refl all

begin_counted : (place c : ℕ) (o : Option PlanTxn) (w : WorldState) → AreCounted w → AreCounted (begins_by place c o w)
begin_counted place c None w all = all
begin_counted place c (Some t) w all = calls_counted place c (begins_in c (begun t)) w (begins_counted c (begun t)) all

change_counted : (place c : ℕ) (o : Option (ℕ × List Select)) (w : WorldState) → AreCounted w → AreCounted (changes_by place c o w)
change_counted place c None w all = all
change_counted place c (Some p) w all = calls_counted place c (changes_at c p.0 p.1) w (changes_counted c p.0 p.1) all

restarts_counted : (o : Option ElementState) (f : ℕ) (w : WorldState) → AreCounted w → AreCounted (restarted_by o f w)
restarts_counted None f w all = all
restarts_counted (Some e) f w all = all

pub step_counted : (ts : List PlanTxn) (w : WorldState) (place : ℕ) (x : Step) → AreCounted w → AreCounted (happens ts w (place, x))
step_counted ts w place (step.Open f c) all = takes_counted (element_in f w.nodes) f (el_in.Opened c) w all
step_counted ts w place (step.Deliver i) all = delivers_counted place (parcel_in i w.sent) w all
step_counted ts w place (step.Moment f t) all = takes_counted (element_in f w.nodes) f (el_in.Moment t) w all
step_counted ts w place (step.Start c r) all = starts_counted (controller_in c w.controllers) c r w all
step_counted ts w place (step.Stop c) all = ruling_counted c w.controllers None tt all
step_counted ts w place (step.Begin c n) all = begin_counted place c (transaction_in n ts) w all
step_counted ts w place (step.Plain c n) all = change_counted place c (plain_in n ts) w all
step_counted ts w place (step.GiveUp c x) all = calls_counted place c (gives_up_in c x) w (gives_up_counted c x) all
step_counted ts w place (step.Resend c f) all = calls_counted place c (λ r. granted (resends_in c f r)) w (λ r h. h) all
step_counted ts w place (step.Forget c) all = calls_counted place c (forgets_in c) w (forgets_counted c) all
step_counted ts w place (step.Restart f) all = restarts_counted (element_in f w.nodes) f w all

-- ---- all steps
first_counted : (ks : List ℕ) → AllByRecursion OneCounted (map first_controller ks)
first_counted [] = tt
first_counted (k ∷ ks) = (tt, first_counted ks)

run_counted : (ts : List PlanTxn) (xs : List (ℕ × Step)) (w : WorldState) → AreCounted w → AreCounted (run ts w xs)
run_counted ts [] w all = all
run_counted ts (x ∷ xs) w all = run_counted ts xs (happens ts w x) (step_counted ts w x.0 x.1 all)

pub all_counted : (s : Setting) (done : List (ℕ × Step)) → AreCounted (run s.transactions (first_world s) done)
all_counted s done = run_counted s.transactions done (first_world s) (first_counted s.controllers)

-- ---- the plan of the next transaction is the last one then
pub next_plan : (xs : List (List Part)) (x : List Part) (n : ℕ) → length xs ≡ n → slice_get (xs ++ x ∷ []) n ≡ Some x
next_plan [] x zero e = refl
next_plan [] x (suc n) e = absurd (omega arith)
next_plan (y ∷ xs) x zero e = absurd (omega arith)
next_plan (y ∷ xs) x (suc n) e = next_plan xs x n (omega arith)
