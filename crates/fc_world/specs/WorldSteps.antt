-- What happens in a network element step by step: a connection is opened, a message arrives, time passes, a control element starts, stops or is
-- asked to do something, an element starts again. Which message arrives, and when, and how often, is the network's to choose; one that no step
-- names is lost. This profile's own.
use Rattle.std.specs.Prelude.{ℕ, ◌==◌, ◌&&◌, ◌||◌, not, nat_lt, Bool, true, false, List, [], ◌∷◌, ◌++◌, length, Option, Some, None, is_some}
use Rattle.fc_base.specs.Ids.{Txn}
use Rattle.fc_asks.specs.Tables.{placed}
use Rattle.fc_asks.specs.declared.life.Life.{Life}
use Rattle.fc_documents.specs.Parts.{begun}
use Rattle.fc_documents.specs.declared.transaction.PlanTxn.{PlanTxn}
use Rattle.fc_element.specs.ElementMachine as element
use Rattle.fc_element.specs.ElementState.{ElementState, restarted}
use Rattle.fc_element.specs.declared.input.ElIn.{ElIn}
use Rattle.fc_element.specs.declared.input.ElIn.TheVariants as el_in
use Rattle.fc_exec.specs.declared.operations.Operation.{Operation}
use Rattle.fc_jobs.specs.Plans.{changes_in, participants_of, scopes_in}
use Rattle.fc_jobs.specs.Sending.{spelled}
use Rattle.fc_jobs.specs.declared.sending.CeOut.{CeOut}
use Rattle.fc_machine.specs.Trace.{Fact}
use Rattle.fc_master.specs.Steps.{said, stepped}
use Rattle.fc_master.specs.declared.input.CeIn.TheVariants as ce_in
use Rattle.fc_msg.specs.declared.message.Message.{Message}
use Rattle.fc_path.specs.declared.oper.Select.{Select}
use Rattle.fc_plans.specs.declared.plan.Part.{Part}
use Rattle.fc_protocol.specs.Collections.{among}
use Rattle.fc_protocol.specs.MasterMachine.{Refusal, Speaks, again, begin_refusal, begins, finish, forget_refusal, forgets, give_up_refusal, gives_up, new_master, plain_refusal, sends_one}
use Rattle.fc_protocol.specs.Messages.{Plain}
use Rattle.fc_steps.specs.declared.step.Step.{Step}
use Rattle.fc_steps.specs.declared.step.Step.TheVariants as step
use Rattle.fc_world.specs.Lookups.{controller_in, element_in, has_controller, has_element, ids_of, is_running, parcel_in, plain_in, ruling_in, transaction_in, with_controller, with_element}
use Rattle.fc_world.specs.Worlds.{Ruling, Standing, WorldState, downward, epoch_of, first_life, upward}
use Rattle.fc_world.specs.declared.sent.Parcel.{Parcel}
use Rattle.fc_world.specs.declared.sent.Parcel.TheVariants.{Upward, Downward}
use Rattle.fc_world.specs.declared.faults.WorldFault.{WorldFault}
use Rattle.fc_world.specs.declared.faults.WorldFault.TheVariants as fault

-- ---- elements
-- the element of this ID is as this turn leaves it, and what it sends is sent
abbrev pub with_turn : ℕ → element.Turn → WorldState → WorldState
with_turn f t w = record w { nodes = with_element f t.state w.nodes; sent = w.sent ++ upward f t.outs }

-- an input of an element, if it is there
abbrev pub taken_by : Option ElementState → ℕ → ElIn → WorldState → WorldState
taken_by None f i w = w
taken_by (Some e) f i w = with_turn f (element.step e i) w

abbrev pub takes : ℕ → ElIn → WorldState → WorldState
takes f i w = taken_by (element_in f w.nodes) f i w

-- an element that starts again
abbrev pub restarted_by : Option ElementState → ℕ → WorldState → WorldState
restarted_by None f w = w
restarted_by (Some e) f w = record w { nodes = with_element f (restarted e) w.nodes }

abbrev pub restarts : ℕ → WorldState → WorldState
restarts f w = restarted_by (element_in f w.nodes) f w

-- ---- lives of control elements
-- a life after a call, and what it sends
pub record Spoke : Type 0 where
  pub ruling : Ruling
  pub outs : List CeOut

-- a call that may be refused
pub record Called : Type 0 where
  pub refusal : Option Refusal
  pub spoke : Spoke

abbrev pub ruling : Life → Speaks → Ruling
ruling life s = record { life = life; core = s.master }

-- the life is then this one, and what the master says it sends as that life
abbrev pub speaks_as : Life → Life → Speaks → Spoke
speaks_as now by s = record { ruling = ruling now s; outs = spelled by s.says }

abbrev pub speaks : Life → Speaks → Spoke
speaks life s = speaks_as life life s

-- the life of the control element of number c hears a message of an element
abbrev pub hears : ℕ → ℕ → Message → Ruling → Spoke
hears c f m r = record { ruling = ruling r.life (stepped c r.core (ce_in.Arrived f m)); outs = said r.life c r.core (ce_in.Arrived f m) }

-- a call that is not refused
abbrev pub granted : Spoke → Called
granted s = record { refusal = None; spoke = s }

abbrev pub with_plan : Life → List Part → Life
with_plan life parts = record life { plans = life.plans ++ parts ∷ [] }

abbrev pub with_plain : Life → ℕ → List Select → Life
with_plain life f change = record life { plains = placed f change life.plains }

-- it is asked to begin a transaction
abbrev pub begins_in : ℕ → List Part → Ruling → Called
begins_in c parts r = record {
  refusal = begin_refusal r.core (participants_of parts) (changes_in parts) (scopes_in parts);
  spoke = speaks_as (with_plan r.life parts) r.life (finish c (begins r.core (participants_of parts) (changes_in parts) (scopes_in parts)));
}

-- to send an element a change outside of any transaction
abbrev pub changes_at : ℕ → ℕ → List Select → Ruling → Called
changes_at c f change r = record {
  refusal = plain_refusal r.core f;
  spoke = speaks (with_plain r.life f change) (sends_one c r.core f (Some Plain));
}

-- to give a transaction up
abbrev pub gives_up_in : ℕ → Txn → Ruling → Called
gives_up_in c x r = record { refusal = give_up_refusal r.core x; spoke = speaks r.life (finish c (gives_up r.core x)) }

-- to let its elements forget what is settled
abbrev pub forgets_in : ℕ → Ruling → Called
forgets_in c r = record { refusal = forget_refusal r.core; spoke = speaks r.life (finish c (forgets r.core)) }

-- to send an element once more what waits there
abbrev pub resends_in : ℕ → ℕ → Ruling → Spoke
resends_in c f r = record { ruling = r; outs = spelled r.life (again c f (r.core.at f).waits) }

-- ---- control elements
-- a control element runs this life, or none
abbrev pub with_running : Option Ruling → Standing → Standing
with_running r s = record { ce = s.ce; used = s.used; running = r }

abbrev pub running_in : Option Standing → ℕ → Option Ruling → List Standing → List Standing
running_in None c r ss = ss
running_in (Some s) c r ss = with_controller c (with_running r s) ss

abbrev pub with_ruling : ℕ → Option Ruling → List Standing → List Standing
with_ruling c r ss = running_in (controller_in c ss) c r ss

-- a life has spoken
abbrev pub with_spoke : ℕ → Spoke → WorldState → WorldState
with_spoke c s w = record w { controllers = with_ruling c (Some s.ruling) w.controllers; sent = w.sent ++ downward c s.outs }

abbrev pub stopped : ℕ → WorldState → WorldState
stopped c w = record w { controllers = with_ruling c None w.controllers }

-- a call that is refused changes nothing, and is kept with the place of its step
abbrev pub called_by : ℕ → ℕ → Option Refusal → Spoke → WorldState → WorldState
called_by place c (Some r) s w = record w { refused = w.refused ++ (place, r) ∷ [] }
called_by place c None s w = with_spoke c s w

-- a call of a control element, if it runs; what comes to one that stands still is lost
abbrev pub calls : ℕ → ℕ → (Ruling → Called) → Option Ruling → WorldState → WorldState
calls place c f None w = w
calls place c f (Some r) w = called_by place c (f r).refusal (f r).spoke w

-- a life that begins over all elements in their order
abbrev pub started : List ℕ → ℕ → Standing → Standing
started ids round s = record {
  ce = s.ce;
  used = s.used ++ round ∷ [];
  running = Some (record { life = first_life s.ce (epoch_of round s.ce); core = new_master (epoch_of round s.ce) ids });
}

abbrev pub started_by : Option Standing → ℕ → ℕ → WorldState → WorldState
started_by None c round w = w
started_by (Some s) c round w = record w { controllers = with_controller c (started (ids_of w.nodes) round s) w.controllers }

-- ---- messages
abbrev pub delivers : ℕ → Option Parcel → WorldState → WorldState
delivers place None w = w
delivers place (Some (Upward f c m)) w = calls place c (λ r. granted (hears c f m r)) (ruling_in c w.controllers) w
delivers place (Some (Downward c f m)) w = takes f (el_in.Arrived c m) w

-- ---- transactions of the script
abbrev pub begins_by : ℕ → ℕ → Option PlanTxn → WorldState → WorldState
begins_by place c None w = w
begins_by place c (Some t) w = calls place c (begins_in c (begun t)) (ruling_in c w.controllers) w

abbrev pub changes_by : ℕ → ℕ → Option (ℕ × List Select) → WorldState → WorldState
changes_by place c None w = w
changes_by place c (Some p) w = calls place c (changes_at c p.0 p.1) (ruling_in c w.controllers) w

-- ---- one step, whose text stands at this place
abbrev pub happens : List PlanTxn → WorldState → ℕ × Step → WorldState
happens ts w (place, step.Open f c) = takes f (el_in.Opened c) w
happens ts w (place, step.Deliver i) = delivers place (parcel_in i w.sent) w
happens ts w (place, step.Moment f t) = takes f (el_in.Moment t) w
happens ts w (place, step.Start c r) = started_by (controller_in c w.controllers) c r w
happens ts w (place, step.Stop c) = stopped c w
happens ts w (place, step.Begin c n) = begins_by place c (transaction_in n ts) w
happens ts w (place, step.Plain c n) = changes_by place c (plain_in n ts) w
happens ts w (place, step.GiveUp c x) = calls place c (gives_up_in c x) (ruling_in c w.controllers) w
happens ts w (place, step.Resend c f) = calls place c (λ r. granted (resends_in c f r)) (ruling_in c w.controllers) w
happens ts w (place, step.Forget c) = calls place c (forgets_in c) (ruling_in c w.controllers) w
happens ts w (place, step.Restart f) = restarts f w

-- the world after steps
abbrev pub run : List PlanTxn → WorldState → List (ℕ × Step) → WorldState
run ts w [] = w
run ts w (x ∷ xs) = run ts (happens ts w x) xs

-- ---- what happens to what Configs may change, the newest first
abbrev pub facts_by : Option ElementState → ElIn → List (Fact Operation)
facts_by None i = []
facts_by (Some e) i = (element.step e i).facts

abbrev pub facts_of : Option Parcel → WorldState → List (Fact Operation)
facts_of None w = []
facts_of (Some (Upward f c m)) w = []
facts_of (Some (Downward c f m)) w = facts_by (element_in f w.nodes) (el_in.Arrived c m)

-- at one step
abbrev pub facts_at : WorldState → Step → List (Fact Operation)
facts_at w (step.Open f c) = facts_by (element_in f w.nodes) (el_in.Opened c)
facts_at w (step.Deliver i) = facts_of (parcel_in i w.sent) w
facts_at w (step.Moment f t) = facts_by (element_in f w.nodes) (el_in.Moment t)
facts_at w (step.Start c r) = []
facts_at w (step.Stop c) = []
facts_at w (step.Begin c n) = []
facts_at w (step.Plain c n) = []
facts_at w (step.GiveUp c x) = []
facts_at w (step.Resend c f) = []
facts_at w (step.Forget c) = []
facts_at w (step.Restart f) = []

-- and at all of them
abbrev pub facts : List PlanTxn → WorldState → List (ℕ × Step) → List (Fact Operation)
facts ts w [] = []
facts ts w (x ∷ xs) = facts ts (happens ts w x) xs ++ facts_at w x.1

-- ---- steps that can't be made
abbrev pub fault_if : Bool → WorldFault → Option WorldFault → Option WorldFault
fault_if true f rest = Some f
fault_if false f rest = rest

-- a call of a control element that stands still, where all names are there
abbrev pub call_fault : Bool → ℕ → WorldState → Option WorldFault
call_fault named c w = fault_if (not (has_controller c w.controllers && named)) fault.NoSuchName (fault_if (not (is_running c w.controllers)) fault.NotRunning None)

abbrev pub used_by : Option Standing → List ℕ
used_by None = []
used_by (Some s) = s.used

abbrev pub has_used : ℕ → ℕ → List Standing → Bool
has_used c r ss = among r (used_by (controller_in c ss))

abbrev pub element_fault : ℕ → WorldState → Option WorldFault
element_fault f w = fault_if (not (has_element f w.nodes)) fault.NoSuchName None

abbrev pub open_fault : ℕ → ℕ → WorldState → Option WorldFault
open_fault f c w = fault_if (not (has_element f w.nodes && has_controller c w.controllers)) fault.NoSuchName None

abbrev pub message_fault : ℕ → WorldState → Option WorldFault
message_fault i w = fault_if (i == 0 || nat_lt (length w.sent) i) fault.NoSuchMessage None

abbrev pub start_fault : ℕ → ℕ → WorldState → Option WorldFault
start_fault c r w =
    fault_if (not (has_controller c w.controllers)) fault.NoSuchName
    (fault_if (is_running c w.controllers) fault.Running
    (fault_if (has_used c r w.controllers) fault.RoundUsed None))

-- why a step can't be made; a name that is not there comes before all else
abbrev pub fault_of : List PlanTxn → WorldState → Step → Option WorldFault
fault_of ts w (step.Open f c) = open_fault f c w
fault_of ts w (step.Deliver i) = message_fault i w
fault_of ts w (step.Moment f t) = element_fault f w
fault_of ts w (step.Start c r) = start_fault c r w
fault_of ts w (step.Stop c) = call_fault true c w
fault_of ts w (step.Begin c n) = call_fault (is_some (transaction_in n ts)) c w
fault_of ts w (step.Plain c n) = call_fault (is_some (plain_in n ts)) c w
fault_of ts w (step.GiveUp c x) = call_fault true c w
fault_of ts w (step.Resend c f) = call_fault (has_element f w.nodes) c w
fault_of ts w (step.Forget c) = call_fault true c w
fault_of ts w (step.Restart f) = element_fault f w

-- ---- steps whose call is refused
abbrev pub refusal_by : (Ruling → Called) → Option Ruling → Option Refusal
refusal_by f None = None
refusal_by f (Some r) = (f r).refusal

abbrev pub begin_refused : ℕ → Option PlanTxn → WorldState → Option Refusal
begin_refused c None w = None
begin_refused c (Some t) w = refusal_by (begins_in c (begun t)) (ruling_in c w.controllers)

abbrev pub plain_refused : ℕ → Option (ℕ × List Select) → WorldState → Option Refusal
plain_refused c None w = None
plain_refused c (Some p) w = refusal_by (changes_at c p.0 p.1) (ruling_in c w.controllers)

-- why the call of a step is refused
abbrev pub refusal_of : List PlanTxn → WorldState → Step → Option Refusal
refusal_of ts w (step.Open f c) = None
refusal_of ts w (step.Deliver i) = None
refusal_of ts w (step.Moment f t) = None
refusal_of ts w (step.Start c r) = None
refusal_of ts w (step.Stop c) = None
refusal_of ts w (step.Begin c n) = begin_refused c (transaction_in n ts) w
refusal_of ts w (step.Plain c n) = plain_refused c (plain_in n ts) w
refusal_of ts w (step.GiveUp c x) = refusal_by (gives_up_in c x) (ruling_in c w.controllers)
refusal_of ts w (step.Resend c f) = None
refusal_of ts w (step.Forget c) = refusal_by (forgets_in c) (ruling_in c w.controllers)
refusal_of ts w (step.Restart f) = None
