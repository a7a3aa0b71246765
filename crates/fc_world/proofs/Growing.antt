-- What a step sends comes behind all that was sent before.
use Rattle.std.proofs.Common.{◌≡◌, ℕ, List, [], ◌++◌, append-nil, Option, Some, None, refl, sym}
use Rattle.fc_documents.specs.Parts.{begun}
use Rattle.fc_documents.specs.declared.transaction.PlanTxn.{PlanTxn}
use Rattle.fc_element.specs.ElementMachine.{step}
use Rattle.fc_element.specs.ElementState.{ElementState}
use Rattle.fc_element.specs.declared.input.ElIn.{ElIn}
use Rattle.fc_element.specs.declared.input.ElIn.TheVariants as el_in
use Rattle.fc_path.specs.declared.oper.Select.{Select}
use Rattle.fc_protocol.specs.MasterMachine.{Refusal}
use Rattle.fc_steps.specs.declared.step.Step.{Step}
use Rattle.fc_steps.specs.declared.step.Step.TheVariants as made
use Rattle.fc_world.specs.Lookups.{controller_in, element_in, parcel_in, plain_in, ruling_in, transaction_in}
use Rattle.fc_world.specs.Worlds.{Ruling, Standing, WorldState, downward, upward}
use Rattle.fc_world.specs.WorldSteps.{Called, Spoke, begins_by, begins_in, called_by, calls, changes_at, changes_by, delivers, forgets_in, gives_up_in, granted, happens, hears, resends_in, restarted_by, started_by, taken_by}
use Rattle.fc_world.specs.declared.sent.Parcel.{Parcel}
use Rattle.fc_world.specs.declared.sent.Parcel.TheVariants as parcel

-- these are those, and others behind them
abbrev pub GrowsFrom : List Parcel → List Parcel → Type 0
GrowsFrom old new = (more : List Parcel) × (new ≡ old ++ more)

no_more : (ps : List Parcel) → GrowsFrom ps ps
no_more ps = ([], sym (append-nil ps))

sends_taken : (o : Option ElementState) (f : ℕ) (i : ElIn) (w : WorldState) → GrowsFrom w.sent (taken_by o f i w).sent
sends_taken None f i w = no_more w.sent
sends_taken (Some e) f i w = (upward f (step e i).outs, refl)

sends_restarted : (o : Option ElementState) (f : ℕ) (w : WorldState) → GrowsFrom w.sent (restarted_by o f w).sent
sends_restarted None f w = no_more w.sent
sends_restarted (Some e) f w = no_more w.sent

sends_called_by : (place c : ℕ) (r : Option Refusal) (s : Spoke) (w : WorldState) → GrowsFrom w.sent (called_by place c r s w).sent
sends_called_by place c None s w = (downward c s.outs, refl)
sends_called_by place c (Some r) s w = no_more w.sent

sends_called : (place c : ℕ) (f : Ruling → Called) (r : Option Ruling) (w : WorldState) → GrowsFrom w.sent (calls place c f r w).sent
sends_called place c f None w = no_more w.sent
sends_called place c f (Some r) w = sends_called_by place c (f r).refusal (f r).spoke w

sends_started : (o : Option Standing) (c round : ℕ) (w : WorldState) → GrowsFrom w.sent (started_by o c round w).sent
sends_started None c round w = no_more w.sent
sends_started (Some s) c round w = no_more w.sent

sends_delivered : (place : ℕ) (p : Option Parcel) (w : WorldState) → GrowsFrom w.sent (delivers place p w).sent
sends_delivered place None w = no_more w.sent
sends_delivered place (Some (parcel.Upward f c m)) w = sends_called place c (λ r. granted (hears c f m r)) (ruling_in c w.controllers) w
sends_delivered place (Some (parcel.Downward c f m)) w = sends_taken (element_in f w.nodes) f (el_in.Arrived c m) w

sends_begun : (place c : ℕ) (t : Option PlanTxn) (w : WorldState) → GrowsFrom w.sent (begins_by place c t w).sent
sends_begun place c None w = no_more w.sent
sends_begun place c (Some t) w = sends_called place c (begins_in c (begun t)) (ruling_in c w.controllers) w

sends_changed : (place c : ℕ) (p : Option (ℕ × List Select)) (w : WorldState) → GrowsFrom w.sent (changes_by place c p w).sent
sends_changed place c None w = no_more w.sent
sends_changed place c (Some p) w = sends_called place c (changes_at c p.0 p.1) (ruling_in c w.controllers) w

sends_at : (ts : List PlanTxn) (w : WorldState) (place : ℕ) (s : Step) → GrowsFrom w.sent (happens ts w (place, s)).sent
sends_at ts w place (made.Open f c) = sends_taken (element_in f w.nodes) f (el_in.Opened c) w
sends_at ts w place (made.Deliver i) = sends_delivered place (parcel_in i w.sent) w
sends_at ts w place (made.Moment f t) = sends_taken (element_in f w.nodes) f (el_in.Moment t) w
sends_at ts w place (made.Start c r) = sends_started (controller_in c w.controllers) c r w
sends_at ts w place (made.Stop c) = no_more w.sent
sends_at ts w place (made.Begin c n) = sends_begun place c (transaction_in n ts) w
sends_at ts w place (made.Plain c n) = sends_changed place c (plain_in n ts) w
sends_at ts w place (made.GiveUp c x) = sends_called place c (gives_up_in c x) (ruling_in c w.controllers) w
sends_at ts w place (made.Resend c f) = sends_called place c (λ r. granted (resends_in c f r)) (ruling_in c w.controllers) w
sends_at ts w place (made.Forget c) = sends_called place c (forgets_in c) (ruling_in c w.controllers) w
sends_at ts w place (made.Restart f) = sends_restarted (element_in f w.nodes) f w

pub sends_behind : (ts : List PlanTxn) (w : WorldState) (x : ℕ × Step) → (more : List Parcel) × ((happens ts w x).sent ≡ w.sent ++ more)
sends_behind ts w x = sends_at ts w x.0 x.1
