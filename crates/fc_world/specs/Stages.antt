-- What a world holds, as the state of a network element that it is. This profile's own.
use Rattle.std.specs.Prelude.{◌≡◌, ◌≢◌, ℕ, ◌+◌, min, List, [], ◌∷◌, length, map, slice_get, Option, Some, None, option_map, unwrap_or, IfSome}
use Rattle.std.specs.List.{AllByRecursion, flat_map}
use Rattle.fc_master.specs.Masters.{core_of}
use Rattle.fc_master.specs.Refusals.{begin_told, forget_told, give_up_told}
use Rattle.fc_master.specs.declared.master.Master.{Master}
use Rattle.fc_msg.specs.Messages.{IsProper}
use Rattle.fc_performing.specs.declared.out.Out.{Out}
use Rattle.fc_plans.specs.Plans.{plan_fault}
use Rattle.fc_protocol.specs.MasterMachine.{Refusal, Spent}
use Rattle.fc_steps.specs.declared.step.Step.{Step}
use Rattle.fc_steps.specs.declared.step.Step.TheVariants as step
use Rattle.fc_base.specs.Ids.{IsRound}
use Rattle.fc_wellformed.specs.WellFormed.{HasChanges, IsChange, IsWellFormed, SpeaksClearly}
use Rattle.fc_world.specs.Worlds.{Ruling, Standing, WorldState, downward, upward}
use Rattle.fc_world.specs.WorldSteps.{Called, Spoke, begins_in, changes_at, forgets_in, gives_up_in, granted, hears, resends_in}
use Rattle.fc_world.specs.declared.controllers.Controller.{Controller}
use Rattle.fc_world.specs.declared.faults.Refused.{Refused}
use Rattle.fc_world.specs.declared.faults.Refused.TheVariants as refused
use Rattle.fc_world.specs.declared.sent.Batch.{Batch}
use Rattle.fc_world.specs.declared.lives.Answer.{Answer}
use Rattle.fc_world.specs.declared.lives.Answer.TheVariants as answer
use Rattle.fc_world.specs.declared.lives.Request.{Request}
use Rattle.fc_world.specs.declared.lives.Request.TheVariants as request
use Rattle.fc_world.specs.declared.sent.Parcel.{Parcel}
use Rattle.fc_world.specs.declared.sent.Parcel.TheVariants.{Upward, Downward}
use Rattle.fc_world.specs.declared.sent.Outs.{Outs}
use Rattle.fc_world.specs.declared.sent.Outs.TheVariants as outs
use Rattle.fc_world.specs.declared.stage.Stage.{Stage}

-- ---- what was sent, in batches, each of which one step has sent
abbrev pub parcels_in : Outs → List Parcel
parcels_in (outs.OfElement f os) = upward f os
parcels_in (outs.OfController c os) = downward c os

abbrev pub parcels_of : Batch → List Parcel
parcels_of b = parcels_in b.outs

abbrev pub all_parcels : List Batch → List Parcel
all_parcels bs = flat_map parcels_of bs

-- the message at a place of a batch, where there is one
abbrev pub parcel_at : Option (Batch × ℕ) → Option Parcel
parcel_at None = None
parcel_at (Some p) = slice_get (parcels_of p.0) p.1

-- the greatest number
abbrev pub most : ℕ
most = 18446744073709551615

-- each batch knows how many messages were sent before it, from this many on
abbrev pub AreCounted : ℕ → List Batch → Type 0
AreCounted n [] = Unit {0}
AreCounted n (b ∷ bs) = (b.before ≡ min n most) × AreCounted (n + length (parcels_of b)) bs

-- What an element sends is proper. What a control element sends is well formed, and its numbers are within their fields by their types.
abbrev pub IsProperParcel : Parcel → Type 0
IsProperParcel (Upward f c m) = IsProper m
IsProperParcel (Downward c f m) = IsWellFormed m

-- ---- control elements
abbrev pub ruling_of : Master → Ruling
ruling_of m = record { life = m.life; core = core_of m }

abbrev pub standing_of : Controller → Standing
standing_of s = record { ce = s.ce; used = s.used.items; running = option_map ruling_of s.master }

abbrev pub IsClearLife : Ruling → Type 0
IsClearLife r = SpeaksClearly r.life r.core

abbrev pub IsClear : Standing → Type 0
IsClear s = IfSome s.running IsClearLife

-- ---- refused calls
abbrev pub told : Refused → Option Refusal
told (refused.Begin f) = begin_told f
told (refused.GiveUp f) = give_up_told f
told (refused.Forget f) = forget_told f

-- Of which calls it may be: to begin a transaction or to send a plain change, to give a transaction up, to forget, or of none.
abbrev pub RefusesBegin : Refused → Type 0
RefusesBegin (refused.Begin f) = Unit {0}
RefusesBegin (refused.GiveUp f) = ⊥
RefusesBegin (refused.Forget f) = ⊥

abbrev pub RefusesGiveUp : Refused → Type 0
RefusesGiveUp (refused.Begin f) = ⊥
RefusesGiveUp (refused.GiveUp f) = Unit {0}
RefusesGiveUp (refused.Forget f) = ⊥

abbrev pub RefusesForget : Refused → Type 0
RefusesForget (refused.Begin f) = ⊥
RefusesForget (refused.GiveUp f) = ⊥
RefusesForget (refused.Forget f) = Unit {0}

abbrev pub RefusesNothing : Refused → Type 0
RefusesNothing r = ⊥

-- it may be of this request
abbrev pub Refuses : Request → Refused → Type 0
Refuses (request.Hear f m) = RefusesNothing
Refuses (request.Begin parts) = RefusesBegin
Refuses (request.Plain f change) = RefusesBegin
Refuses (request.GiveUp x) = RefusesGiveUp
Refuses (request.Resend f) = RefusesNothing
Refuses request.Forget = RefusesForget

-- it may be of the call of this step
abbrev pub RefusesAt : Step → Refused → Type 0
RefusesAt (step.Open f c) = RefusesNothing
RefusesAt (step.Deliver i) = RefusesNothing
RefusesAt (step.Moment f t) = RefusesNothing
RefusesAt (step.Start c r) = RefusesNothing
RefusesAt (step.Stop c) = RefusesNothing
RefusesAt (step.Begin c n) = RefusesBegin
RefusesAt (step.Plain c n) = RefusesBegin
RefusesAt (step.GiveUp c x) = RefusesGiveUp
RefusesAt (step.Resend c f) = RefusesNothing
RefusesAt (step.Forget c) = RefusesForget
RefusesAt (step.Restart f) = RefusesNothing

-- Of a call that may be refused so, what is told is exactly why it is refused. Want of memory is never told, nor the refusal of another call.
abbrev pub Tells : (Refused → Type 0) → Option Refused → Option Refusal → Type 0
Tells Fits None why = why ≡ None
Tells Fits (Some r) why = (why ≡ told r) × (told r ≢ None) × Fits r

-- want of memory is none
abbrev pub refusal_in : Refused → Refusal
refusal_in r = unwrap_or (told r) Spent

abbrev pub placed_refusal : ℕ × Refused → ℕ × Refusal
placed_refusal r = (r.0, refusal_in r.1)

-- ---- calls of a life
-- what is asked of it, as a call of the life of the control element of number c
abbrev pub call_of : ℕ → Request → Ruling → Called
call_of c (request.Hear f m) r = granted (hears c f m r)
call_of c (request.Begin parts) r = begins_in c parts r
call_of c (request.Plain f change) r = changes_at c f change r
call_of c (request.GiveUp x) r = gives_up_in c x r
call_of c (request.Resend f) r = granted (resends_in c f r)
call_of c request.Forget r = forgets_in c r

-- What is answered, and what the life is then: it has spoken, or the call is refused and it is as it was.
abbrev pub AnswersBy : (Refused → Type 0) → Option Refusal → Spoke → Ruling → Answer → Ruling → Type 0
AnswersBy Fits why spoke old (answer.Spoke os) new = (why ≡ None) × (os ≡ spoke.outs) × (new ≡ spoke.ruling)
AnswersBy Fits why spoke old (answer.Refused r) new = (why ≡ told r) × (told r ≢ None) × Fits r × (new ≡ old)

abbrev pub AnswersCall : ℕ → Request → Ruling → Answer → Ruling → Type 0
AnswersCall c q old answer new = AnswersBy (Refuses q) (call_of c q old).refusal (call_of c q old).spoke old answer new

-- ---- all together
abbrev pub state_of : Stage → WorldState
state_of s = record {
  nodes = s.nodes.items;
  controllers = map standing_of s.controllers.items;
  sent = all_parcels s.sent.items;
  refused = map placed_refusal s.refused.items;
}

-- whatever was sent is proper, and so is what the control elements will send
pub record IsSound (s : Stage) : Type 0 where
  pub counted : AreCounted 0 s.sent.items
  pub proper : AllByRecursion IsProperParcel (all_parcels s.sent.items)
  pub clear : AllByRecursion IsClear (map standing_of s.controllers.items)

-- what a request would have sent is of the grammar, and what it would begin is a plan
abbrev pub KeepsClear : Request → Type 0
KeepsClear (request.Hear f m) = Unit {0}
KeepsClear (request.Begin parts) = AllByRecursion HasChanges parts × (plan_fault parts ≡ None)
KeepsClear (request.Plain f change) = IsChange change
KeepsClear (request.GiveUp x) = Unit {0}
KeepsClear (request.Resend f) = Unit {0}
KeepsClear request.Forget = Unit {0}

-- what was sent behind these batches, as one more
abbrev pub batch_behind : List Batch → Outs → Batch
batch_behind bs os = record { before = min (length (all_parcels bs)) most; outs = os }

-- what is kept of an answer of the control element of number c
abbrev pub batches_of : ℕ → List Batch → Option Answer → List Batch
batches_of c bs None = []
batches_of c bs (Some (answer.Spoke os)) = batch_behind bs (outs.OfController c os) ∷ []
batches_of c bs (Some (answer.Refused r)) = []

abbrev pub refused_in : Option Answer → Option Refused
refused_in None = None
refused_in (Some (answer.Spoke os)) = None
refused_in (Some (answer.Refused r)) = Some r

abbrev pub refusals_of : ℕ → Option Answer → List (ℕ × Refused)
refusals_of place None = []
refusals_of place (Some (answer.Spoke os)) = []
refusals_of place (Some (answer.Refused r)) = (place, r) ∷ []

-- and of what an element sends
abbrev pub batches_from : ℕ → List Batch → Option (List Out) → List Batch
batches_from f bs None = []
batches_from f bs (Some os) = batch_behind bs (outs.OfElement f os) ∷ []

-- nothing that is seen has changed, nor how it is kept but for room
pub record IsAsWas (new old : Stage) : Type 0 where
  pub nodes : new.nodes.items ≡ old.nodes.items
  pub controllers : map standing_of new.controllers.items ≡ map standing_of old.controllers.items
  pub sent : new.sent.items ≡ old.sent.items
  pub refused : new.refused.items ≡ old.refused.items

-- ---- a step that a text can say has a round where it begins a life
abbrev pub HasRound : Step → Type 0
HasRound (step.Open f c) = Unit {0}
HasRound (step.Deliver i) = Unit {0}
HasRound (step.Moment f t) = Unit {0}
HasRound (step.Start c r) = IsRound r
HasRound (step.Stop c) = Unit {0}
HasRound (step.Begin c n) = Unit {0}
HasRound (step.Plain c n) = Unit {0}
HasRound (step.GiveUp c x) = Unit {0}
HasRound (step.Resend c f) = Unit {0}
HasRound (step.Forget c) = Unit {0}
HasRound (step.Restart f) = Unit {0}
