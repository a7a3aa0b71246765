-- What the changes of the parts of a stage make of its state, and that it stays sound.
use Rattle.std.proofs.Common.{◌≡◌, ℕ, List, ◌++◌, map, Option, None, IfSome, sym, ap, ◌∙◌, subst}
use Rattle.std.specs.List.{AllByRecursion}
use Rattle.fc_documents.specs.declared.transaction.PlanTxn.{PlanTxn}
use Rattle.fc_element.specs.declared.input.ElIn.{ElIn}
use Rattle.fc_performing.specs.Sending.{IsSaid}
use Rattle.fc_performing.specs.declared.out.Out.{Out}
use Rattle.fc_steps.specs.declared.step.Step.{Step}
use Rattle.fc_world.specs.Answering.{AnswersIn, started_in}
use Rattle.fc_world.specs.Lookups.{controller_in, ids_of, ruling_in}
use Rattle.fc_world.specs.Stages.{AreCounted, IsAsWas, IsClear, IsProperParcel, IsSound, KeepsClear, all_parcels, batches_from, batches_of, call_of, placed_refusal, refusals_of, standing_of, state_of}
use Rattle.fc_world.specs.Turns.{outs_in, restarted_in, turned_in}
use Rattle.fc_world.specs.Worlds.{Standing, WorldState}
use Rattle.fc_world.specs.WorldSteps.{calls, happens, restarts, started_by, stopped, takes, with_ruling}
use Rattle.fc_world.specs.declared.faults.Refused.{Refused}
use Rattle.fc_world.specs.declared.lives.Answer.{Answer}
use Rattle.fc_world.specs.declared.lives.Request.{Request}
use Rattle.fc_world.specs.declared.nodes.Node.{Node}
use Rattle.fc_world.specs.declared.sent.Batch.{Batch}
use Rattle.fc_world.specs.declared.stage.Stage.{Stage}
use Rattle.fc_world.proofs.Batches.{grows_from, grows_of, refused_grows}
use Rattle.fc_world.proofs.Clearing.{answers_clear}
use Rattle.fc_world.proofs.Staging.{called, restarted_is, started_is, stopped_is, took, world_is}

-- ---- where nothing has changed
pub as_was_state : (new old : Stage) → IsAsWas new old → state_of new ≡ state_of old
as_was_state new old h =
    world_is (state_of new) old.nodes.items (map standing_of old.controllers.items) (all_parcels old.sent.items) (map placed_refusal old.refused.items) h.nodes h.controllers (ap all_parcels h.sent) (ap (map placed_refusal) h.refused)

pub as_was_sound : (new old : Stage) → IsAsWas new old → IsSound old → IsSound new
as_was_sound new old h sound = record {
  counted = subst (AreCounted 0) (sym h.sent) sound.counted;
  proper = subst (λ l. AllByRecursion IsProperParcel (all_parcels l)) (sym h.sent) sound.proper;
  clear = subst (AllByRecursion IsClear) (sym h.controllers) sound.clear;
}

-- ---- an input of an element
pub took_stage : (f : ℕ) (i : ElIn) (old new : Stage) (bs : List Batch) (ns : List Node) (os : Option (List Out)) → bs ≡ old.sent.items → os ≡ outs_in f i old.nodes.items → ns ≡ turned_in f i old.nodes.items
    → IfSome os (AllByRecursion IsSaid) → new.sent.items ≡ bs ++ batches_from f bs os → new.nodes.items ≡ ns → new.controllers.items ≡ old.controllers.items → new.refused.items ≡ old.refused.items
    → IsSound old → (state_of new ≡ takes f i (state_of old)) × IsSound new
took_stage f i old new bs ns os same outs turned said sent nodes controllers refused sound =
    let grown = grows_from f old.sent.items bs new.sent.items os same sent sound.counted sound.proper said in (
      took f i (state_of old) (state_of new) os outs (nodes ∙ turned) (ap (map standing_of) controllers) grown.whole (ap (map placed_refusal) refused),
      record { counted = grown.counted; proper = grown.proper; clear = subst (AllByRecursion IsClear) (sym (ap (map standing_of) controllers)) sound.clear },
    )

-- ---- a call of a control element
pub called_stage : (c place : ℕ) (q : Request) (old new : Stage) (a : Option Answer) (bs : List Batch) (cs : List Standing) (rs : List (ℕ × Refused)) → bs ≡ old.sent.items → rs ≡ old.refused.items
    → AnswersIn c q (map standing_of old.controllers.items) a cs → new.sent.items ≡ bs ++ batches_of c bs a → new.refused.items ≡ rs ++ refusals_of place a → new.nodes.items ≡ old.nodes.items
    → map standing_of new.controllers.items ≡ cs → KeepsClear q → IsSound old
    → (state_of new ≡ calls place c (call_of c q) (ruling_in c (state_of old).controllers) (state_of old)) × IsSound new
called_stage c place q old new a bs cs rs same kept h sent refused nodes controllers keeps sound =
    let olds = map standing_of old.controllers.items in
    let news = map standing_of new.controllers.items in
    let answers : AnswersIn c q olds a news = subst (AnswersIn c q olds a) (sym controllers) h in
    let clear = answers_clear c q olds a news keeps sound.clear answers in
    let grown = grows_of c old.sent.items bs new.sent.items a same sent sound.counted sound.proper clear.1 in (
      called c place q a (state_of old) (state_of new) answers nodes grown.whole (refused_grows place old.refused.items rs new.refused.items a kept refused),
      record { counted = grown.counted; proper = grown.proper; clear = clear.0 },
    )

-- ---- an element that starts again, and a life that begins or ends
pub restarted_stage : (f : ℕ) (old : Stage) (ns : List Node) (new : WorldState) → ns ≡ restarted_in f old.nodes.items
    → new ≡ record { nodes = ns; controllers = map standing_of old.controllers.items; sent = all_parcels old.sent.items; refused = map placed_refusal old.refused.items } → new ≡ restarts f (state_of old)
restarted_stage f old ns new e is = is ∙ restarted_is f ns (state_of old) e

pub started_state : (c : ℕ) (ids : List ℕ) (round : ℕ) (old : Stage) (ss : List Standing) → ids ≡ ids_of old.nodes.items → ss ≡ started_in c ids round (map standing_of old.controllers.items)
    → record { nodes = old.nodes.items; controllers = ss; sent = all_parcels old.sent.items; refused = map placed_refusal old.refused.items } ≡ started_by (controller_in c (state_of old).controllers) c round (state_of old)
started_state c ids round old ss e f = started_is c ids round ss (state_of old) e f

pub stopped_state : (c : ℕ) (old : Stage) (ss : List Standing) → ss ≡ with_ruling c None (map standing_of old.controllers.items)
    → record { nodes = old.nodes.items; controllers = ss; sent = all_parcels old.sent.items; refused = map placed_refusal old.refused.items } ≡ stopped c (state_of old)
stopped_state c old ss e = stopped_is c ss (state_of old) e

-- ---- one step, by the step that it is
pub happens_so : (ts : List PlanTxn) (w new : WorldState) (place : ℕ) (s t : Step) → s ≡ t → new ≡ happens ts w (place, t) → new ≡ happens ts w (place, s)
happens_so ts w new place s t is e = e ∙ ap (λ x. happens ts w (place, x)) (sym is)
