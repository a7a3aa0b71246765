use Rattle.std.proofs.Common.{sym, ap, subst, ◌∙◌}
use Rattle.std.specs.List.{AllByRecursion}
use Rattle.fc_documents.specs.Parts.{begun}
use Rattle.fc_plans.specs.Plans.{plan_fault}
use Rattle.fc_wellformed.specs.WellFormed.{HasChanges}
use Rattle.fc_world.specs.Lookups.{ruling_in}
use Rattle.fc_world.specs.Stages.{RefusesBegin, Tells, call_of, state_of}
use Rattle.fc_world.specs.WorldSteps.{refusal_by}
use Rattle.fc_world.specs.declared.lives.Request.TheVariants as request
use Rattle.fc_world.proofs.Calling.{asked_as, refused_as}
use Rattle.fc_world.proofs.Places.{if_then, on_then}
use Rattle.fc_world.proofs.stage.Stage.begin_all.Goals as goal

pub call-requires-clause-clear : goal.call-requires-clause-clear
call-requires-clause-clear c = (subst (AllByRecursion HasChanges) (sym c.in-Ok.ensures.same) c.requires.holds, ap plan_fault c.in-Ok.ensures.same ∙ c.in-Ok.ensures.accepted)

pub returns-in-Ok-clause-refused : goal.returns-in-Ok-clause-refused
returns-in-Ok-clause-refused c =
    if_then (λ r. Tells RefusesBegin r (refusal_by (call_of c.from.result (request.Begin c.in-Ok.plan)) (ruling_in c.from.result (state_of c.args.self.now).controllers))) _ c.call.result
    (λ r h. refused_as c.args.number c.from.result (request.Begin c.in-Ok.plan) (request.Begin (begun c.args.transaction.now)) (state_of c.args.self.now).controllers r c.from.ensures (ap (λ p. request.Begin p) c.in-Ok.ensures.same) h)
    c.call.ensures.refused

pub returns-in-Ok-clause-ok : goal.returns-in-Ok-clause-ok
returns-in-Ok-clause-ok c =
    on_then _ _ c.call.result
    (λ e. asked_as c.args.number c.from.result c.args.place (request.Begin c.in-Ok.plan) (request.Begin (begun c.args.transaction.now)) (state_of c.args.self.now) (state_of c.call.new.self) c.from.ensures (ap (λ p. request.Begin p) c.in-Ok.ensures.same) e)
    c.call.ensures.ok
