use Rattle.std.proofs.Common.{Some, ap, ◌∙◌, subst}
use Rattle.fc_world.specs.Lookups.{transaction_in}
use Rattle.fc_world.specs.Stages.{RefusesBegin, Tells, state_of}
use Rattle.fc_world.specs.WorldSteps.{begin_refused, begins_by}
use Rattle.fc_world.proofs.Clearing.{transaction_holds}
use Rattle.fc_world.proofs.Places.{if_then, on_then}
use Rattle.fc_world.proofs.stage.Stage.begin.Goals as goal

pub begin_all-requires-clause-holds : goal.begin_all-requires-clause-holds
begin_all-requires-clause-holds c =
    transaction_holds c.args.name.now c.args.setting.now.transactions c.in-Some.transaction.now c.requires.clear (c.in-Some.ensures ∙ ap (transaction_in c.args.name.now) c.as_slice.ensures)

pub returns-clause-refused : goal.returns-clause-refused
returns-clause-refused c =
    if_then (λ r. Tells RefusesBegin r (begin_refused c.args.number (Some c.in-Some.transaction.now) (state_of c.args.self.now))) _ c.begin_all.result
    (λ r h. subst (λ t. Tells RefusesBegin r (begin_refused c.args.number t (state_of c.args.self.now))) (c.in-Some.ensures ∙ ap (transaction_in c.args.name.now) c.as_slice.ensures) h) c.begin_all.ensures.refused

pub returns-clause-ok : goal.returns-clause-ok
returns-clause-ok c =
    on_then _ _ c.begin_all.result
    (λ e. e ∙ ap (λ t. begins_by c.args.place c.args.number t (state_of c.args.self.now)) (c.in-Some.ensures ∙ ap (transaction_in c.args.name.now) c.as_slice.ensures)) c.begin_all.ensures.ok
