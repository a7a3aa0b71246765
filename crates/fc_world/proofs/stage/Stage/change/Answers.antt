use Rattle.std.proofs.Common.{Some, ap, ◌∙◌, subst}
use Rattle.fc_world.specs.Lookups.{plain_in}
use Rattle.fc_world.specs.Stages.{RefusesBegin, Tells, state_of}
use Rattle.fc_world.specs.WorldSteps.{changes_by, plain_refused}
use Rattle.fc_world.proofs.Clearing.{plain_holds}
use Rattle.fc_world.proofs.Places.{if_then, on_then}
use Rattle.fc_world.proofs.stage.Stage.change.Goals as goal

pub change_one-requires-clause-holds : goal.change_one-requires-clause-holds
change_one-requires-clause-holds c =
    plain_holds c.args.name.now c.args.setting.now.transactions (c.in-Some.lone.0, c.in-Some.lone.1.now) c.requires.clear (c.in-Some.ensures ∙ ap (plain_in c.args.name.now) c.as_slice.ensures)

pub returns-clause-refused : goal.returns-clause-refused
returns-clause-refused c =
    if_then (λ r. Tells RefusesBegin r (plain_refused c.args.number (Some (c.in-Some.lone.0, c.in-Some.lone.1.now)) (state_of c.args.self.now))) _ c.change_one.result
    (λ r h. subst (λ t. Tells RefusesBegin r (plain_refused c.args.number t (state_of c.args.self.now))) (c.in-Some.ensures ∙ ap (plain_in c.args.name.now) c.as_slice.ensures) h) c.change_one.ensures.refused

pub returns-clause-ok : goal.returns-clause-ok
returns-clause-ok c =
    on_then _ _ c.change_one.result
    (λ e. e ∙ ap (λ t. changes_by c.args.place c.args.number t (state_of c.args.self.now)) (c.in-Some.ensures ∙ ap (plain_in c.args.name.now) c.as_slice.ensures)) c.change_one.ensures.ok
