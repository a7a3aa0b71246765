use Rattle.std.proofs.Common.{map, sym, ap, ◌∙◌}
use Rattle.fc_world.specs.Answering.{AnswersAt, AnswersIn}
use Rattle.fc_world.specs.Lookups.{controller_place}
use Rattle.fc_world.specs.Stages.{standing_of}
use Rattle.fc_world.proofs.Places.{answers_nowhere, answers_there, if_then}
use Rattle.fc_world.proofs.controllers.ask_in.Goals as goal

pub returns-in-Some-clause-ok : goal.returns-in-Some-clause-ok
returns-in-Some-clause-ok c =
    let old = map standing_of c.args.controllers.now.items in
    let new = map standing_of c.ask_at.new.controllers.items in
    let at = ap (λ l. controller_place c.args.number (map standing_of l)) (sym c.as_slice.ensures.value) ∙ sym c.in-Some.ensures.exact in
    if_then (λ a. AnswersAt c.in-Some.place c.args.request old a new) (λ a. AnswersIn c.args.number c.args.request old a new) c.ask_at.result
    (λ a h. answers_there c.args.number c.in-Some.place c.args.request old a new at h) c.ask_at.ensures.ok

pub returns-in-None-clause-ok : goal.returns-in-None-clause-ok
returns-in-None-clause-ok c =
    answers_nowhere c.args.number c.args.request (map standing_of c.args.controllers.now.items)
    (ap (λ l. controller_place c.args.number (map standing_of l)) (sym c.as_slice.ensures.value) ∙ sym c.in-None.ensures.exact)
