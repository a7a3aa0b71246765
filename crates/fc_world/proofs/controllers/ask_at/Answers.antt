use Rattle.std.proofs.Common.{ℕ}
use Rattle.fc_world.specs.Answering.{AnswersOne}
use Rattle.fc_world.specs.Stages.{standing_of}
use Rattle.fc_world.proofs.Places.{answers_off, answers_set, if_then, nowhere, there}
use Rattle.fc_world.proofs.controllers.ask_at.Goals as goal

pub returns-in-None-clause-ok : goal.returns-in-None-clause-ok
returns-in-None-clause-ok c = answers_off c.args.request c.args.controllers.now.items c.args.place (nowhere c.args.controllers.now.items c.args.place c.in-None.ensures.item.3)

pub returns-in-Some-clause-ok : goal.returns-in-Some-clause-ok
returns-in-Some-clause-ok c =
    if_then (λ a. (k : ℕ) → AnswersOne k c.args.request (standing_of c.in-Some.controller.now) a (standing_of c.ask.new.self)) _ c.ask.result
    (λ a h. answers_set c.args.request c.args.controllers.now.items c.args.place c.in-Some.controller.now c.ask.new.self a
    (there c.args.controllers.now.items c.args.place c.in-Some.controller.now c.in-Some.ensures.item.3.0 c.in-Some.ensures.value) h) c.ask.ensures.ok
