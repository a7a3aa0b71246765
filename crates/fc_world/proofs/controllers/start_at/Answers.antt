use Rattle.fc_world.specs.WorldSteps.{started}
use Rattle.fc_world.proofs.Places.{off_at, on_then, or_same, set_at, set_same, there}
use Rattle.fc_world.proofs.controllers.start_at.Goals as goal

pub returns-in-None-clause-ok : goal.returns-in-None-clause-ok
returns-in-None-clause-ok c = off_at (started c.args.elements.now c.args.round) c.args.controllers.now.items c.args.place c.in-None.ensures.item.3

pub returns-in-Some-clause-ok : goal.returns-in-Some-clause-ok
returns-in-Some-clause-ok c =
    on_then _ _ c.start.result
    (λ e. set_at (started c.args.elements.now c.args.round) c.args.controllers.now.items c.args.place c.in-Some.controller.now c.start.new.self
    (there c.args.controllers.now.items c.args.place c.in-Some.controller.now c.in-Some.ensures.item.3.0 c.in-Some.ensures.value) e) c.start.ensures.ok

pub returns-in-Some-clause-err : goal.returns-in-Some-clause-err
returns-in-Some-clause-err c =
    or_same _ _ c.start.result
    (λ e. set_same c.args.controllers.now.items c.args.place c.in-Some.controller.now c.start.new.self
    (there c.args.controllers.now.items c.args.place c.in-Some.controller.now c.in-Some.ensures.item.3.0 c.in-Some.ensures.value) e) c.start.ensures.err
