use Rattle.std.proofs.Common.{None, refl}
use Rattle.fc_world.specs.WorldSteps.{with_running}
use Rattle.fc_world.proofs.Places.{off_at, set_at, there}
use Rattle.fc_world.proofs.controllers.stop_at.Goals as goal

pub returns-in-Some : goal.returns-in-Some
returns-in-Some c =
    set_at (with_running None) c.args.controllers.now.items c.args.place c.in-Some.controller.now
    (record { ce = c.in-Some.controller.now.ce; used = c.in-Some.controller.now.used; master = None })
    (there c.args.controllers.now.items c.args.place c.in-Some.controller.now c.in-Some.ensures.item.3.0 c.in-Some.ensures.value) refl

pub returns-in_default : goal.returns-in_default
returns-in_default c = off_at (with_running None) c.args.controllers.now.items c.args.place c.in_default.ensures.item.3
