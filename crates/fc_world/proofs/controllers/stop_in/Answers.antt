use Rattle.std.proofs.Common.{None, map, sym, ap, ◌∙◌}
use Rattle.fc_world.specs.Lookups.{controller_place}
use Rattle.fc_world.specs.Stages.{standing_of}
use Rattle.fc_world.proofs.Places.{running_nowhere, running_there}
use Rattle.fc_world.proofs.controllers.stop_in.Goals as goal

pub returns-in-None : goal.returns-in-None
returns-in-None c =
    running_nowhere c.args.number None (map standing_of c.args.controllers.now.items) (ap (λ l. controller_place c.args.number (map standing_of l)) (sym c.as_slice.ensures.value) ∙ sym c.in-None.ensures.exact)

pub returns-in-Some : goal.returns-in-Some
returns-in-Some c =
    c.stop_at.ensures
    ∙ running_there c.args.number c.in-Some.place None (map standing_of c.args.controllers.now.items) (ap (λ l. controller_place c.args.number (map standing_of l)) (sym c.as_slice.ensures.value) ∙ sym c.in-Some.ensures.exact)
