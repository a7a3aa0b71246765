use Rattle.std.proofs.Common.{map, sym, ap, ◌∙◌}
use Rattle.fc_world.specs.Lookups.{controller_place}
use Rattle.fc_world.specs.Stages.{standing_of}
use Rattle.fc_world.proofs.Places.{on_is, started_nowhere, started_there}
use Rattle.fc_world.proofs.controllers.start_in.Goals as goal

pub returns-in-Some-clause-ok : goal.returns-in-Some-clause-ok
returns-in-Some-clause-ok c =
    on_is c.start_at.result (map standing_of c.start_at.new.controllers.items) _ _ c.start_at.ensures.ok
    (started_there c.args.number c.in-Some.place c.args.elements.now c.args.round (map standing_of c.args.controllers.now.items)
    (ap (λ l. controller_place c.args.number (map standing_of l)) (sym c.as_slice.ensures.value) ∙ sym c.in-Some.ensures.exact))

pub returns-in-None-clause-ok : goal.returns-in-None-clause-ok
returns-in-None-clause-ok c =
    started_nowhere c.args.number c.args.elements.now c.args.round (map standing_of c.args.controllers.now.items)
    (ap (λ l. controller_place c.args.number (map standing_of l)) (sym c.as_slice.ensures.value) ∙ sym c.in-None.ensures.exact)
