use Rattle.std.proofs.Common.{sym, ap, ◌∙◌}
use Rattle.fc_world.specs.Lookups.{node_place}
use Rattle.fc_world.proofs.Places.{restarted_nowhere, restarted_there}
use Rattle.fc_world.proofs.nodes.restart_in.Goals as goal

pub returns-in-None : goal.returns-in-None
returns-in-None c = restarted_nowhere c.args.id c.args.nodes.now.items (ap (node_place c.args.id) (sym c.as_slice.ensures.value) ∙ sym c.in-None.ensures.exact)

pub returns-in-Some : goal.returns-in-Some
returns-in-Some c =
    c.restart_at.ensures ∙ restarted_there c.args.id c.in-Some.place c.args.nodes.now.items (ap (node_place c.args.id) (sym c.as_slice.ensures.value) ∙ sym c.in-Some.ensures.exact)
