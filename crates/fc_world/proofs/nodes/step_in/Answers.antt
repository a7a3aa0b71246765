use Rattle.std.proofs.Common.{sym, ap, ◌∙◌}
use Rattle.fc_world.specs.Lookups.{node_place}
use Rattle.fc_world.proofs.Places.{if_is, on_is, outs_nowhere, outs_there, turned_nowhere, turned_there}
use Rattle.fc_world.proofs.nodes.step_in.Goals as goal

pub returns-in-Some-clause-outs : goal.returns-in-Some-clause-outs
returns-in-Some-clause-outs c =
    if_is c.step_at.result _ _ c.step_at.ensures.outs
    (outs_there c.args.id c.in-Some.place c.args.input c.args.nodes.now.items (ap (node_place c.args.id) (sym c.as_slice.ensures.value) ∙ sym c.in-Some.ensures.exact))

pub returns-in-Some-clause-ok : goal.returns-in-Some-clause-ok
returns-in-Some-clause-ok c =
    on_is c.step_at.result c.step_at.new.nodes.items _ _ c.step_at.ensures.ok
    (turned_there c.args.id c.in-Some.place c.args.input c.args.nodes.now.items (ap (node_place c.args.id) (sym c.as_slice.ensures.value) ∙ sym c.in-Some.ensures.exact))

pub returns-in-None-clause-outs : goal.returns-in-None-clause-outs
returns-in-None-clause-outs c = outs_nowhere c.args.id c.args.input c.args.nodes.now.items (ap (node_place c.args.id) (sym c.as_slice.ensures.value) ∙ sym c.in-None.ensures.exact)

pub returns-in-None-clause-ok : goal.returns-in-None-clause-ok
returns-in-None-clause-ok c = turned_nowhere c.args.id c.args.input c.args.nodes.now.items (ap (node_place c.args.id) (sym c.as_slice.ensures.value) ∙ sym c.in-None.ensures.exact)
