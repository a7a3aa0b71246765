use Rattle.std.proofs.Common.{Some, ap, option_map, sym, ◌∙◌}
use Rattle.fc_element.specs.ElementMachine.{step}
use Rattle.fc_world.specs.Turns.{turned_node}
use Rattle.fc_world.specs.declared.nodes.Node.{Node}
use Rattle.fc_world.proofs.Places.{nowhere, put_at, put_nowhere, there}
use Rattle.fc_world.proofs.nodes.step_at.Goals as goal

pub returns-in-None-clause-ok : goal.returns-in-None-clause-ok
returns-in-None-clause-ok c = put_nowhere (turned_node c.args.input) c.args.nodes.now.items c.args.place (nowhere c.args.nodes.now.items c.args.place c.in-None.ensures.item.3)

pub returns-in_ok-step_one-in-Some-clause-outs : goal.returns-in_ok-step_one-in-Some-clause-outs
returns-in_ok-step_one-in-Some-clause-outs c =
    ap Some c.in_ok-step_one-in-Some.ensures.outs
    ∙ sym (ap (option_map (λ (n : Node). (step n.element c.args.input).outs)) (there c.args.nodes.now.items c.args.place c.in-Some.node.now c.in-Some.ensures.item.3.0 c.in-Some.ensures.value))

pub returns-in_ok-step_one-in-Some-clause-ok : goal.returns-in_ok-step_one-in-Some-clause-ok
returns-in_ok-step_one-in-Some-clause-ok c =
    put_at (turned_node c.args.input) c.args.nodes.now.items c.args.place c.in-Some.node.now c.step_one.new.node
    (there c.args.nodes.now.items c.args.place c.in-Some.node.now c.in-Some.ensures.item.3.0 c.in-Some.ensures.value) c.in_ok-step_one-in-Some.ensures.ok
