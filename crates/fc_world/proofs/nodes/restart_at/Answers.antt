use Rattle.fc_world.specs.Turns.{restarted_node}
use Rattle.fc_world.proofs.Places.{nowhere, put_at, put_nowhere, there}
use Rattle.fc_world.proofs.nodes.restart_at.Goals as goal

pub returns-in-Some : goal.returns-in-Some
returns-in-Some c =
    put_at restarted_node c.args.nodes.now.items c.args.place c.in-Some.node.now c.restart_one.new.node (there c.args.nodes.now.items c.args.place c.in-Some.node.now c.in-Some.ensures.item.3.0 c.in-Some.ensures.value) c.restart_one.ensures

pub returns-in_default : goal.returns-in_default
returns-in_default c = put_nowhere restarted_node c.args.nodes.now.items c.args.place (nowhere c.args.nodes.now.items c.args.place c.in_default.ensures.item.3)
