use Rattle.std.proofs.Common.{ap, ◌∙◌, map}
use Rattle.fc_world.specs.Worlds.{first_controller}
use Rattle.fc_world.proofs.Playing.{first_sound, first_state}
use Rattle.fc_world.proofs.world.first_stage.Goals as goal

pub returns-clause-state : goal.returns-clause-state
returns-clause-state c = first_state c.args.setting.now (record { nodes = c.in_ok-nodes.nodes; controllers = c.in_ok-controllers.controllers; sent = c.new.result; refused = c.new-2.result }) c.in_ok-nodes.ensures (c.in_ok-controllers.ensures ∙ ap (map first_controller) c.as_slice.ensures) c.new.ensures.items c.new-2.ensures.items

pub returns-clause-sound : goal.returns-clause-sound
returns-clause-sound c = first_sound (record { nodes = c.in_ok-nodes.nodes; controllers = c.in_ok-controllers.controllers; sent = c.new.result; refused = c.new-2.result }) c.args.setting.now.controllers c.new.ensures.items (c.in_ok-controllers.ensures ∙ ap (map first_controller) c.as_slice.ensures)
