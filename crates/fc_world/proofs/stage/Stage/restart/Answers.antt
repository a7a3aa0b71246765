use Rattle.fc_world.specs.Stages.{state_of}
use Rattle.fc_world.proofs.Staging.{restarted_is}
use Rattle.fc_world.proofs.stage.Stage.restart.Goals as goal

pub returns-clause-ok : goal.returns-clause-ok
returns-clause-ok c = restarted_is c.args.id c.restart_in.new.nodes.items (state_of c.args.self.now) c.restart_in.ensures
