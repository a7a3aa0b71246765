use Rattle.std.proofs.Common.{map}
use Rattle.fc_world.specs.Stages.{standing_of}
use Rattle.fc_world.proofs.Acting.{stopped_state}
use Rattle.fc_world.proofs.Clearing.{stopped_clear}
use Rattle.fc_world.proofs.stage.Stage.stop.Goals as goal

pub returns-clause-ok : goal.returns-clause-ok
returns-clause-ok c = stopped_state c.args.number c.args.self.now (map standing_of c.stop_in.new.controllers.items) c.stop_in.ensures

pub returns-clause-sound : goal.returns-clause-sound
returns-clause-sound c = record {
  counted = c.requires.sound.counted;
  proper = c.requires.sound.proper;
  clear = stopped_clear c.args.number (map standing_of c.args.self.now.controllers.items) (map standing_of c.stop_in.new.controllers.items) c.stop_in.ensures c.requires.sound.clear;
}
