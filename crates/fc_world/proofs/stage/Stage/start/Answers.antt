use Rattle.std.proofs.Common.{ap, map, ◌∙◌}
use Rattle.fc_world.specs.Lookups.{ids_of}
use Rattle.fc_world.specs.Stages.{standing_of}
use Rattle.fc_world.proofs.Acting.{started_state}
use Rattle.fc_world.proofs.Clearing.{started_clear}
use Rattle.fc_world.proofs.Places.{on_then}
use Rattle.fc_world.proofs.stage.Stage.start.Goals as goal

pub returns-clause-ok : goal.returns-clause-ok
returns-clause-ok c =
    on_then _ _ c.start_in.result (λ e. started_state c.args.number c.as_slice-2.result.now c.args.round c.args.self.now (map standing_of c.start_in.new.controllers.items) (c.as_slice-2.ensures ∙ c.in_ok-ids.ensures ∙ ap ids_of c.as_slice.ensures.value) e) c.start_in.ensures.ok

pub returns-clause-sound : goal.returns-clause-sound
returns-clause-sound c =
    on_then _ _ c.start_in.result
    (λ e. record {
      counted = c.requires.sound.counted;
      proper = c.requires.sound.proper;
      clear = started_clear c.args.number c.as_slice-2.result.now c.args.round (map standing_of c.args.self.now.controllers.items) (map standing_of c.start_in.new.controllers.items) e c.requires.sound.clear;
    })
    c.start_in.ensures.ok
