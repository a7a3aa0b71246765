use Rattle.std.proofs.Common.{length}
use Rattle.fc_world.proofs.setting.+are_controls.Given as goal

abbrev pub decreases-are_controls : goal.decreases-are_controls
decreases-are_controls l = length l.controllers.now
