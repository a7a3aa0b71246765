use Rattle.fc_lives.proofs.Told.{always_told}
use Rattle.fc_lives.proofs.events.notices_are_the_reports.Goals as goal

pub returns : goal.returns
returns c = always_told
