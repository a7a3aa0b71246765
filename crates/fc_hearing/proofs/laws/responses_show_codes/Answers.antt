use Rattle.fc_hearing.proofs.Shown.{response_shows}
use Rattle.fc_hearing.proofs.laws.responses_show_codes.Goals as goal

pub returns : goal.returns
returns c = response_shows
