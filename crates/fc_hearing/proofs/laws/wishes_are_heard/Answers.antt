use Rattle.fc_hearing.proofs.Noticed.{wish_heard}
use Rattle.fc_hearing.proofs.laws.wishes_are_heard.Goals as goal

pub returns : goal.returns
returns c = wish_heard
