use Rattle.fc_watch.proofs.Again.{equal_value}
use Rattle.fc_watch.proofs.laws.an_equal_value_tells_nothing.Goals as goal

pub returns : goal.returns
returns c = equal_value
