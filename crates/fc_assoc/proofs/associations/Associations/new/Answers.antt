use Rattle.fc_assoc.proofs.Effects.{none}
use Rattle.fc_assoc.proofs.associations.Associations.new.Goals as goal

pub returns : goal.returns
returns c = none c.new.result.items c.new.ensures.items
