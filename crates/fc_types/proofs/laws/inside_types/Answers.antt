use Rattle.fc_types.proofs.Inside.{fields_inside, entry_inside, none_inside}
use Rattle.fc_types.proofs.laws.inside_types.Goals as goal

pub returns-clause-fields : goal.returns-clause-fields
returns-clause-fields c = fields_inside

pub returns-clause-entry : goal.returns-clause-entry
returns-clause-entry c = entry_inside

pub returns-clause-atom : goal.returns-clause-atom
returns-clause-atom c = none_inside
