use Rattle.fc_standing.proofs.Commuting.{lawful, props_are, within_is}
use Rattle.fc_standing.proofs.laws.a_store_is_lawful.Goals as goal

pub returns-clause-lawful : goal.returns-clause-lawful
returns-clause-lawful c = lawful

pub returns-clause-within : goal.returns-clause-within
returns-clause-within c = within_is

pub returns-clause-props : goal.returns-clause-props
returns-clause-props c = props_are
