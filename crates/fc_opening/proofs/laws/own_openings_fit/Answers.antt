use Rattle.fc_opening.proofs.Own.{openings, opens}
use Rattle.fc_opening.proofs.laws.own_openings_fit.Goals as goal

pub returns-clause-openings : goal.returns-clause-openings
returns-clause-openings c = openings

pub returns-clause-opened : goal.returns-clause-opened
returns-clause-opened c = opens
