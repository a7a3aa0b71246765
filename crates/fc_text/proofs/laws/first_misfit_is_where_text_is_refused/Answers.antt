use Rattle.fc_text.proofs.RefusedPlaces.{text_refused, long_refused, body_refused_at}
use Rattle.fc_text.proofs.laws.first_misfit_is_where_text_is_refused.Goals as goal

pub returns-clause-text : goal.returns-clause-text
returns-clause-text c = text_refused

pub returns-clause-long : goal.returns-clause-long
returns-clause-long c = long_refused

pub returns-clause-body : goal.returns-clause-body
returns-clause-body c = body_refused_at
