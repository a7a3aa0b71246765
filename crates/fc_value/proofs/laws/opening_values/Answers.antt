use Rattle.fc_value.proofs.Opens.{opening_fits, none_nearer}
use Rattle.fc_value.proofs.laws.opening_values.Goals as goal

pub returns-clause-fits : goal.returns-clause-fits
returns-clause-fits c = λ ty s. opening_fits ty s

pub returns-clause-nearest : goal.returns-clause-nearest
returns-clause-nearest c = λ min max z h. none_nearer min max z h
