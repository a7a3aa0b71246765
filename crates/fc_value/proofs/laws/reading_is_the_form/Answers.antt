use Rattle.fc_value.proofs.Complete.{full_read, one_value}
use Rattle.fc_value.proofs.Fitting.{full_fits}
use Rattle.fc_value.proofs.Sound.{full_took}
use Rattle.fc_value.proofs.laws.reading_is_the_form.Goals as goal

pub returns-clause-found : goal.returns-clause-found
returns-clause-found c = λ ty v bytes s fine e. full_took ty v bytes s fine e

pub returns-clause-only : goal.returns-clause-only
returns-clause-only c = λ ty v bytes h. full_read ty v bytes h

pub returns-clause-one : goal.returns-clause-one
returns-clause-one c = λ ty v w bytes h k. one_value ty v w bytes h k

pub returns-clause-fits : goal.returns-clause-fits
returns-clause-fits c = λ ty v bytes fine h. full_fits ty v bytes fine h
