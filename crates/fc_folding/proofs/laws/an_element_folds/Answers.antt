use Rattle.fc_folding.proofs.Lives.{life_controller, life_fits, life_folds, life_unclaimed}
use Rattle.fc_folding.proofs.laws.an_element_folds.Goals as goal

pub returns-clause-folds : goal.returns-clause-folds
returns-clause-folds c = life_folds

pub returns-clause-fits : goal.returns-clause-fits
returns-clause-fits c = life_fits

pub returns-clause-unclaimed : goal.returns-clause-unclaimed
returns-clause-unclaimed c = life_unclaimed

pub returns-clause-controller : goal.returns-clause-controller
returns-clause-controller c = life_controller
