use Rattle.fc_lives.proofs.Lives.{controller, fits, folds, unclaimed}
use Rattle.fc_lives.proofs.laws.elements_fold.Goals as goal

pub returns-clause-folds : goal.returns-clause-folds
returns-clause-folds c = folds

pub returns-clause-fits : goal.returns-clause-fits
returns-clause-fits c = fits

pub returns-clause-unclaimed : goal.returns-clause-unclaimed
returns-clause-unclaimed c = unclaimed

pub returns-clause-controller : goal.returns-clause-controller
returns-clause-controller c = controller
