use Rattle.fc_configuration.proofs.Fitting.{back_fit, marked_fit, merge_kept, opened_fit, put_kept, remove_kept, settled_fit, unmarked_fit}
use Rattle.fc_configuration.proofs.laws.fits_everywhere.Goals as goal

pub returns-clause-opened : goal.returns-clause-opened
returns-clause-opened c = opened_fit

pub returns-clause-put : goal.returns-clause-put
returns-clause-put c = put_kept

pub returns-clause-merged : goal.returns-clause-merged
returns-clause-merged c = merge_kept

pub returns-clause-removed : goal.returns-clause-removed
returns-clause-removed c = remove_kept

pub returns-clause-marked : goal.returns-clause-marked
returns-clause-marked c = marked_fit

pub returns-clause-unmarked : goal.returns-clause-unmarked
returns-clause-unmarked c = unmarked_fit

pub returns-clause-back : goal.returns-clause-back
returns-clause-back c = back_fit

pub returns-clause-settled : goal.returns-clause-settled
returns-clause-settled c = settled_fit
