use Rattle.fc_cells.proofs.Fitting.{merge_fits, put_fits, remove_fits}
use Rattle.fc_cells.proofs.laws.changes_keep_the_type.Goals as goal

pub returns-clause-put : goal.returns-clause-put
returns-clause-put c = λ ty v w path bytes s h a fine e. put_fits path 8 bytes ty v w (record { sound = s; deep = s.shallow }) h a fine e

pub returns-clause-merged : goal.returns-clause-merged
returns-clause-merged c = λ ty v w path ilvs s h a fine e. merge_fits path 8 ilvs ty v w (record { sound = s; deep = s.shallow }) h a fine e

pub returns-clause-removed : goal.returns-clause-removed
returns-clause-removed c = λ ty v w path s h e. remove_fits path 8 ty v w (record { sound = s; deep = s.shallow }) h e
