use Rattle.fc_cells.proofs.Setting.{New, Read, put_is_found, set_under}
use Rattle.fc_cells.proofs.Under.{above_stays, others_stay, paths_stay}
use Rattle.std.proofs.Common.{◌++◌, ◌∷◌}
use Rattle.fc_cells.proofs.laws.a_set_changes_one_place.Goals as goal

pub returns-clause-put : goal.returns-clause-put
returns-clause-put c = λ ty v w ids bytes e. put_is_found ids bytes ty v w (set_under ids bytes ty v w e)

pub returns-clause-other : goal.returns-clause-other
returns-clause-other c = λ ty v w ids bytes others e a. others_stay (New bytes) (Read bytes) ids others ty v w (set_under ids bytes ty v w e) a

pub returns-clause-above : goal.returns-clause-above
returns-clause-above c = λ ty v w front id ids bytes e. above_stays (New bytes) (Read bytes) front id ids ty v w (set_under (front ++ id ∷ ids) bytes ty v w e)

pub returns-clause-path : goal.returns-clause-path
returns-clause-path c = λ ty part v w node ids bytes path others h e p f a. paths_stay (New bytes) (Read bytes) ids path 8 others ty v w (part, node) h (set_under ids bytes ty v w e) a p f
