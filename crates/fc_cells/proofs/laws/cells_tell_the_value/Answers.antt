use Rattle.fc_cells.proofs.Telling.{cell_on, cells_tell}
use Rattle.fc_cells.proofs.laws.cells_tell_the_value.Goals as goal

pub returns-clause-whole : goal.returns-clause-whole
returns-clause-whole c = λ ty v w s h k alike. cells_tell 8 ty s v w h k alike

pub returns-clause-under : goal.returns-clause-under
returns-clause-under c = λ ty part v node front ids e. cell_on front ids ty v (part, node) e
