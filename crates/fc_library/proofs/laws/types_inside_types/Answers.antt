use Rattle.fc_library.proofs.Depths.{type_law}
use Rattle.fc_library.proofs.laws.types_inside_types.Goals as goal

pub returns : goal.returns
returns c = type_law
