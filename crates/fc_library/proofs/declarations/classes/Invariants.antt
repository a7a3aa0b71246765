use Rattle.std.proofs.Common.{◌≡◌, ◌++◌, drop, Ok}
use Rattle.toml.specs.View.{items_view}
use Rattle.fc_base.specs.Answers.{◌>>=◌}
use Rattle.fc_library.specs.Types.{each}
use Rattle.fc_library.specs.Declarations.{class}
use Rattle.fc_library.proofs.declarations.classes.Given as goal

abbrev pub invariant-values : goal.invariant-values
invariant-values l = (each class (items_view (drop l.value-index l.values)) >>= λ xs. Ok (l.classes ++ xs)) ≡ each class (items_view l.values)
