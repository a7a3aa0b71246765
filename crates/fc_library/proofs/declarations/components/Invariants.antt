use Rattle.std.proofs.Common.{◌≡◌, ◌++◌, drop, Ok}
use Rattle.toml.specs.View.{items_view}
use Rattle.fc_base.specs.Answers.{◌>>=◌}
use Rattle.fc_library.specs.Types.{each}
use Rattle.fc_library.specs.Declarations.{component}
use Rattle.fc_library.proofs.declarations.components.Given as goal

abbrev pub invariant-values : goal.invariant-values
invariant-values l = (each component (items_view (drop l.value-index l.values)) >>= λ xs. Ok (l.components ++ xs)) ≡ each component (items_view l.values)
