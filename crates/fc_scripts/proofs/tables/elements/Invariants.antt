use Rattle.std.proofs.Common.{◌≡◌, ◌++◌, drop, Ok}
use Rattle.toml.specs.View.{items_view}
use Rattle.fc_base.specs.Answers.{◌>>=◌}
use Rattle.fc_library.specs.Types.{each}
use Rattle.fc_scripts.specs.Tables.{element}
use Rattle.fc_scripts.proofs.tables.elements.Given as goal

abbrev pub invariant-values : goal.invariant-values
invariant-values l = (each element (items_view (drop l.value-index l.values)) >>= λ xs. Ok (l.elements ++ xs)) ≡ each element (items_view l.values)
