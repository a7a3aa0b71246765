use Rattle.std.proofs.Common.{◌≡◌, ◌++◌, drop, Ok}
use Rattle.toml.specs.View.{items_view}
use Rattle.fc_base.specs.Answers.{◌>>=◌}
use Rattle.fc_library.specs.Types.{each}
use Rattle.fc_scripts.specs.Tables.{controller}
use Rattle.fc_scripts.proofs.tables.controllers.Given as goal

abbrev pub invariant-values : goal.invariant-values
invariant-values l = (each controller (items_view (drop l.value-index l.values)) >>= λ xs. Ok (l.controllers ++ xs)) ≡ each controller (items_view l.values)
