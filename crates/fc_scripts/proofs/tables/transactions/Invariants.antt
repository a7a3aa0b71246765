use Rattle.std.proofs.Common.{◌≡◌, ◌++◌, drop, Ok}
use Rattle.toml.specs.View.{items_view}
use Rattle.fc_base.specs.Answers.{◌>>=◌}
use Rattle.fc_library.specs.Types.{each}
use Rattle.fc_scripts.specs.Tables.{transaction}
use Rattle.fc_scripts.proofs.tables.transactions.Given as goal

abbrev pub invariant-values : goal.invariant-values
invariant-values l = (each transaction (items_view (drop l.value-index l.values)) >>= λ xs. Ok (l.transactions ++ xs)) ≡ each transaction (items_view l.values)
