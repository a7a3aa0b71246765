use Rattle.std.proofs.Common.{◌≡◌, ◌++◌, drop, Ok}
use Rattle.toml.specs.View.{items_view}
use Rattle.fc_base.specs.Answers.{◌>>=◌}
use Rattle.fc_library.specs.Types.{each}
use Rattle.fc_documents.specs.Tables.{change}
use Rattle.fc_documents.proofs.tables.changes.Given as goal

abbrev pub invariant-values : goal.invariant-values
invariant-values l = (each change (items_view (drop l.value-index l.values)) >>= λ xs. Ok (l.changes ++ xs)) ≡ each change (items_view l.values)
