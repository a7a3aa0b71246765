use Rattle.std.proofs.Common.{◌≡◌, ◌++◌, drop, Ok}
use Rattle.toml.specs.View.{items_view}
use Rattle.fc_base.specs.Answers.{◌>>=◌}
use Rattle.fc_library.specs.Types.{each}
use Rattle.fc_library.specs.Declarations.{event}
use Rattle.fc_library.proofs.declarations.events.Given as goal

abbrev pub invariant-values : goal.invariant-values
invariant-values l = (each event (items_view (drop l.value-index l.values)) >>= λ xs. Ok (l.events ++ xs)) ≡ each event (items_view l.values)
