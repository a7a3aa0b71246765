use Rattle.std.proofs.Common.{◌≡◌, ◌++◌, drop, Ok}
use Rattle.toml.specs.View.{items_view}
use Rattle.fc_base.specs.Answers.{◌>>=◌}
use Rattle.fc_library.specs.Types.{each}
use Rattle.fc_library.specs.Types.{key}
use Rattle.fc_library.proofs.types.keys.Given as goal

abbrev pub invariant-values : goal.invariant-values
invariant-values l = (each key (items_view (drop l.value-index l.values)) >>= λ xs. Ok (l.keys ++ xs)) ≡ each key (items_view l.values)
