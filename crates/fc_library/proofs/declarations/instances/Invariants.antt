use Rattle.std.proofs.Common.{◌≡◌, ◌++◌, drop, Ok}
use Rattle.toml.specs.View.{items_view}
use Rattle.fc_base.specs.Answers.{◌>>=◌}
use Rattle.fc_library.specs.Types.{each}
use Rattle.fc_library.specs.Declarations.{instance}
use Rattle.fc_library.proofs.declarations.instances.Given as goal

abbrev pub invariant-values : goal.invariant-values
invariant-values l = (each instance (items_view (drop l.value-index l.values)) >>= λ xs. Ok (l.instances ++ xs)) ≡ each instance (items_view l.values)
