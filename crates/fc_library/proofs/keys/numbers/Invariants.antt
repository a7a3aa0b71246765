use Rattle.std.proofs.Common.{◌≡◌, ◌++◌, drop, Ok}
use Rattle.toml.specs.View.{items_view}
use Rattle.fc_base.specs.Answers.{◌>>=◌}
use Rattle.fc_library.specs.Keys.{numbers_in}
use Rattle.fc_library.proofs.keys.numbers.Given as goal

abbrev pub invariant-values : goal.invariant-values
invariant-values l = (numbers_in l.key (items_view (drop l.value-index l.values)) >>= λ xs. Ok (l.numbers ++ xs)) ≡ numbers_in l.key (items_view l.values)
