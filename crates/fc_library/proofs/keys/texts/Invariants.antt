use Rattle.std.proofs.Common.{◌≡◌, ◌++◌, drop, Ok}
use Rattle.toml.specs.View.{items_view}
use Rattle.fc_base.specs.Answers.{◌>>=◌}
use Rattle.fc_library.specs.Keys.{texts_in}
use Rattle.fc_library.proofs.keys.texts.Given as goal

abbrev pub invariant-values : goal.invariant-values
invariant-values l = (texts_in l.key (items_view (drop l.value-index l.values)) >>= λ xs. Ok (l.texts ++ xs)) ≡ texts_in l.key (items_view l.values)
