use Rattle.std.proofs.Common.{◌≡◌, ◌++◌, ℕ, List, drop, option_map}
use Rattle.fc_asks.specs.Holdings.{ids_from}
use Rattle.fc_asks.proofs.holdings.ids_from.Given as goal

abbrev pub invariant-loop-entry : goal.invariant-loop-entry
invariant-loop-entry l = option_map (λ (ns : List ℕ). l.ids ++ ns) (ids_from l.last (drop l.entry-index l.entries)) ≡ ids_from 0 l.entries
