use Rattle.std.proofs.Common.{◌≡◌, ◌++◌, ℕ, List, drop, option_map}
use Rattle.fc_holding.specs.Naming.{ids_from}
use Rattle.fc_holding.proofs.naming.ids_from.Given as goal

abbrev pub invariant-loop-word : goal.invariant-loop-word
invariant-loop-word l = option_map (λ (ns : List ℕ). l.ids ++ ns) (ids_from l.last (drop l.word-index l.words)) ≡ ids_from 0 l.words
