use Rattle.std.proofs.Common.{◌≡◌, ◌++◌, List, drop, option_map}
use Rattle.fc_protocol.specs.declared.answers.TxnEntry.{TxnEntry}
use Rattle.fc_asks.specs.Holdings.{held_from}
use Rattle.fc_asks.proofs.holdings.held_from.Given as goal

abbrev pub invariant-loop-item : goal.invariant-loop-item
invariant-loop-item l = option_map (λ (ns : List TxnEntry). l.held ++ ns) (held_from (drop l.item-index l.entries)) ≡ held_from l.entries
