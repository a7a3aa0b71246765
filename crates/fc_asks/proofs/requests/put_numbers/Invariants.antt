use Rattle.std.proofs.Common.{◌≡◌, ◌+◌, ◌++◌, drop}
use Rattle.fc_asks.specs.Requests.{numbers_from}
use Rattle.fc_asks.proofs.requests.put_numbers.Given as goal

abbrev pub invariant-loop-at : goal.invariant-loop-at
invariant-loop-at l = l.bytes.items ++ numbers_from (l.at + 1) (drop l.at l.ids) ≡ l.fn.bytes.items ++ numbers_from 1 l.ids
