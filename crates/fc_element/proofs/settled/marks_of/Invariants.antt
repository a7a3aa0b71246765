use Rattle.std.proofs.Common.{◌≡◌, ◌++◌, drop, map}
use Rattle.fc_holding.specs.declared.holding.Holding.{Holding}
use Rattle.fc_element.proofs.settled.marks_of.Given as goal

abbrev pub invariant-loop-holding : goal.invariant-loop-holding
invariant-loop-holding l = l.marks.items ++ map (λ (h : Holding). h.mark) (drop l.holding-index l.holdings) ≡ map (λ (h : Holding). h.mark) l.holdings
