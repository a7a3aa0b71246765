use Rattle.std.proofs.Common.{◌≡◌, length, map}
use Rattle.fc_value.specs.Keys.{is_rising}
use Rattle.fc_value.proofs.key.are_rising.Given as goal

abbrev pub invariant-loop-rest : goal.invariant-loop-rest
invariant-loop-rest l = is_rising (map (λ v. v.items) l.rest) ≡ is_rising (map (λ v. v.items) l.values)

abbrev pub decreases-loop-rest : goal.decreases-loop-rest
decreases-loop-rest l = length l.rest
