use Rattle.std.proofs.Common.{◌≡◌, map, take}
use Rattle.std.specs.List.{filter}
use Rattle.fc_assoc.specs.Associations.{is_past}
use Rattle.fc_assoc.proofs.silence.ended.Given as goal

abbrev pub invariant-loop-pair : goal.invariant-loop-pair
invariant-loop-pair l = l.ids ≡ map (λ pair. pair.0) (filter (λ pair. is_past pair.1 l.now l.dead) (take l.pair-index l.pairs))
