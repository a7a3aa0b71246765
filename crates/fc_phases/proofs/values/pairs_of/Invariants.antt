use Rattle.std.proofs.Common.{◌≡◌, drop}
use Rattle.fc_phases.specs.Values.{each_of, in_front, pair_of}
use Rattle.fc_phases.proofs.values.pairs_of.Given as goal

abbrev pub invariant-loop-value : goal.invariant-loop-value
invariant-loop-value l = each_of pair_of l.entries ≡ in_front l.pairs (each_of pair_of (drop l.value-index l.entries))
