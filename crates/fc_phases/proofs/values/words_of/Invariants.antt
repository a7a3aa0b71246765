use Rattle.std.proofs.Common.{◌≡◌, drop}
use Rattle.fc_phases.specs.Values.{each_of, in_front, word_of}
use Rattle.fc_phases.proofs.values.words_of.Given as goal

abbrev pub invariant-loop-value : goal.invariant-loop-value
invariant-loop-value l = each_of word_of l.entries ≡ in_front l.words (each_of word_of (drop l.value-index l.entries))
