use Rattle.std.proofs.Common.{◌≡◌, length}
use Rattle.fc_lines.proofs.IdWords.{Stepping}
use Rattle.fc_lines.proofs.said.read_steps.Given as goal

abbrev pub invariant-ids : goal.invariant-ids
invariant-ids l = record {
  going : Stepping l.fn.words.0 l.words.0 l.count;
  behind : l.words.1 ≡ l.fn.words.1;
}

abbrev pub decreases-ids : goal.decreases-ids
decreases-ids l = length l.words.0.words

abbrev pub invariant-words : goal.invariant-words
invariant-words l = record {
  going : Stepping l.fn.words.0 l.words.0 l.count;
  behind : l.words.1 ≡ l.fn.words.1;
}

abbrev pub decreases-words : goal.decreases-words
decreases-words l = length l.words.0.words
