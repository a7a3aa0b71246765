use Rattle.std.proofs.Common.{◌≡◌, drop, map, string_bytes}
use Rattle.fc_words.specs.Commands.{are_plain}
use Rattle.fc_words.proofs.reading.are_plain.Given as goal

abbrev pub invariant-words : goal.invariant-words
invariant-words l = are_plain (map string_bytes (drop l.word-index l.words)) ≡ are_plain (map string_bytes l.words)
