use Rattle.std.proofs.Common.{◌≡◌, drop, map, string_bytes}
use Rattle.fc_words.specs.Commands.{are_texts}
use Rattle.fc_words.proofs.control.are_texts.Given as goal

abbrev pub invariant-words : goal.invariant-words
invariant-words l = are_texts (map string_bytes (drop l.word-index l.words)) ≡ are_texts (map string_bytes l.words)
