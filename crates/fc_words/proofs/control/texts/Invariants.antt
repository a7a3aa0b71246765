use Rattle.std.proofs.Common.{◌≡◌, ◌∷◌, map, string_bytes, take}
use Rattle.fc_words.proofs.control.texts.Given as goal

abbrev pub invariant-words : goal.invariant-words
invariant-words l = l.texts ≡ l.first ∷ map string_bytes (take l.word-index l.more)
