use Rattle.std.proofs.Common.{◌≡◌, drop}
use Rattle.fc_words.specs.Numbers.{are_hexadecimal}
use Rattle.fc_words.proofs.values.are_hexadecimal.Given as goal

abbrev pub invariant-bytes : goal.invariant-bytes
invariant-bytes l = are_hexadecimal (drop l.byte-index l.word) ≡ are_hexadecimal l.word
