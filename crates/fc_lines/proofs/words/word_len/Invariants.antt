use Rattle.std.proofs.Common.{◌≤◌, ◌-◌, length, take}
use Rattle.fc_lines.specs.LineWords.{IsPlain}
use Rattle.fc_lines.proofs.words.word_len.Given as goal

abbrev pub invariant-bytes : goal.invariant-bytes
invariant-bytes l = record { within : l.len ≤ length l.bytes; plain : IsPlain (take l.len l.bytes) }

abbrev pub decreases-bytes : goal.decreases-bytes
decreases-bytes l = length l.bytes - l.len
