use Rattle.std.proofs.Common.{◌≡◌, ◌++◌, length}
use Rattle.fc_wire.specs.Writing.{writing}
use Rattle.fc_making.proofs.words.put_bytes.Given as goal

abbrev pub invariant-fours : goal.invariant-fours
invariant-fours l = writing (l.to.text ++ l.word) l.to.places ≡ writing (l.fn.to.text ++ l.fn.word) l.fn.to.places

abbrev pub decreases-fours : goal.decreases-fours
decreases-fours l = length l.word

abbrev pub invariant-bytes : goal.invariant-bytes
invariant-bytes l = writing (l.to.text ++ l.word) l.to.places ≡ writing (l.fn.to.text ++ l.fn.word) l.fn.to.places

abbrev pub decreases-bytes : goal.decreases-bytes
decreases-bytes l = length l.word
