use Rattle.std.proofs.Common.{length}
use Rattle.fc_text.specs.TextReading.{many_at, message_at}
use Rattle.fc_making.proofs.MadeBytes.{Made}
use Rattle.fc_making.proofs.making.make_messages.Given as goal

abbrev pub invariant-lines : goal.invariant-lines
invariant-lines l = Made l.lines l.fn.into.items l.into.items (many_at 0 message_at l.fn.lines)

abbrev pub decreases-lines : goal.decreases-lines
decreases-lines l = length l.lines.lines
