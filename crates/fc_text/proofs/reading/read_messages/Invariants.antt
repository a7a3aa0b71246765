use Rattle.std.proofs.Common.{length}
use Rattle.fc_text.specs.TextReading.{message_at, many_at}
use Rattle.fc_text.proofs.Loops.{Going}
use Rattle.fc_text.proofs.reading.read_messages.Given as goal

abbrev pub invariant-lines : goal.invariant-lines
invariant-lines l = Going 0 message_at l.messages l.lines (many_at 0 message_at l.fn.lines)

abbrev pub decreases-lines : goal.decreases-lines
decreases-lines l = length l.lines.lines
