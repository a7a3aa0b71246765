use Rattle.std.proofs.Common.{sym, ◌∙◌}
use Rattle.fc_text.specs.TextReading.{message_at, many_at}
use Rattle.fc_text.proofs.Loops.{begins, goes}
use Rattle.fc_text.proofs.reading.read_messages.Goals as goal

pub lines-init : goal.lines-init
lines-init c = begins 0 message_at c.new-messages.result c.args.lines.now c.new-messages.ensures

pub lines-preserved : goal.lines-preserved
lines-preserved c =
    goes 0 message_at c.lines.messages c.lines.lines (many_at 0 message_at c.args.lines.now) c.push.new.self c.read_message.new.lines c.in_ok-message.message c.lines.invariant
    (sym c.stands_at.ensures ∙ c.lines-test.true) c.in_ok-message.ensures.exact c.in_ok-message.ensures.less c.in_ok-push.ensures.ok
