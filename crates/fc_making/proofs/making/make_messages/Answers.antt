use Rattle.std.proofs.Common.{sym, ◌∙◌}
use Rattle.std.proofs.lemmas.Result.{err_from_is_err_and}
use Rattle.fc_text.specs.TextReading.{message_at, many_at}
use Rattle.fc_making.proofs.MadeBytes.{none_made, one_more, one_fails, all_made}
use Rattle.fc_making.proofs.making.make_messages.Goals as goal

pub lines-init : goal.lines-init
lines-init c = none_made c.args.lines.now c.args.into.now.items

pub lines-preserved : goal.lines-preserved
lines-preserved c =
    let (m, is, e) = c.in_ok-make_message.ensures.made in
    one_more c.lines.lines c.make_message.new.lines c.args.into.now.items c.lines.into.items c.make_message.new.into.items (many_at 0 message_at c.args.lines.now) m c.lines.invariant
    (sym c.stands_at.ensures ∙ c.lines-test.true) is c.in_ok-make_message.ensures.less e

pub returns-in_err-make_message-clause-refused : goal.returns-in_err-make_message-clause-refused
returns-in_err-make_message-clause-refused c =
    let p = err_from_is_err_and c.from_residual.result c.from_residual.ensures.1 in
    rw (p.1, p.2) (one_fails c.lines.lines c.args.into.now.items c.lines.into.items (many_at 0 message_at c.args.lines.now) c.in_err-make_message.field-0.0 c.lines.invariant
    (sym c.stands_at.ensures ∙ c.lines-test.true) c.in_err-make_message.ensures.refused)

pub returns-in_err-make_message-clause-some : goal.returns-in_err-make_message-clause-some
returns-in_err-make_message-clause-some c =
    let p = err_from_is_err_and c.from_residual.result c.from_residual.ensures.1 in
    rw p.1 (c.lines.invariant.front, c.in_err-make_message.ensures.none ∙ c.lines.invariant.bytes)

pub returns-clause-made : goal.returns-clause-made
returns-clause-made c =
    all_made c.lines.lines c.args.into.now.items c.lines.into.items (many_at 0 message_at c.args.lines.now) c.lines.invariant (sym c.stands_at.ensures ∙ c.lines-test.false)
