use Rattle.std.proofs.Common.{◌++◌, ap, arith, ◌∙◌}
use Rattle.std.proofs.lemmas.Result.{err_from_is_err_and}
use Rattle.fc_wire.specs.declared.header.Header.{Header}
use Rattle.fc_msg.specs.Messages.{framed}
use Rattle.fc_making.proofs.WrittenMessages.{body_refused, content_refused, head_refused, message_done, shut_refused}
use Rattle.fc_making.proofs.write_message.write_message.Goals as goal

pub returns-in_err-head-clause-not : goal.returns-in_err-head-clause-not
returns-in_err-head-clause-not c =
    let p = err_from_is_err_and c.from_residual.result c.from_residual.ensures.1 in
    rw (p.1, p.2) (head_refused c.args.lines.now c.in_err-head.field-0.0 c.in_err-head.ensures.exact)

pub returns-in_err-write_content-clause-not : goal.returns-in_err-write_content-clause-not
returns-in_err-write_content-clause-not c =
    let p = err_from_is_err_and c.from_residual-in_err-write_content.result c.from_residual-in_err-write_content.ensures.1 in
    rw (p.1, p.2) (content_refused c.args.lines.now c.head_line.new.lines c.in_ok-head.head c.in_err-write_content.field-0.0 c.in_ok-head.ensures.exact c.in_err-write_content.ensures.exact)

pub returns-in_err-shut-clause-not : goal.returns-in_err-shut-clause-not
returns-in_err-shut-clause-not c =
    let p = err_from_is_err_and c.from_residual-in_err-shut.result c.from_residual-in_err-shut.ensures.1 in
    rw (p.1, p.2) (shut_refused c.args.lines.now c.head_line.new.lines c.write_content.new.lines c.in_ok-head.head c.in_err-shut.field-0.0 c.clear.new.self c.write_content.new.to c.in_ok-head.ensures.exact c.in_ok-write_content.ensures.exact
    c.in_err-shut.ensures.exact)

pub returns-clause-made : goal.returns-clause-made
returns-clause-made c =
    message_done c.args.lines.now c.head_line.new.lines c.write_content.new.lines c.in_ok-head.head c.clear.new.self c.write_content.new.to c.as_slice-body.result.now c.args.into.now.items c.append_framed.new.into.items c.in_ok-head.ensures.exact
    c.clear.ensures c.in_ok-write_content.ensures.exact c.in_ok-shut.ensures.exact c.as_slice-body.ensures (omega (arith, c.if-body-gt-MOST_BODY.false))
    (c.in_ok-append_framed.ensures.ok ∙ ap (λ (h : Header). c.args.into.now.items ++ framed h c.as_slice-body.result.now) c.header_of.ensures)

pub returns-then-body-gt-MOST_BODY-clause-not : goal.returns-then-body-gt-MOST_BODY-clause-not
returns-then-body-gt-MOST_BODY-clause-not c =
    body_refused c.args.lines.now c.head_line.new.lines c.write_content.new.lines c.in_ok-head.head c.clear.new.self c.write_content.new.to c.as_slice-body.result.now c.in_ok-head.ensures.exact
    c.clear.ensures c.in_ok-write_content.ensures.exact c.in_ok-shut.ensures.exact c.as_slice-body.ensures (omega (arith, c.if-body-gt-MOST_BODY.true))
