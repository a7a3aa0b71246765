use Rattle.std.proofs.Common.{arith}
use Rattle.fc_msg.proofs.Writing.{body_fits, body_long, body_over, given_again, given_ok}
use Rattle.fc_msg.proofs.encoding.Encoder.encode.Goals as goal

pub returns-in-Err-clause-long : goal.returns-in-Err-clause-long
returns-in-Err-clause-long c = body_long c.args.message.now c.in-Err.fault c.clear.new.self c.write_body.new.to c.in-Err.ensures

pub returns-then-body-gt-MOST_BODY-clause-long : goal.returns-then-body-gt-MOST_BODY-clause-long
returns-then-body-gt-MOST_BODY-clause-long c = λ _. body_over c.args.message.now c.clear.new.self c.write_body.new.to c.as_slice-body.result.now c.clear.ensures c.in-Ok.ensures c.as_slice-body.ensures (omega (arith, c.if-body-gt-MOST_BODY.true))

pub returns-clause-ok : goal.returns-clause-ok
returns-clause-ok c =
    given_ok c.append.result c.args.message.now c.as_slice-body.result.now c.append.new.into.items c.args.into.now.items c.append.ensures.ok
    (body_fits c.args.message.now c.clear.new.self c.write_body.new.to c.as_slice-body.result.now c.clear.ensures c.in-Ok.ensures c.as_slice-body.ensures (omega (arith, c.if-body-gt-MOST_BODY.false)))

pub returns-clause-again : goal.returns-clause-again
returns-clause-again c =
    given_again c.append.result c.args.message.now c.as_slice-body.result.now c.append.new.into.items c.args.into.now.items c.append.ensures.ok
    (body_fits c.args.message.now c.clear.new.self c.write_body.new.to c.as_slice-body.result.now c.clear.ensures c.in-Ok.ensures c.as_slice-body.ensures (omega (arith, c.if-body-gt-MOST_BODY.false)))
