use Rattle.std.proofs.Common.{Ok}
use Rattle.fc_making.proofs.WrittenMessages.{heartbeat_content, holding_content, reason_content, result_content, setup_content}
use Rattle.fc_making.proofs.write_message.write_content.Goals as goal

pub returns-then-kind-eq-HEARTBEAT-clause-exact : goal.returns-then-kind-eq-HEARTBEAT-clause-exact
returns-then-kind-eq-HEARTBEAT-clause-exact c = heartbeat_content c.args.kind c.args.lines.now c.args.lines.now c.args.to.now c.args.to.now (Ok tt) c.if-kind-eq-HEARTBEAT.true

pub returns-then-kind-eq-SETUP_RESPONSE-clause-exact : goal.returns-then-kind-eq-SETUP_RESPONSE-clause-exact
returns-then-kind-eq-SETUP_RESPONSE-clause-exact c =
    result_content c.args.kind c.args.lines.now c.write_number_line.new.lines c.args.to.now c.write_number_line.new.to c.write_number_line.result c.if-kind-eq-SETUP_RESPONSE.true c.write_number_line.ensures.exact

pub returns-then-kind-eq-TEARDOWN-clause-exact : goal.returns-then-kind-eq-TEARDOWN-clause-exact
returns-then-kind-eq-TEARDOWN-clause-exact c =
    let number = c.write_number_line-then-kind-eq-TEARDOWN in
    reason_content c.args.kind c.args.lines.now number.new.lines c.args.to.now number.new.to number.result c.if-kind-eq-TEARDOWN.true number.ensures.exact

pub returns-then-kind-eq-SETUP-clause-exact : goal.returns-then-kind-eq-SETUP-clause-exact
returns-then-kind-eq-SETUP-clause-exact c =
    setup_content c.args.kind c.args.lines.now c.write_selects.new.lines c.args.to.now c.write_selects.new.to c.write_selects.result c.if-kind-eq-SETUP.true c.write_selects.ensures.exact

pub returns-clause-exact : goal.returns-clause-exact
returns-clause-exact c =
    holding_content c.args.kind c.args.lines.now c.write_some_selects.new.lines c.args.to.now c.write_some_selects.new.to c.write_some_selects.result c.if-kind-eq-HEARTBEAT.false c.if-kind-eq-SETUP_RESPONSE.false c.if-kind-eq-TEARDOWN.false
    c.if-kind-eq-SETUP.false c.write_some_selects.ensures.exact
