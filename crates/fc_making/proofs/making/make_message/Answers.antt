use Rattle.fc_making.proofs.WrittenMessages.{fault_refused, long_refused}
use Rattle.fc_making.proofs.making.make_message.Goals as goal

pub returns-in-Err-Fault-clause-refused : goal.returns-in-Err-Fault-clause-refused
returns-in-Err-Fault-clause-refused c = fault_refused c.args.lines.now c.in-Err-Fault.fault c.in-Err-Fault.field-0 c.in-Err-Fault.field-0-is c.in-Err-Fault.ensures.not

pub returns-in-Err-TooLong-clause-refused : goal.returns-in-Err-TooLong-clause-refused
returns-in-Err-TooLong-clause-refused c =
    long_refused c.args.lines.now c.fault_of_long.result c.in-Err-TooLong.field-0 c.again-start.result c.again-start.ensures c.in-Err-TooLong.field-0-is c.in-Err-TooLong.ensures.not c.fault_of_long.ensures
