use Rattle.std.proofs.Common.{map, arith}
use Rattle.fc_path.specs.Canon.{joined, select_written}
use Rattle.fc_path.proofs.Closing.{fails_to, joined_more, joined_fails}
use Rattle.fc_msg.proofs.encoding.write_selects.Goals as goal

pub returns-in-Err : goal.returns-in-Err
returns-in-Err c =
    fails_to c.in-Err.fault (select_written c.select-item.result) (joined (map select_written c.args.selects.now)) c.loop-select.to c.write_in_place.new.to c.args.to.now c.write_in_place.new.to
    (joined_fails select_written c.args.selects.now c.loop-select.select-index c.select-item.result (omega arith) c.select-item.is)
    c.in-Err.ensures

pub loop-select-preserved : goal.loop-select-preserved
loop-select-preserved c =
    joined_more select_written c.args.selects.now c.loop-select.select-index c.select-item.result c.args.to.now c.loop-select.to c.write_in_place.new.to (omega arith) c.select-item.is c.loop-select.invariant c.in-Ok.ensures
