use Rattle.std.proofs.Common.{map, arith}
use Rattle.std.proofs.lemmas.Result.{err_from_is_err_and}
use Rattle.fc_path.specs.Canon.{joined, oper_written}
use Rattle.fc_path.proofs.Closing.{fails_to, joined_more, joined_fails}
use Rattle.fc_path.proofs.write.write_opers.Goals as goal

pub returns-in_err-write_oper : goal.returns-in_err-write_oper
returns-in_err-write_oper c =
    let p = err_from_is_err_and c.from_residual.result c.from_residual.ensures.1 in
    rw (p.1, p.2) (fails_to c.in_err-write_oper.field-0.0 (oper_written c.oper-item.result) (joined (map oper_written c.args.opers.now)) c.loop-oper.to c.write_oper.new.to c.args.to.now c.write_oper.new.to
    (joined_fails oper_written c.args.opers.now c.loop-oper.oper-index c.oper-item.result (omega arith) c.oper-item.is) c.in_err-write_oper.ensures)

pub loop-oper-preserved : goal.loop-oper-preserved
loop-oper-preserved c =
    joined_more oper_written c.args.opers.now c.loop-oper.oper-index c.oper-item.result c.args.to.now c.loop-oper.to c.write_oper.new.to (omega arith) c.oper-item.is c.loop-oper.invariant c.in_ok-write_oper.ensures
