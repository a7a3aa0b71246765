use Rattle.std.proofs.Common.{map, arith}
use Rattle.std.proofs.lemmas.Result.{err_from_is_err_and}
use Rattle.fc_path.specs.Canon.{joined, ilv_written}
use Rattle.fc_path.proofs.Closing.{fails_to, joined_more, joined_fails}
use Rattle.fc_path.proofs.write.write_ilvs.Goals as goal

pub returns-in_err-write_ilv : goal.returns-in_err-write_ilv
returns-in_err-write_ilv c =
    let p = err_from_is_err_and c.from_residual.result c.from_residual.ensures.1 in
    rw (p.1, p.2) (fails_to c.in_err-write_ilv.field-0.0 (ilv_written c.ilv-item.result) (joined (map ilv_written c.args.ilvs.now)) c.loop-ilv.to c.write_ilv.new.to c.args.to.now c.write_ilv.new.to
    (joined_fails ilv_written c.args.ilvs.now c.loop-ilv.ilv-index c.ilv-item.result (omega arith) c.ilv-item.is) c.in_err-write_ilv.ensures)

pub loop-ilv-preserved : goal.loop-ilv-preserved
loop-ilv-preserved c =
    joined_more ilv_written c.args.ilvs.now c.loop-ilv.ilv-index c.ilv-item.result c.args.to.now c.loop-ilv.to c.write_ilv.new.to (omega arith) c.ilv-item.is c.loop-ilv.invariant c.in_ok-write_ilv.ensures
