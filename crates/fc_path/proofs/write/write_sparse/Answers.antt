use Rattle.std.proofs.Common.{map}
use Rattle.fc_path.specs.Canon.{joined, ilv_written}
use Rattle.fc_path.proofs.Closing.{holder}
use Rattle.fc_path.proofs.write.write_sparse.Goals as goal

pub returns : goal.returns
returns c =
    holder c.args.to.now c.begin.new.self c.write_ilvs.new.to c.end.new.self (joined (map ilv_written c.args.ilvs.now)) (275) c.in_ok-begun.begun c.end.result c.in_ok-begun.ensures.begun c.in_ok-begun.ensures.ok c.in_ok-write_ilvs.ensures c.end.ensures.tlv c.end.ensures.long
