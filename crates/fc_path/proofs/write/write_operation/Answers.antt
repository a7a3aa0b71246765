use Rattle.std.proofs.Common.{map}
use Rattle.fc_path.specs.Canon.{joined, path_written}
use Rattle.fc_path.proofs.Closing.{holder}
use Rattle.fc_path.proofs.write.write_operation.Goals as goal

pub returns : goal.returns
returns c =
    holder c.args.to.now c.begin.new.self c.write_paths.new.to c.end.new.self (joined (map path_written c.args.paths.now)) (c.args.kind) c.in_ok-begun.begun c.end.result c.in_ok-begun.ensures.begun c.in_ok-begun.ensures.ok c.in_ok-write_paths.ensures c.end.ensures.tlv c.end.ensures.long
