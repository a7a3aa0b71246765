use Rattle.fc_path.specs.Canon.{result_written}
use Rattle.fc_path.proofs.Closing.{holder}
use Rattle.fc_path.proofs.write.write_response.Goals as goal

pub returns : goal.returns
returns c =
    holder c.args.to.now c.begin.new.self c.write_outcome.new.to c.end.new.self (result_written c.args.code) (13) c.in_ok-begun.begun c.end.result c.in_ok-begun.ensures.begun c.in_ok-begun.ensures.ok c.in_ok-write_outcome.ensures c.end.ensures.tlv c.end.ensures.long
