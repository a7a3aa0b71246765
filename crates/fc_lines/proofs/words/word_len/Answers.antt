use Rattle.std.proofs.Common.{arith}
use Rattle.fc_lines.proofs.OpenLines.{plain_more}
use Rattle.fc_lines.proofs.words.word_len.Goals as goal

pub bytes-preserved : goal.bytes-preserved
bytes-preserved c = record {
  within = omega arith;
  plain = plain_more c.bytes.len c.args.bytes.now (omega arith) c.bytes.invariant.plain c.if-bytes-len-ne32.true c.if-bytes-len-ne10.true;
}
