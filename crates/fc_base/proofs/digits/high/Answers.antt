use Rattle.std.proofs.Common.{arith}
use Rattle.fc_base.proofs.Pairs.{high_at}
use Rattle.fc_base.proofs.digits.high.Goals as goal

pub returns : goal.returns
returns c = rw (c.from.ensures) (high_at c.args.byte (omega arith))
