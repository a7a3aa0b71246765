use Rattle.std.proofs.Common.{arith}
use Rattle.fc_base.proofs.Pairs.{low_at}
use Rattle.fc_base.proofs.digits.low.Goals as goal

pub returns : goal.returns
returns c = rw (c.from.ensures) (low_at c.args.byte (omega arith))
