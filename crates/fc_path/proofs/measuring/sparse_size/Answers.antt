use Rattle.std.proofs.Common.{arith}
use Rattle.fc_path.proofs.Measures.{sparse_fails, sparse_over, sparse_sized}
use Rattle.fc_path.proofs.measuring.sparse_size.Goals as goal

pub returns-then-size-gt-VALUE : goal.returns-then-size-gt-VALUE
returns-then-size-gt-VALUE c = sparse_over c.args.ilvs.now c.in-Some.size c.in-Some.ensures (omega arith)

pub returns-else-size-gt-VALUE : goal.returns-else-size-gt-VALUE
returns-else-size-gt-VALUE c = sparse_sized c.args.ilvs.now c.in-Some.size c.in-Some.ensures (omega arith)

pub returns-in-None : goal.returns-in-None
returns-in-None c = sparse_fails c.args.ilvs.now c.in-None.ensures
