use Rattle.std.proofs.Common.{sym}
use Rattle.fc_world.proofs.Counting.{count_is}
use Rattle.fc_world.proofs.sent.count.Goals as goal

pub returns-in-Some : goal.returns-in-Some
returns-in-Some c = count_is c.args.batches.now c.in-Some.last.now c.len.result c.saturating_add.result c.len.ensures c.saturating_add.ensures (sym c.in-Some.ensures.value)
