use Rattle.fc_lfbs.proofs.Held.{held_few}
use Rattle.fc_lfbs.proofs.live.LiveState.mastership.Goals as goal

pub table_of-requires-in_default : goal.table_of-requires-in_default
table_of-requires-in_default c = held_few _ _ c.in_ok-held-in_default.ensures c.self.invariant.transactions
