use Rattle.std.proofs.Common.{◌∙◌}
use Rattle.fc_element.proofs.Recorded.{is_told}
use Rattle.fc_element.proofs.live.told_of.Goals as goal

pub invariant_of-result : goal.invariant_of-result
invariant_of-result c =
    is_told _ c.instances.result.now c.ledger-ledger.result.now.records.entries c.ledger-ledger.result.now.records.floor c.pairs.ensures.order c.told_txns.ensures.whole
    (c.in_ok-from_slice.ensures ∙ c.pairs.ensures.same) c.in_ok-told_txns.ensures.exact
