use Rattle.std.proofs.Common.{map}
use Rattle.fc_element.specs.ElementState.{told_one, told_txn}
use Rattle.fc_element.proofs.Recorded.{further, told_each, whole}
use Rattle.fc_element.proofs.live.told_txns.Goals as goal

pub loop-place-preserved : goal.loop-place-preserved
loop-place-preserved c = further told_one (map told_txn c.args.records.now.entries) c.args.records.now.entries c.loop-place.place c.loop-place.txns c.push_txn_at.new.txns c.in_ok-push_txn_at.ensures c.loop-place.invariant

pub returns-clause-exact : goal.returns-clause-exact
returns-clause-exact c = whole told_one (map told_txn c.args.records.now.entries) c.args.records.now.entries c.loop-place.place c.len-place-end.result c.loop-place.txns c.len-place-end.ensures.same c.loop-place-test.false c.loop-place.invariant
