use Rattle.fc_blocks.proofs.Asked.{all_asked}
use Rattle.fc_blocks.proofs.Answering.{told_proper}
use Rattle.fc_blocks.proofs.query.told_selects.Goals as goal

pub query-requires-clause-queried : goal.query-requires-clause-queried
query-requires-clause-queried g c = all_asked c.args.selects.now c.requires.proper.1

pub returns-clause-proper : goal.returns-clause-proper
returns-clause-proper g c = told_proper (g.L.Live.told c.args.live.now) c.args.store.now c.deref.result.now c.args.selects.now c.query.result c.requires.proper c.query.ensures
