use Rattle.fc_blocks.proofs.Answering.{foreign_proper}
use Rattle.fc_blocks.proofs.query.foreign_selects.Goals as goal

pub returns-clause-proper : goal.returns-clause-proper
returns-clause-proper c = foreign_proper c.args.selects.now _ c.answered_selects.result c.requires.proper c.answered_selects.ensures
