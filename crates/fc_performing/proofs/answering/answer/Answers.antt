use Rattle.fc_performing.proofs.Said.{if_answer}
use Rattle.fc_performing.proofs.answering.answer.Goals as goal

pub returns-clause-proper : goal.returns-clause-proper
returns-clause-proper c = if_answer c.reply.result c.args.request.now c.args.selects.now c.args.codes.now c.requires.proper c.requires.body c.requires.fits c.reply.ensures
