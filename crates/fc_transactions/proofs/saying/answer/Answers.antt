use Rattle.fc_transactions.proofs.Done.{if_answered}
use Rattle.fc_transactions.proofs.saying.answer.Goals as goal

pub returns : goal.returns
returns c =
    if_answered c.args.peer c.args.request.now c.args.selects.now c.args.codes.now c.responses.result c.responses.ensures.outs c.responses.ensures.said c.responses.ensures.reply c.responses.ensures.proper
