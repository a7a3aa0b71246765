use Rattle.std.proofs.Common.{◌∙◌, ◌∷◌}
use Rattle.fc_transactions.proofs.Done.{if_codes}
use Rattle.fc_transactions.proofs.saying.answer_first.Goals as goal

pub returns : goal.returns
returns c = if_codes c.args.peer c.args.request.now c.args.selects.now c.as_slice.result.now (c.args.first ∷ c.args.others.now) c.answer.result (c.as_slice.ensures ∙ c.in_ok-codes.ensures) c.answer.ensures
