use Rattle.std.proofs.Common.{◌∙◌, ◌∷◌, ap}
use Rattle.fc_reply.specs.Counting.{each_gets}
use Rattle.fc_transactions.proofs.Done.{if_codes}
use Rattle.fc_transactions.proofs.saying.refuse.Goals as goal

pub returns : goal.returns
returns c =
    if_codes c.args.peer c.args.request.now c.args.selects.now (c.args.code ∷ c.as_slice.result.now) (c.args.code ∷ each_gets 255 c.args.rest.now) c.answer_first.result
    (ap (λ cs. c.args.code ∷ cs) (c.as_slice.ensures ∙ c.in_ok-others.ensures)) c.answer_first.ensures
