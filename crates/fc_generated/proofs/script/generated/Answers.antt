use Rattle.std.proofs.Common.{rules}
use Rattle.fc_generated.proofs.Keeping.{keeps, made_is}
use Rattle.fc_generated.proofs.script.generated.Goals as goal

pub invariant_of-result : goal.invariant_of-result
invariant_of-result c =
    keeps c.args.count _ (search rules)
    (made_is c.args.count c.in_ok-library.library c.in_ok-library.instances c.in_ok-elements.elements c.in_ok-controllers.controllers c.in_ok-transactions.transactions c.in_ok-steps.steps
    c.in_ok-library.ensures.classes c.in_ok-library.ensures.instances c.in_ok-elements.ensures c.in_ok-controllers.ensures c.in_ok-transactions.ensures c.in_ok-steps.ensures)

pub returns : goal.returns
returns c =
    made_is c.args.count c.in_ok-library.library c.in_ok-library.instances c.in_ok-elements.elements c.in_ok-controllers.controllers c.in_ok-transactions.transactions c.in_ok-steps.steps
    c.in_ok-library.ensures.classes c.in_ok-library.ensures.instances c.in_ok-elements.ensures c.in_ok-controllers.ensures c.in_ok-transactions.ensures c.in_ok-steps.ensures
