use Rattle.std.proofs.Common.{rules}
use Rattle.fc_scripts.proofs.Keeping.{made_is}
use Rattle.fc_scripts.proofs.document.script_in.Goals as goal

pub invariant_of-result : goal.invariant_of-result
invariant_of-result c =
    made_is c.args.table c.in_ok-said.said c.in_ok-library.library c.in_ok-library.instances c.in_ok-transactions.transactions c.in_ok-transactions.steps (search rules)
    c.in_ok-library.ensures.exact c.in_ok-library.ensures.known c.in_ok-library.ensures.own (search rules) (search rules)
