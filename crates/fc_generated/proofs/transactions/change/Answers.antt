use Rattle.std.proofs.Common.{rules}
use Rattle.fc_generated.proofs.Fitting.{is_never_refused}
use Rattle.fc_generated.proofs.transactions.change.Goals as goal

pub unreachable-requires : goal.unreachable-requires
unreachable-requires c =
    is_never_refused c.args.number c.args.element c.in_ok-selects.field-0 c.in-Err.fault c.in_ok-selects.ensures c.in-Err.ensures.refused (search rules)
