use Rattle.std.proofs.Common.{◌∙◌}
use Rattle.fc_holding.proofs.Recorded.{scope_found, scope_none}
use Rattle.fc_holding.proofs.held.scope_of.Goals as goal

pub returns-in-Some : goal.returns-in-Some
returns-in-Some c = c.scope_at.ensures ∙ scope_found c.args.txn c.args.records.now.entries c.in-Some.at c.in-Some.ensures

pub returns-in-None : goal.returns-in-None
returns-in-None c = scope_none c.args.txn c.args.records.now.entries c.in-None.ensures
