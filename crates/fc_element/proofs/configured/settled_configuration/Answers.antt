use Rattle.fc_element.proofs.Unheld.{changes_bare}
use Rattle.fc_element.proofs.configured.settled_configuration.Goals as goal

pub returns-then-is_empty : goal.returns-then-is_empty
returns-then-is_empty c = changes_bare c.args.ledger.now c.configuration_of.result (c.is_empty.ensures.0 c.if-is_empty.true) c.configuration_of.ensures
