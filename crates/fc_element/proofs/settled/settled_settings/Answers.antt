use Rattle.fc_element.proofs.Unheld.{given_bare}
use Rattle.fc_element.proofs.settled.settled_settings.Goals as goal

pub returns-then-is_empty : goal.returns-then-is_empty
returns-then-is_empty c = given_bare c.args.ledger.now c.settings_in.result (c.is_empty.ensures.0 c.if-is_empty.true) c.settings_in.ensures
