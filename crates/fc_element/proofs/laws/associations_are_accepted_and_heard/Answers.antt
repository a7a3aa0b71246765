use Rattle.fc_element.proofs.Runs.{was_accepted, was_heard}
use Rattle.fc_element.proofs.laws.associations_are_accepted_and_heard.Goals as goal

pub returns-clause-accepted : goal.returns-clause-accepted
returns-clause-accepted c = was_accepted

pub returns-clause-heard : goal.returns-clause-heard
returns-clause-heard c = was_heard
