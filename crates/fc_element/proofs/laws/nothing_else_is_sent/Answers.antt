use Rattle.fc_element.proofs.Sent.{all_called, sent_each}
use Rattle.fc_element.proofs.laws.nothing_else_is_sent.Goals as goal

pub returns-clause-each : goal.returns-clause-each
returns-clause-each c = λ s before behind i. sent_each s before behind i

pub returns-clause-only : goal.returns-clause-only
returns-clause-only c = λ s is. all_called s is
