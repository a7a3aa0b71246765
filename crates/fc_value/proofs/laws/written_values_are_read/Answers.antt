use Rattle.fc_value.proofs.Complete.{full_read}
use Rattle.fc_value.proofs.Written.{full_canon}
use Rattle.fc_value.specs.Writing.{full_bytes}
use Rattle.fc_value.proofs.laws.written_values_are_read.Goals as goal

pub returns-clause-form : goal.returns-clause-form
returns-clause-form c = λ ty v s h. full_canon ty v s h

pub returns-clause-again : goal.returns-clause-again
returns-clause-again c = λ ty v s h. full_read ty v (full_bytes ty v) (full_canon ty v s h)
