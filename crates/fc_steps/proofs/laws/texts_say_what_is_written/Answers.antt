use Rattle.fc_steps.proofs.Saying.{step_said, step_written}
use Rattle.fc_steps.proofs.laws.texts_say_what_is_written.Goals as goal

pub returns-clause-read : goal.returns-clause-read
returns-clause-read c = step_said

pub returns-clause-written : goal.returns-clause-written
returns-clause-written c = step_written
