use Rattle.fc_wellformed.proofs.Said.{begin_clear, forget_clear, give_up_clear, plain_clear, resend_clear, step_clear}
use Rattle.fc_wellformed.proofs.laws.masters_stay_clear.Goals as goal

pub returns-clause-step : goal.returns-clause-step
returns-clause-step c = step_clear

pub returns-clause-resend : goal.returns-clause-resend
returns-clause-resend c = resend_clear

pub returns-clause-begin : goal.returns-clause-begin
returns-clause-begin c = begin_clear

pub returns-clause-plain : goal.returns-clause-plain
returns-clause-plain c = plain_clear

pub returns-clause-give_up : goal.returns-clause-give_up
returns-clause-give_up c = give_up_clear

pub returns-clause-forget : goal.returns-clause-forget
returns-clause-forget c = forget_clear
