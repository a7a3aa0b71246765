use Rattle.fc_numbering.proofs.Keeping.{begin_speaks, finish_speaks, forget_speaks, give_up_speaks, hear_speaks, plain_speaks, resend_numbered}
use Rattle.fc_numbering.proofs.laws.masters_stay_in_numbers.Goals as goal

pub returns-clause-go_on : goal.returns-clause-go_on
returns-clause-go_on c = finish_speaks

pub returns-clause-hear : goal.returns-clause-hear
returns-clause-hear c = hear_speaks

pub returns-clause-resend : goal.returns-clause-resend
returns-clause-resend c = resend_numbered

pub returns-clause-begin : goal.returns-clause-begin
returns-clause-begin c = begin_speaks

pub returns-clause-plain : goal.returns-clause-plain
returns-clause-plain c = plain_speaks

pub returns-clause-give_up : goal.returns-clause-give_up
returns-clause-give_up c = give_up_speaks

pub returns-clause-forget : goal.returns-clause-forget
returns-clause-forget c = forget_speaks
