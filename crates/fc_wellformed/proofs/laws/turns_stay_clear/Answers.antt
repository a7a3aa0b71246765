use Rattle.fc_wellformed.proofs.Controlled.{begins_one_clear, comes_clear, forgets_clear, gives_one_clear, passes_clear, takes_clear}
use Rattle.fc_wellformed.proofs.laws.turns_stay_clear.Goals as goal

pub returns-clause-input : goal.returns-clause-input
returns-clause-input c = takes_clear

pub returns-clause-give_up : goal.returns-clause-give_up
returns-clause-give_up c = gives_one_clear

pub returns-clause-begin : goal.returns-clause-begin
returns-clause-begin c = begins_one_clear

pub returns-clause-forget : goal.returns-clause-forget
returns-clause-forget c = forgets_clear

pub returns-clause-message : goal.returns-clause-message
returns-clause-message c = comes_clear

pub returns-clause-moment : goal.returns-clause-moment
returns-clause-moment c = passes_clear
