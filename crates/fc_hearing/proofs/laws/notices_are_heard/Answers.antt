use Rattle.fc_hearing.proofs.Noticed.{downs_others, moment_others, notices_others, told_others}
use Rattle.fc_hearing.proofs.laws.notices_are_heard.Goals as goal

pub returns-clause-notices : goal.returns-clause-notices
returns-clause-notices c = notices_others

pub returns-clause-behind : goal.returns-clause-behind
returns-clause-behind c = told_others

pub returns-clause-left : goal.returns-clause-left
returns-clause-left c = downs_others

pub returns-clause-moment : goal.returns-clause-moment
returns-clause-moment c = moment_others
