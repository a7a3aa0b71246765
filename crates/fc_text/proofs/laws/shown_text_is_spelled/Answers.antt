use Rattle.fc_text.proofs.TextLaws.{one_spelled, shown_spelled, spelled_has_text}
use Rattle.fc_text.proofs.laws.shown_text_is_spelled.Goals as goal

pub returns-clause-one : goal.returns-clause-one
returns-clause-one c = one_spelled

pub returns-clause-all : goal.returns-clause-all
returns-clause-all c = shown_spelled

pub returns-clause-only : goal.returns-clause-only
returns-clause-only c = spelled_has_text
