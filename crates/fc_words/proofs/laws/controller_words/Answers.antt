use Rattle.fc_words.proofs.Hexadecimals.{ce_sound, ce_complete}
use Rattle.fc_words.proofs.Meanings.{either_case}
use Rattle.fc_words.proofs.laws.controller_words.Goals as goal

pub returns-clause-spelled : goal.returns-clause-spelled
returns-clause-spelled c n word = (ce_sound n word, λ h. ce_complete n word h.0 h.1)

pub returns-clause-either_case : goal.returns-clause-either_case
returns-clause-either_case c = either_case
