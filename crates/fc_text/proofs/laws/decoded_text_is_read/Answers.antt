use Rattle.fc_msg.proofs.Reading.{proper}
use Rattle.fc_text.proofs.SpelledRanges.{spelled_has_text}
use Rattle.fc_text.proofs.TextLaws.{one_read}
use Rattle.fc_text.proofs.laws.decoded_text_is_read.Goals as goal

pub returns-clause-text : goal.returns-clause-text
returns-clause-text c m bytes fine is fits = spelled_has_text m bytes fine is (proper m bytes fine is) fits

pub returns-clause-read : goal.returns-clause-read
returns-clause-read c m bytes fine is fits = one_read m (spelled_has_text m bytes fine is (proper m bytes fine is) fits)
