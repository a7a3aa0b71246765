use Rattle.fc_text.proofs.Completeness.{one_text, spelled_text_is_read}
use Rattle.fc_text.proofs.SoundMessages.{read_text_is_spelled}
use Rattle.fc_text.proofs.laws.text_is_its_messages.Goals as goal

pub returns-clause-same : goal.returns-clause-same
returns-clause-same c ms bytes = (read_text_is_spelled ms bytes, spelled_text_is_read ms bytes)

pub returns-clause-one : goal.returns-clause-one
returns-clause-one c = one_text
