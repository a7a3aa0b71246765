use Rattle.fc_text.proofs.Completeness.{one_body, spelled_body_is_read}
use Rattle.fc_text.proofs.SoundMessages.{read_body_is_spelled}
use Rattle.fc_text.proofs.laws.text_is_its_selects.Goals as goal

pub returns-clause-same : goal.returns-clause-same
returns-clause-same c ss bytes = (read_body_is_spelled ss bytes, spelled_body_is_read ss bytes)

pub returns-clause-one : goal.returns-clause-one
returns-clause-one c = one_body
