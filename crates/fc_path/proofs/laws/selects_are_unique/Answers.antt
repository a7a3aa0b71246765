use Rattle.fc_path.proofs.SelectLaws.{once, once_bytes}
use Rattle.fc_path.proofs.laws.selects_are_unique.Goals as goal

pub returns-clause-tlv : goal.returns-clause-tlv
returns-clause-tlv c = once

pub returns-clause-bytes : goal.returns-clause-bytes
returns-clause-bytes c = once_bytes
