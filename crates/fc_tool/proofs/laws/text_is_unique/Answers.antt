use Rattle.fc_tool.proofs.Texts.{same_text}
use Rattle.fc_tool.proofs.laws.text_is_unique.Goals as goal

pub returns : goal.returns
returns c = same_text
