use Rattle.std.proofs.Common.{ap, sym, ◌∙◌, length, List, ℕ}
use Rattle.fc_lines.proofs.HexWords.{paired_length}
use Rattle.fc_lines.proofs.hex_word.HexWord.len.Goals as goal

pub returns : goal.returns
returns c = sym (paired_length c.self.inside.digits.now) ∙ ap (λ (l : List ℕ). length l) c.self.view_is
