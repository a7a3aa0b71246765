use Rattle.std.proofs.Common.{ap, sym, ◌∙◌, length, List, ℕ}
use Rattle.fc_lines.proofs.IdWords.{numbers_length}
use Rattle.fc_lines.proofs.numbers.Numbers.len.Goals as goal

pub returns : goal.returns
returns c = sym (numbers_length c.self.inside.count c.self.inside.words.0.words c.self.invariant) ∙ ap (λ (l : List ℕ). length l) c.self.view_is
