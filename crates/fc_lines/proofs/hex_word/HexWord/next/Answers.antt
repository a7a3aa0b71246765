use Rattle.std.proofs.Common.{refl}
use Rattle.fc_lines.proofs.HexWords.{behind_two}
use Rattle.fc_lines.proofs.hex_word.HexWord.next.Goals as goal

pub invariant_of-self : goal.invariant_of-self
invariant_of-self c = behind_two c.self.inside.digits.now c.in-Some.rest.now (c.in-Some.ensures.variant.0 refl) c.in-Some.ensures.cases.1 c.self.invariant
