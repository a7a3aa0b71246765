use Rattle.std.proofs.Common.{refl, sym, ◌∙◌}
use Rattle.fc_lines.proofs.HexWords.{behind_eight, eight_told, next_eight}
use Rattle.fc_lines.proofs.hex_word.HexWord.next_four.Goals as goal

pub returns-in-Some-eight_digits-clause-some : goal.returns-in-Some-eight_digits-clause-some
returns-in-Some-eight_digits-clause-some c =
    sym c.self.view_is
    ∙ next_eight c.in-Some.digits.now c.self.inside.digits.now c.in-Some.rest.now c.in-Some-eight_digits.number (c.in-Some.ensures.variant.0 refl) c.in-Some.ensures.cases.0 c.in-Some.ensures.cases.1 c.in-Some-eight_digits.ensures

pub invariant_of-self : goal.invariant_of-self
invariant_of-self c =
    behind_eight c.in-Some.digits.now c.self.inside.digits.now c.in-Some.rest.now (c.in-Some.ensures.variant.0 refl) c.in-Some.ensures.cases.0 c.in-Some.ensures.cases.1 c.self.invariant

pub returns-in-None-eight_digits-clause-fewer : goal.returns-in-None-eight_digits-clause-fewer
returns-in-None-eight_digits-clause-fewer c =
    absurd (eight_told c.in-Some.digits.now c.self.inside.digits.now c.in-Some.rest.now (c.in-Some.ensures.variant.0 refl) c.in-Some.ensures.cases.0 c.in-Some.ensures.cases.1 c.in-None-eight_digits.ensures c.self.invariant)
