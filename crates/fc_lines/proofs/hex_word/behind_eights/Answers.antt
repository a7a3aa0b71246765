use Rattle.std.proofs.Common.{refl}
use Rattle.fc_lines.proofs.HexWords.{eight_goes}
use Rattle.fc_lines.proofs.hex_word.behind_eights.Goals as goal

pub eights-preserved : goal.eights-preserved
eights-preserved c = λ whole h.
    c.eights.invariant whole (eight_goes c.in-Some.digits.now c.eights.rest.now c.in-Some.more.now c.in-Some-eight_digits.field-0 whole (c.in-Some.ensures.variant.0 refl) c.in-Some.ensures.cases.0 c.in-Some.ensures.cases.1 c.in-Some-eight_digits.ensures h)
