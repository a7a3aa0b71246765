use Rattle.std.proofs.Common.{◌≡◌, Some, length, ap, sym, ◌∙◌, arith, length-drop}
use Rattle.fc_lines.proofs.DigitValues.{first_half, halves, last_half}
use Rattle.fc_lines.proofs.values.sixteen_digits.Goals as goal

pub returns-in-Some-eight_digits : goal.returns-in-Some-eight_digits
returns-in-Some-eight_digits c =
    let front = c.halves.result.0.now in
    let back = c.halves.result.1.now in
    let size : length back ≡ 8 = omega (arith, ap length c.halves.ensures.back, length-drop 8 c.args.digits.now, c.told-digits) in
    ap Some (omega (arith, c.from.ensures, c.from-in-Some-eight_digits.ensures))
    ∙ sym (halves c.args.digits.now front back c.halves.ensures.front c.halves.ensures.back c.in-Some.high c.in-Some-eight_digits.low (sym c.eight_digits.ensures ∙ c.in-Some.is) (sym c.eight_digits-in-Some.ensures ∙ c.in-Some-eight_digits.is) size)

pub returns-in-None-eight_digits : goal.returns-in-None-eight_digits
returns-in-None-eight_digits c =
    let front = c.halves.result.0.now in
    let back = c.halves.result.1.now in
    let size : length back ≡ 8 = omega (arith, ap length c.halves.ensures.back, length-drop 8 c.args.digits.now, c.told-digits) in
    sym (last_half c.args.digits.now front back c.halves.ensures.front c.halves.ensures.back c.in-Some.high (sym c.eight_digits.ensures ∙ c.in-Some.is) (sym c.eight_digits-in-Some.ensures ∙ c.in-None-eight_digits.is) size)

pub returns-in-None : goal.returns-in-None
returns-in-None c = sym (first_half c.args.digits.now c.halves.result.0.now c.halves.result.1.now c.halves.ensures.front c.halves.ensures.back (sym c.eight_digits.ensures ∙ c.in-None.is))
