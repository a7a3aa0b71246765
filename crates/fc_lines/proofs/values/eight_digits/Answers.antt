use Rattle.std.proofs.Common.{ap, sym, ◌∙◌, Some, arith}
use Rattle.fc_lines.proofs.DigitValues.{are_digits, eight_number, eight_sum, no_digits}
use Rattle.fc_lines.proofs.values.eight_digits.Goals as goal

pub returns-then-a-b-gt240 : goal.returns-then-a-b-gt240
returns-then-a-b-gt240 c =
    sym (no_digits 0 c.args.digits.now (omega (arith, c.told-digits))
    (omega (arith, eight_sum c.args.digits.now c.told-digits, c.if-a-b-gt240.true, c.digit-a.ensures.exact, c.digit-b.ensures.exact, c.digit-c.ensures.exact, c.digit-d.ensures.exact, c.digit-e.ensures.exact, c.digit-f.ensures.exact, c.digit-g.ensures.exact, c.digit-h.ensures.exact)))

pub overflow_cast-result : goal.overflow_cast-result
overflow_cast-result c =
    omega (arith, c.if-a-b-gt240.false, c.digit-a.ensures.gap, c.digit-b.ensures.gap, c.digit-c.ensures.gap, c.digit-d.ensures.gap, c.digit-e.ensures.gap, c.digit-f.ensures.gap, c.digit-g.ensures.gap, c.digit-h.ensures.gap, c.joined.ensures, c.joined-2.ensures)

pub returns : goal.returns
returns c =
    ap Some (omega (arith, eight_number c.args.digits.now c.told-digits, c.joined.ensures, c.joined-2.ensures, c.digit-a.ensures.exact, c.digit-b.ensures.exact, c.digit-c.ensures.exact, c.digit-d.ensures.exact, c.digit-e.ensures.exact, c.digit-f.ensures.exact, c.digit-g.ensures.exact, c.digit-h.ensures.exact))
    ∙ sym (are_digits 0 c.args.digits.now
    (omega (arith, eight_sum c.args.digits.now c.told-digits, c.if-a-b-gt240.false, c.digit-a.ensures.exact, c.digit-b.ensures.exact, c.digit-c.ensures.exact, c.digit-d.ensures.exact, c.digit-e.ensures.exact, c.digit-f.ensures.exact, c.digit-g.ensures.exact, c.digit-h.ensures.exact)))
