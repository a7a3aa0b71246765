use Rattle.std.proofs.Common.{◌+◌, ◌*◌, sym, subst, arith}
use Rattle.fc_lines.specs.LineWords.{Digits}
use Rattle.fc_lines.proofs.FrontDigits.{more_digits, no_digits, room}
use Rattle.fc_lines.proofs.front.digits_in_front.Goals as goal

pub digits-init : goal.digits-init
digits-init c = no_digits c.args.bytes.now

pub overflow_mul-number : goal.overflow_mul-number
overflow_mul-number c = omega (arith, room c.digits.number c.digits.len c.digits.invariant.small c.if-len-lt9.true)

pub overflow_add-number : goal.overflow_add-number
overflow_add-number c = omega (arith, room c.digits.number c.digits.len c.digits.invariant.small c.if-len-lt9.true, c.from.ensures, c.if-bytes-len-le57.true)

pub digits-preserved : goal.digits-preserved
digits-preserved c =
    subst (λ d. Digits c.args.bytes.now (c.digits.number * 10 + d) (c.digits.len + 1)) (sym c.from.ensures)
    (more_digits c.args.bytes.now c.digits.number c.digits.len c.digits.invariant c.digits-test.true c.if-len-lt9.true c.if-bytes-len-ge48.true c.if-bytes-len-le57.true)
