use Rattle.std.proofs.Common.{◌≡◌, ◌+◌, length, sym, ap, ◌∙◌, arith, length-take-le}
use Rattle.fc_lines.proofs.LabelWords.{in_front}
use Rattle.fc_lines.proofs.label.Label.sixteen_in_front.Goals as goal

pub returns : goal.returns
returns c =
    let size : length c.in_ok-digits.digits.now ≡ 16 = ap length c.in_ok-digits.ensures.cases.0 ∙ length-take-le 16 c.in_ok-back.back.now (omega (arith, c.in_ok-digits.ensures.cases.2)) in
    in_front c.args.self 16 c.in_ok-number.number (c.len.result + 16) c.args.bytes.now c.in_ok-back.back.now c.in_ok-digits.digits.now c.in_ok-digits.behind.now c.in_ok-back.ensures c.in_ok-digits.ensures.cases.0 c.in_ok-digits.ensures.cases.1 size
    (sym c.in_ok-number.ensures) (c.ends_word.ensures c.if-not-ends_word.false) (omega (arith, c.len.ensures.exact))
