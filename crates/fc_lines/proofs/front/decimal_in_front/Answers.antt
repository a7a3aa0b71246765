use Rattle.std.proofs.Common.{◌≢◌, ◌<◌, get_or, subst, arith}
use Rattle.fc_lines.specs.LineWords.{EndsWord}
use Rattle.fc_lines.proofs.FrontDigits.{decimal_word}
use Rattle.fc_lines.proofs.front.decimal_in_front.Goals as goal
use Rattle.fc_lines.proofs.front.decimal_in_front.Goals.{else-len-gt1-via-then-len-gt1+else-bytes-eq48, else-len-gt1-via-else-len-gt1}

pub returns : goal.returns
returns c =
    let d = c.digits_in_front-number.ensures in
    let first : 1 < c.digits_in_front-number.result.1 → get_or c.args.bytes.now 0 0 ≢ 48 =
    elim c.else-len-gt1.branch [ else-len-gt1-via-then-len-gt1+else-bytes-eq48 w ↦ λ _. w.if-bytes-eq48.false | else-len-gt1-via-else-len-gt1 w ↦ λ (h : 1 < c.digits_in_front-number.result.1). absurd (omega (arith, h, w.if-len-gt1.false)) ] in (
      d.within,
      d.plain,
      subst EndsWord c.split_at.ensures.back (c.ends_word.ensures c.if-not-ends_word.false),
      decimal_word c.args.bytes.now c.digits_in_front-number.result.0 c.digits_in_front-number.result.1 d c.if-len-eq0.false first,
    )
