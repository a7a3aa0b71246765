use Rattle.std.proofs.Common.{◌∙◌, sym, ap}
use Rattle.fc_words.specs.Numbers.{are_hexadecimal}
use Rattle.fc_words.proofs.Hexadecimals.{eight_read}
use Rattle.fc_words.proofs.values.ce_id.Goals as goal

pub returns-in-Err : goal.returns-in-Err
returns-in-Err c =
    let digits = ap are_hexadecimal (sym c.as_bytes.ensures.value) ∙ sym c.are_hexadecimal.ensures ∙ c.if-not-are_hexadecimal.false in
    absurd (c.in-Err.ensures.value (eight_read c.args.word.now c.if-word-ne8.false digits))
