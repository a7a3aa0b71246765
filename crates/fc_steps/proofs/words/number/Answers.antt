use Rattle.std.proofs.Common.{◌∙◌, sym, ap}
use Rattle.fc_steps.specs.Words.{begins_like_a_number}
use Rattle.fc_steps.proofs.Numbers.{read_is, none_other}
use Rattle.fc_steps.proofs.words.number.Goals as goal

pub returns-then-begins_like_a_number : goal.returns-then-begins_like_a_number
returns-then-begins_like_a_number c =
    let begins = ap begins_like_a_number (sym c.as_bytes.ensures.value) ∙ sym c.begins_like_a_number.ensures ∙ c.if-begins_like_a_number.true in
    c.in_range.ensures ∙ sym (read_is c.args.low c.args.most c.args.word.now c.from_str_radix.result c.ranges.most.fits begins c.from_str_radix.ensures.value)

pub returns-else-begins_like_a_number : goal.returns-else-begins_like_a_number
returns-else-begins_like_a_number c =
    let begins = ap begins_like_a_number (sym c.as_bytes.ensures.value) ∙ sym c.begins_like_a_number.ensures ∙ c.if-begins_like_a_number.false in
    sym (none_other c.args.low c.args.most c.args.word.now c.ranges.most.fits begins)
