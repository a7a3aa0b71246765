use Rattle.std.proofs.Common.{◌∙◌, sym, ap}
use Rattle.fc_words.specs.Numbers.{begins_without_zero}
use Rattle.fc_words.proofs.Decimals.{read_is, none_other}
use Rattle.fc_words.proofs.values.decimal_up_to.Goals as goal

pub returns-then-begins_without_zero : goal.returns-then-begins_without_zero
returns-then-begins_without_zero c =
    let begins = ap begins_without_zero (sym c.as_bytes.ensures.value) ∙ sym c.begins_without_zero.ensures ∙ c.if-begins_without_zero.true in
    c.at_most.ensures ∙ sym (read_is c.args.most c.args.word.now c.from_str_radix.result c.ranges.most.fits begins c.from_str_radix.ensures.value)

pub returns-else-begins_without_zero : goal.returns-else-begins_without_zero
returns-else-begins_without_zero c =
    let begins = ap begins_without_zero (sym c.as_bytes.ensures.value) ∙ sym c.begins_without_zero.ensures ∙ c.if-begins_without_zero.false in
    sym (none_other c.args.most c.args.word.now c.ranges.most.fits begins)
