use Rattle.std.proofs.Common.{◌++◌, ◌%◌, ap, ◌∙◌}
use Rattle.std.proofs.lemmas.Int.{to_z-of_z}
use Rattle.fc_value.specs.Numbers.{bits_of}
use Rattle.fc_value.proofs.Digits.{one_byte}
use Rattle.fc_value.proofs.number.write_number.Goals as goal

pub returns-in_ok-push-in-1 : goal.returns-in_ok-push-in-1
returns-in_ok-push-in-1 c =
    c.in_ok-push-in-1.ensures.items
    ∙ ap (λ more. c.args.into.now.items ++ more)
    (one_byte c.args.width c.args.number c.digit.result c.in-1.is (c.digit.ensures ∙ ap (λ n. n % 256) (c.bits_of-bits.ensures ∙ ap bits_of (to_z-of_z _ _ c.ranges.number))))
