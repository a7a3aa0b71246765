use Rattle.fc_value.proofs.Digits.{digits_4}
use Rattle.fc_value.proofs.number.four_digits.Goals as goal

pub returns : goal.returns
returns c = rw (digits_4 c.args.number) (cc (c.digit.ensures, c.digit-2.ensures, c.digit-3.ensures, c.digit-4.ensures))
