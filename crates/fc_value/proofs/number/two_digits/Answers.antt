use Rattle.fc_value.proofs.Digits.{digits_2}
use Rattle.fc_value.proofs.number.two_digits.Goals as goal

pub returns : goal.returns
returns c = rw (digits_2 c.args.number) (cc (c.digit.ensures, c.digit-2.ensures))
