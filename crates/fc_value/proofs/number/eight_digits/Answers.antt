use Rattle.fc_value.proofs.Digits.{digits_8}
use Rattle.fc_value.proofs.number.eight_digits.Goals as goal

pub returns : goal.returns
returns c = rw (digits_8 c.args.number) (cc (c.digit.ensures, c.digit-2.ensures, c.digit-3.ensures, c.digit-4.ensures, c.digit-5.ensures, c.digit-6.ensures, c.digit-7.ensures, c.digit-8.ensures))
