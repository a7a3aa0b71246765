use Rattle.std.proofs.Common.{arith}
use Rattle.fc_base.proofs.HexTexts.{hex_text_8}
use Rattle.fc_base.proofs.digits.digits_of_eight.Goals as goal

pub returns : goal.returns
returns c = rw (hex_text_8 c.args.b.now (omega arith)) (cc (c.high.ensures, c.low.ensures, c.high-2.ensures, c.low-2.ensures, c.high-3.ensures, c.low-3.ensures, c.high-4.ensures, c.low-4.ensures, c.high-5.ensures, c.low-5.ensures, c.high-6.ensures, c.low-6.ensures, c.high-7.ensures, c.low-7.ensures, c.high-8.ensures, c.low-8.ensures))
