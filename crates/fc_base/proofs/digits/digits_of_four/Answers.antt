use Rattle.std.proofs.Common.{arith}
use Rattle.fc_base.proofs.HexTexts.{hex_text_4}
use Rattle.fc_base.proofs.digits.digits_of_four.Goals as goal

pub returns : goal.returns
returns c = rw (hex_text_4 c.args.b.now (omega arith)) (cc (c.high.ensures, c.low.ensures, c.high-2.ensures, c.low-2.ensures, c.high-3.ensures, c.low-3.ensures, c.high-4.ensures, c.low-4.ensures))
