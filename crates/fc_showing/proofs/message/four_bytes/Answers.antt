use Rattle.std.proofs.Common.{refl, arith}
use Rattle.fc_base.proofs.HexTexts.{hex_text_4}
use Rattle.fc_showing.proofs.Octets.{full_4}
use Rattle.fc_showing.proofs.message.four_bytes.Goals as goal

pub returns : goal.returns
returns c = rw (full_4 c.args.value.now (omega arith), c.digits_of_four-d.ensures, hex_text_4 c.args.value.now (omega arith)) refl
