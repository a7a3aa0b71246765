use Rattle.std.proofs.Common.{refl, arith}
use Rattle.fc_base.proofs.HexTexts.{hex_text_8}
use Rattle.fc_showing.proofs.Octets.{full_8}
use Rattle.fc_showing.proofs.message.eight_bytes.Goals as goal

pub returns : goal.returns
returns c = rw (full_8 c.args.value.now (omega arith), c.digits_of_eight-d.ensures, hex_text_8 c.args.value.now (omega arith)) refl
