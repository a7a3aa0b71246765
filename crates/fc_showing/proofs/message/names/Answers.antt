use Rattle.std.proofs.Common.{refl}
use Rattle.fc_base.proofs.Hexes.{hex_8}
use Rattle.fc_text.specs.Text.{select_line}
use Rattle.fc_showing.proofs.message.names.Goals as goal

pub returns : goal.returns
unfolding select_line
returns c = rw (c.eight_digits-class.ensures, c.eight_digits-instance.ensures, hex_8 c.args.class, hex_8 c.args.instance) refl
