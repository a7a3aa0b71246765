use Rattle.std.proofs.Common.{refl}
use Rattle.fc_base.proofs.Hexes.{hex_16, hex_8}
use Rattle.fc_wire.specs.Header.{word_of}
use Rattle.fc_text.specs.Text.{fields_text}
use Rattle.fc_showing.proofs.message.fields.Goals as goal

pub returns : goal.returns
unfolding fields_text
returns c =
    let m = c.args.message.now in
    rw (c.eight_digits-source.ensures, c.eight_digits-dest.ensures, c.sixteen_digits-corr.ensures, c.eight_digits-flags.ensures, c.word.ensures, hex_8 m.source, hex_8 m.dest, hex_16 m.corr, hex_8 (word_of m.flags)) refl
