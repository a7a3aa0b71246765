use Rattle.std.proofs.Common.{arith, ◌∙◌, sym}
use Rattle.std.proofs.lemmas.List.{length-take-le, get_or-take}
use Rattle.fc_wire.proofs.Numbers.{two_at, four_at, eight_at, two_of_front, four_of_front, eight_of_front}
use Rattle.fc_wire.proofs.header.Header.read.Goals as goal

pub returns-clause-header : goal.returns-clause-header
returns-clause-header c =
    let xs = c.args.bytes.now in
    record {
      size = length-take-le 24 xs c.requires;
      version = rw (get_or-take 24 xs 0 0 (omega arith)) c.if-bytes-ne1.false;
      kind = sym (get_or-take 24 xs 1 0 (omega arith));
      words = c.read_u16-words.ensures ∙ two_at xs 2 ∙ sym (two_of_front 24 xs 2 (omega arith));
      source = c.read_u32.ensures ∙ four_at xs 4 ∙ sym (four_of_front 24 xs 4 (omega arith));
      dest = c.read_u32-2.ensures ∙ four_at xs 8 ∙ sym (four_of_front 24 xs 8 (omega arith));
      correlator = c.read_u64.ensures ∙ eight_at xs 12 ∙ sym (eight_of_front 24 xs 12 (omega arith));
      flags = rw (four_of_front 24 xs 20 (omega arith), ← four_at xs 20, ← c.read_u32-3.ensures) c.from_word.ensures;
    }

pub returns-clause-words : goal.returns-clause-words
returns-clause-words c = c.read_u16-words.ensures ∙ two_at c.args.bytes.now 2
