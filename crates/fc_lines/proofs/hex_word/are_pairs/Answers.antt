use Rattle.std.proofs.Common.{false, refl}
use Rattle.fc_lines.proofs.HexWords.{pairs_stop}
use Rattle.fc_lines.proofs.hex_word.are_pairs.Goals as goal

pub returns-in-None : goal.returns-in-None
returns-in-None c = c.pairs.invariant false (pairs_stop c.in-Some.pair.now c.pairs.rest.now (c.in-Some.ensures.variant.0 refl) c.in-Some.ensures.cases.0 c.in-None.ensures)
