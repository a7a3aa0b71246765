use Rattle.std.proofs.Common.{◌≡◌, drop}
use Rattle.fc_protocol.specs.Collections.{among}
use Rattle.fc_holding.proofs.naming.is_among.Given as goal

abbrev pub invariant-loop-word : goal.invariant-loop-word
invariant-loop-word l = among l.id (drop l.word-index l.words) ≡ among l.id l.words
