use Rattle.std.proofs.Common.{◌≡◌}
use Rattle.fc_tx.specs.Records.{AreSettled}
use Rattle.fc_tx.proofs.kept.Kept.settled_first.Given as goal

abbrev pub invariant-loop-at : goal.invariant-loop-at
invariant-loop-at l = record { at : l.place ≡ l.at; settled : AreSettled l.place l.self }
