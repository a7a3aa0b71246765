use Rattle.std.proofs.Common.{◌≡◌, drop, map}
use Rattle.fc_events.specs.Properties.{first_unused}
use Rattle.fc_events.proofs.nodes.first_unused.Given as goal

abbrev pub invariant-loop-at : goal.invariant-loop-at
invariant-loop-at l = first_unused l.at (map (λ e. e.0) (drop l.at l.entries)) ≡ first_unused 0 (map (λ e. e.0) l.entries)
