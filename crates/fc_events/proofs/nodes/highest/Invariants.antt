use Rattle.std.proofs.Common.{◌≡◌, drop, map}
use Rattle.fc_events.specs.Properties.{highest}
use Rattle.fc_events.proofs.nodes.highest.Given as goal

abbrev pub invariant-loop-entry : goal.invariant-loop-entry
invariant-loop-entry l = highest l.last (map (λ e. e.0) (drop l.entry-index l.entries)) ≡ highest 0 (map (λ e. e.0) l.entries)
