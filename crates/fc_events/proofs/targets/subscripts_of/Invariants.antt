use Rattle.std.proofs.Common.{◌≡◌, take, map}
use Rattle.fc_events.proofs.targets.subscripts_of.Given as goal

abbrev pub invariant-loop-entry : goal.invariant-loop-entry
invariant-loop-entry l = l.subscripts ≡ map (λ e. e.0) (take l.entry-index l.entries)
