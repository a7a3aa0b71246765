use Rattle.std.proofs.Common.{◌≡◌, ◌==◌, drop, find}
use Rattle.fc_store.proofs.store.depth_at.Given as goal

abbrev pub invariant-loop-mark : goal.invariant-loop-mark
invariant-loop-mark l = find (λ m. m.0 == l.place) (drop l.mark-index l.places) ≡ find (λ m. m.0 == l.place) l.places
