use Rattle.std.proofs.Common.{◌≡◌, map, slice_get, take}
use Rattle.fc_store.specs.Scopes.{marks_on}
use Rattle.fc_store.proofs.scopes.depths_of.Given as goal

abbrev pub invariant-loop-place : goal.invariant-loop-place
invariant-loop-place l = l.depths.items ≡ map (λ i. (i, marks_on (slice_get l.instances i))) (take l.place-index l.place-items)
