use Rattle.std.proofs.Common.{◌≡◌, ◌++◌, drop}
use Rattle.fc_store.specs.Stores.{places_in}
use Rattle.fc_store.proofs.scopes.places_of.Given as goal

abbrev pub invariant-loop-place : goal.invariant-loop-place
invariant-loop-place l = l.places.items ++ places_in l.scope l.place (drop l.place l.pairs) ≡ places_in l.scope 0 l.pairs
