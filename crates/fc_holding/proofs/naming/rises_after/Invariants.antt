use Rattle.std.proofs.Common.{◌≡◌, drop}
use Rattle.fc_protocol.specs.Scopes.{rises_after}
use Rattle.fc_holding.proofs.naming.rises_after.Given as goal

abbrev pub invariant-loop-place : goal.invariant-loop-place
invariant-loop-place l = rises_after l.last (drop l.place-index l.rest) ≡ rises_after l.fn.first l.rest
