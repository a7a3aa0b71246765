use Rattle.std.proofs.Common.{◌≡◌, drop}
use Rattle.std.specs.List.{list_any}
use Rattle.fc_types.specs.Libraries.{same_instance}
use Rattle.fc_store.proofs.scopes.names.Given as goal

abbrev pub invariant-loop-named : goal.invariant-loop-named
invariant-loop-named l = list_any (same_instance l.pair) (drop l.named-index l.scope) ≡ list_any (same_instance l.pair) l.scope
