use Rattle.std.proofs.Common.{◌≡◌, drop}
use Rattle.std.specs.List.{list_any}
use Rattle.fc_holding.specs.Held.{takes}
use Rattle.fc_holding.proofs.held.is_taken.Given as goal

abbrev pub invariant-loop-at : goal.invariant-loop-at
invariant-loop-at l = list_any (takes l.place) l.records.entries ≡ list_any (takes l.place) (drop l.at l.records.entries)
