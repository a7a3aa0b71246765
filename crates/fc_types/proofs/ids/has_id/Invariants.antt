use Rattle.std.proofs.Common.{◌≡◌, ◌==◌, map, drop}
use Rattle.std.specs.List.{list_any}
use Rattle.fc_types.proofs.ids.has_id.Given as goal

abbrev pub invariant-loop-item : goal.invariant-loop-item
invariant-loop-item g l = list_any (λ x. l.id == x) (map g.T.Identified.id_of (drop l.item-index l.items)) ≡ list_any (λ x. l.id == x) (map g.T.Identified.id_of l.items)
