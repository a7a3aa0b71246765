use Rattle.std.proofs.Common.{◌≡◌, ◌==◌, drop}
use Rattle.std.specs.List.{find}
use Rattle.fc_types.proofs.ids.with_id.Given as goal

abbrev pub invariant-loop-item : goal.invariant-loop-item
invariant-loop-item g l = find (λ x. g.T.Identified.id_of x == l.id) (drop l.item-index l.items) ≡ find (λ x. g.T.Identified.id_of x == l.id) l.items
