use Rattle.std.proofs.Common.{◌≡◌, drop}
use Rattle.std.specs.List.{list_all}
use Rattle.fc_types.specs.Types.{names_atom}
use Rattle.fc_types.proofs.type_rules.are_atoms.Given as goal

abbrev pub invariant-loop-id : goal.invariant-loop-id
invariant-loop-id l = list_all (names_atom l.fields) (drop l.id-index l.ids) ≡ list_all (names_atom l.fields) l.ids
