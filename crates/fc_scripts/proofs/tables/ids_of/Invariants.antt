use Rattle.std.proofs.Common.{◌≡◌, ◌++◌, map, drop}
use Rattle.fc_scripts.specs.Tables.{id_of}
use Rattle.fc_scripts.proofs.tables.ids_of.Given as goal

abbrev pub invariant-loop-element : goal.invariant-loop-element
invariant-loop-element l = l.ids ++ map id_of (drop l.element-index l.elements) ≡ map id_of l.elements
