use Rattle.std.proofs.Common.{◌≡◌, map, length}
use Rattle.std.specs.Str.{bytes_eq}
use Rattle.fc_types.specs.Ids.{is_distinct}
use Rattle.fc_documents.specs.Rules.{name_of}
use Rattle.fc_documents.proofs.rules.differ_in_names.Given as goal

abbrev pub invariant-loop-rest : goal.invariant-loop-rest
invariant-loop-rest l = is_distinct bytes_eq (map name_of l.rest) ≡ is_distinct bytes_eq (map name_of l.transactions)

abbrev pub decreases-loop-rest : goal.decreases-loop-rest
decreases-loop-rest l = length l.rest
