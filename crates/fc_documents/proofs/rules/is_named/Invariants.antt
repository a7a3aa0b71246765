use Rattle.std.proofs.Common.{◌≡◌, map, drop}
use Rattle.std.specs.List.{list_any}
use Rattle.std.specs.Str.{bytes_eq}
use Rattle.fc_documents.specs.Rules.{name_of}
use Rattle.fc_documents.proofs.rules.is_named.Given as goal

abbrev pub invariant-loop-transaction : goal.invariant-loop-transaction
invariant-loop-transaction l = list_any (bytes_eq l.name) (map name_of (drop l.transaction-index l.transactions)) ≡ list_any (bytes_eq l.name) (map name_of l.transactions)
