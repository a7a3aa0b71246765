use Rattle.std.proofs.Common.{◌≡◌, drop}
use Rattle.std.specs.List.{list_all}
use Rattle.fc_documents.specs.Rules.{has_name}
use Rattle.fc_documents.proofs.rules.all_have_names.Given as goal

abbrev pub invariant-loop-transaction : goal.invariant-loop-transaction
invariant-loop-transaction l = list_all has_name (drop l.transaction-index l.transactions) ≡ list_all has_name l.transactions
