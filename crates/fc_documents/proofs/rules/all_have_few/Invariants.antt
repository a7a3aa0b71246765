use Rattle.std.proofs.Common.{◌≡◌, drop}
use Rattle.std.specs.List.{list_all}
use Rattle.fc_documents.specs.Rules.{has_few}
use Rattle.fc_documents.proofs.rules.all_have_few.Given as goal

abbrev pub invariant-loop-transaction : goal.invariant-loop-transaction
invariant-loop-transaction l = list_all has_few (drop l.transaction-index l.transactions) ≡ list_all has_few l.transactions
