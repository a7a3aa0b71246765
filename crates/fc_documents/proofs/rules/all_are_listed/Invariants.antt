use Rattle.std.proofs.Common.{◌≡◌, drop}
use Rattle.std.specs.List.{list_all}
use Rattle.fc_documents.specs.Rules.{keeps_to}
use Rattle.fc_documents.proofs.rules.all_are_listed.Given as goal

abbrev pub invariant-loop-transaction : goal.invariant-loop-transaction
invariant-loop-transaction l = list_all (keeps_to l.elements) (drop l.transaction-index l.transactions) ≡ list_all (keeps_to l.elements) l.transactions
