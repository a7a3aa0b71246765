use Rattle.std.proofs.Common.{◌≡◌, drop}
use Rattle.std.specs.List.{list_all}
use Rattle.fc_documents.specs.Parts.{can_begin}
use Rattle.fc_documents.proofs.bodies.all_can_begin.Given as goal

abbrev pub invariant-loop-transaction : goal.invariant-loop-transaction
invariant-loop-transaction l = list_all can_begin (drop l.transaction-index l.transactions) ≡ list_all can_begin l.transactions
