use Rattle.std.proofs.Common.{◌≡◌, ◌++◌, length, Ok}
use Rattle.fc_base.specs.Answers.{◌>>=◌}
use Rattle.fc_documents.specs.Parts.{each_of, transaction_of}
use Rattle.fc_documents.proofs.bodies.transactions_of.Given as goal

abbrev pub invariant-loop-table : goal.invariant-loop-table
invariant-loop-table l = (each_of transaction_of l.table-iterator.rest.items >>= λ xs. Ok (l.transactions ++ xs)) ≡ each_of transaction_of l.fn.tables

abbrev pub decreases-loop-table : goal.decreases-loop-table
decreases-loop-table l = length l.table-iterator.rest.items
