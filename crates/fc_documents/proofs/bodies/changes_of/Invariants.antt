use Rattle.std.proofs.Common.{◌≡◌, ◌++◌, drop, Ok}
use Rattle.fc_base.specs.Answers.{◌>>=◌}
use Rattle.fc_documents.specs.Parts.{each_of, change_of}
use Rattle.fc_documents.specs.Rules.{bodies_at}
use Rattle.fc_documents.proofs.bodies.changes_of.Given as goal

abbrev pub invariant-tables : goal.invariant-tables
invariant-tables l = (each_of change_of (bodies_at l.element (drop l.table-index l.tables)) >>= λ xs. Ok (l.changes ++ xs)) ≡ each_of change_of (bodies_at l.element l.tables)
