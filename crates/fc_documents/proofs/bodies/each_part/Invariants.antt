use Rattle.std.proofs.Common.{◌≡◌, ◌++◌, drop, Ok}
use Rattle.fc_base.specs.Answers.{◌>>=◌}
use Rattle.fc_documents.specs.Parts.{each_of, part_of}
use Rattle.fc_documents.proofs.bodies.each_part.Given as goal

abbrev pub invariant-elements : goal.invariant-elements
invariant-elements l = (each_of (part_of l.tables) (drop l.element-index l.elements) >>= λ xs. Ok (l.parts ++ xs)) ≡ each_of (part_of l.tables) l.elements
