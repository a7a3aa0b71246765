use Rattle.std.proofs.Common.{rules}
use Rattle.fc_library.proofs.Documents.{document_some, document_none}
use Rattle.fc_library.proofs.document.library_from_slice.Goals as goal

pub returns-in-Ok-clause-exact : goal.returns-in-Ok-clause-exact
returns-in-Ok-clause-exact c = rw (document_some _ _ c.in-Ok.ensures.ok.0 c.in-Ok.ensures.ok.1) c.library.ensures.exact

pub returns-else-is_memory-clause-exact : goal.returns-else-is_memory-clause-exact
returns-else-is_memory-clause-exact c = rw (document_none _ (c.in-Err.ensures.refused (search rules)))
