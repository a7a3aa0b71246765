use Rattle.std.proofs.Common.{rules, ap}
use Rattle.fc_library.proofs.Documents.{document_some, document_none}
use Rattle.fc_documents.specs.Tables.{table_in}
use Rattle.fc_documents.proofs.document.table_from_slice.Goals as goal

pub returns-in-Ok : goal.returns-in-Ok
returns-in-Ok c = ap table_in (document_some _ _ c.in-Ok.ensures.ok.0 c.in-Ok.ensures.ok.1)

pub returns-else-is_memory : goal.returns-else-is_memory
returns-else-is_memory c = ap table_in (document_none _ (c.in-Err.ensures.refused (search rules)))
