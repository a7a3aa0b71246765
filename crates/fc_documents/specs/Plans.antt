-- The plan that the bytes of a document mean, or why they mean none (this profile's own): what TOML makes of them, then what its
-- tables say, and then the rules that a plan keeps.
use Rattle.std.specs.Prelude.{ℕ, List, Result, Ok}
use Rattle.std.specs.List.{list_all}
use Rattle.toml.specs.Data.{Members}
use Rattle.fc_base.specs.Answers.{◌>>=◌}
use Rattle.fc_library.specs.declared.fault.DocumentRule.TheVariants as rules
use Rattle.fc_library.specs.declared.fault.LibFault.{LibFault}
use Rattle.fc_documents.specs.Tables.{table_of, plan_table}
use Rattle.fc_documents.specs.Rules.{kept, keeps_limits, keeps_elements, keeps_names}
use Rattle.fc_documents.specs.Parts.{each_of, transaction_of, can_begin}
use Rattle.fc_documents.specs.declared.tables.PlanTable.{PlanTable}
use Rattle.fc_documents.specs.declared.transaction.PlanTxn.{PlanTxn}

-- the elements in the order of the document, and the transactions over them
pub record Planned : Type 0 where
  pub elements : List ℕ
  pub transactions : List PlanTxn

abbrev pub plan_in : PlanTable → Result Planned LibFault
plan_in table =
    kept rules.TooMany (keeps_limits table) >>= λ _.
    kept rules.Element (keeps_elements table) >>= λ _.
    kept rules.Name (keeps_names table.transactions) >>= λ _.
    each_of transaction_of table.transactions >>= λ transactions.
    kept rules.TooMany (list_all can_begin transactions) >>= λ _.
    Ok (record { elements = table.elements; transactions = transactions })

abbrev pub plan : Members → Result Planned LibFault
plan ms = plan_table ms >>= plan_in

abbrev pub plan_of : List ℕ → Result Planned LibFault
plan_of bytes = table_of bytes >>= plan
