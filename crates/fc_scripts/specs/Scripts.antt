-- The script that the bytes of a document mean, or why they mean none (this profile's own): what TOML makes of them, then what its
-- tables say, then the rules that its library keeps, then those that the script keeps, and last its steps.
use Rattle.std.specs.Prelude.{◌≡◌, ℕ, List, map, Option, Result, Ok, Err}
use Rattle.std.specs.List.{list_all}
use Rattle.std.specs.List.Sorted.{IsPermutation}
use Rattle.toml.specs.Data.{Members}
use Rattle.fc_base.specs.Answers.{◌>>=◌}
use Rattle.fc_types.specs.Libraries.{AreRising}
use Rattle.fc_types.specs.declared.class.Class.{Class}
use Rattle.fc_library.specs.Documents.{checked}
use Rattle.fc_library.specs.Gives.{Gives}
use Rattle.fc_library.specs.declared.fault.DocumentRule.TheVariants as rules
use Rattle.fc_library.specs.declared.fault.LibFault.{LibFault}
use Rattle.fc_documents.specs.Tables.{table_of}
use Rattle.fc_documents.specs.Rules.{kept, keeps_limits, keeps_elements, keeps_names}
use Rattle.fc_documents.specs.Parts.{each_of, transaction_of, makes_plan}
use Rattle.fc_documents.specs.declared.tables.PlanTable.{PlanTable}
use Rattle.fc_documents.specs.declared.tables.TransactionTable.{TransactionTable}
use Rattle.fc_documents.specs.declared.transaction.PlanTxn.{PlanTxn}
use Rattle.fc_steps.specs.Steps.{step_of}
use Rattle.fc_steps.specs.declared.step.Step.{Step}
use Rattle.fc_steps.specs.declared.step.StepText.{StepText}
use Rattle.fc_scripts.specs.Tables.{script_table, id_of}
use Rattle.fc_scripts.specs.Rules.{keeps_counts, keeps_controllers}
use Rattle.fc_scripts.specs.Steps.{steps_from}
use Rattle.fc_scripts.specs.declared.tables.ScriptTable.{ScriptTable}

-- the classes, the instances of them, the elements, each with the controller that it has of itself, the controllers, the transactions,
-- and the steps, each with the place of its text; all but the instances in the order of the document
pub record Scripted : Type 0 where
  pub library : List Class
  pub instances : List (ℕ × ℕ)
  pub elements : List (ℕ × ℕ)
  pub controllers : List ℕ
  pub transactions : List PlanTxn
  pub steps : List (ℕ × Step)

-- what the tables say that those of a plan say too
abbrev pub part_in : List (ℕ × ℕ) → List TransactionTable → PlanTable
part_in elements transactions = record { elements = map id_of elements; transactions = transactions }

abbrev pub plan_part : ScriptTable → PlanTable
plan_part table = part_in table.elements table.transactions

-- the rules that are kept before the bodies are read
abbrev pub first_kept : List (ℕ × ℕ) → List ℕ → List TransactionTable → List (Option StepText) → Result Unit LibFault
first_kept elements controllers transactions said =
    kept rules.TooMany (keeps_limits (part_in elements transactions)) >>= λ _.
    kept rules.TooMany (keeps_counts controllers said) >>= λ _.
    kept rules.Element (keeps_elements (part_in elements transactions)) >>= λ _.
    kept rules.Controller (keeps_controllers elements controllers) >>= λ _.
    kept rules.Name (keeps_names transactions)

abbrev pub first_rules : ScriptTable → Result Unit LibFault
first_rules table = first_kept table.elements table.controllers table.transactions (map step_of table.steps)

-- what the tables of transactions write, where each of them is a plan
abbrev pub plans_of : List TransactionTable → Result (List PlanTxn) LibFault
plans_of tables =
    each_of transaction_of tables >>= λ transactions.
    kept rules.TooMany (list_all makes_plan transactions) >>= λ _.
    Ok transactions

-- these transactions, and the steps that the texts say
abbrev pub last_of : List TransactionTable → List (Option StepText) → Result (List PlanTxn × List (ℕ × Step)) LibFault
last_of tables said = plans_of tables >>= λ transactions. steps_from 1 said >>= λ steps. Ok (transactions, steps)

-- the classes and the instances, in the order of the document
abbrev pub library_in : ScriptTable → Result (List Class × List (ℕ × ℕ)) LibFault
library_in table = checked (table.classes, table.instances)

abbrev pub steps_in : ScriptTable → Result (List (ℕ × Step)) LibFault
steps_in table = steps_from 1 (map step_of table.steps)

abbrev pub script_in : ScriptTable → Result Scripted LibFault
script_in table =
    library_in table >>= λ library.
    first_rules table >>= λ _.
    last_of table.transactions (map step_of table.steps) >>= λ last.
    Ok (record { library = library.0; instances = library.1; elements = table.elements; controllers = table.controllers; transactions = last.0; steps = last.1 })

abbrev pub script : Members → Result Scripted LibFault
script ms = script_table ms >>= script_in

-- the same with the instances in the order of the document
abbrev pub script_of : List ℕ → Result Scripted LibFault
script_of bytes = table_of bytes >>= script

-- a script with other instances
abbrev pub with_instances : List (ℕ × ℕ) → Scripted → Scripted
with_instances pairs s =
    record { library = s.library; instances = pairs; elements = s.elements; controllers = s.controllers; transactions = s.transactions; steps = s.steps }

-- The answer is the script that is meant, whose instances are those of the document in rising order, or the fault for which none is
-- meant. It says nothing where there was no memory.
abbrev pub GivesScript : Result Scripted LibFault → Result Scripted LibFault → Type 0
GivesScript (Ok s) meant = (pairs : List (ℕ × ℕ)) × (meant ≡ Ok (with_instances pairs s)) × IsPermutation pairs s.instances × AreRising s.instances
GivesScript (Err fault) meant = Gives (Err fault) meant
