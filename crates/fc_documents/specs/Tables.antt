-- What the tables of a plan say, or the first fault of their keys (this profile's own). A table is looked at whole before the
-- tables in it, and these by the order of their keys and then by their place. In one table the unknown keys come first, and then
-- the missing and the wrong ones in the order of the plan's description.
use Rattle.std.specs.Prelude.{ℕ, ℤ, pos, false, List, [], ◌∷◌, codes, Option, Some, None, Result, Ok, Err}
use Rattle.toml.specs.Data.{Data, Members, get_member, as_integer}
use Rattle.fc_base.specs.Answers.{◌>>=◌}
use Rattle.fc_library.specs.Documents.{document}
use Rattle.fc_library.specs.Keys.{only, given, number_at, text_at, truth_or, tables_at, tables_or_none}
use Rattle.fc_library.specs.Types.{each}
use Rattle.fc_library.specs.declared.fault.LibFault.{LibFault}
use Rattle.fc_library.specs.declared.fault.LibFault.TheVariants.{NotToml, WrongKind}
use Rattle.fc_documents.specs.declared.tables.ChangeTable.{ChangeTable}
use Rattle.fc_documents.specs.declared.tables.TransactionTable.{TransactionTable}
use Rattle.fc_documents.specs.declared.tables.PlanTable.{PlanTable}

-- the table that the bytes of a document write
abbrev pub table_in : Option Members → Result Members LibFault
table_in None = Err NotToml
table_in (Some ms) = Ok ms

abbrev pub table_of : List ℕ → Result Members LibFault
table_of bytes = table_in (document bytes)

-- the ID of a forwarding element (RFC 5810, section 6.1) at a key that has to be there
abbrev pub element_at : List ℕ → Members → Result ℕ LibFault
element_at key ms = number_at key 1 1073741823 ms

-- a number that is not below 0, at a key or none
abbrev pub moment_in : List ℕ → Option ℤ → Result ℕ LibFault
moment_in key (Some (pos n)) = Ok n
moment_in key _ = Err (WrongKind key)

abbrev pub moment : List ℕ → Data → Result ℕ LibFault
moment key d = moment_in key (as_integer d)

abbrev pub moment_or_none : List ℕ → Members → Result (Option ℕ) LibFault
moment_or_none key ms = given None (λ d. moment key d >>= λ n. Ok (Some n)) (get_member key ms)

abbrev pub element : Members → Result ℕ LibFault
element ms =
    only (codes "id" ∷ []) ms >>= λ _.
    element_at (codes "id") ms

abbrev pub change : Members → Result ChangeTable LibFault
change ms =
    only (codes "element" ∷ codes "body" ∷ []) ms >>= λ _.
    element_at (codes "element") ms >>= λ element.
    text_at (codes "body") ms >>= λ body.
    Ok (record { element = element; body = body })

abbrev pub transaction : Members → Result TransactionTable LibFault
transaction ms =
    only (codes "name" ∷ codes "scoped" ∷ codes "give_up" ∷ codes "change" ∷ []) ms >>= λ _.
    text_at (codes "name") ms >>= λ name.
    truth_or false (codes "scoped") ms >>= λ scoped.
    moment_or_none (codes "give_up") ms >>= λ give_up.
    tables_at (codes "change") ms >>= λ change_tables.
    each change change_tables >>= λ changes.
    Ok (record { name = name; scoped = scoped; give_up = give_up; changes = changes })

abbrev pub plan_table : Members → Result PlanTable LibFault
plan_table ms =
    only (codes "element" ∷ codes "transaction" ∷ []) ms >>= λ _.
    tables_at (codes "element") ms >>= λ element_tables.
    tables_or_none (codes "transaction") ms >>= λ transaction_tables.
    each element element_tables >>= λ elements.
    each transaction transaction_tables >>= λ transactions.
    Ok (record { elements = elements; transactions = transactions })
