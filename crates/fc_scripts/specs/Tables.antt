-- What the tables of a script say, or the first fault of their keys (this profile's own). A table is looked at whole before the
-- tables in it, and these by the order of their keys and then by their place. In one table the unknown keys come first, and then
-- the missing and the wrong ones in the order of the script's description.
use Rattle.std.specs.Prelude.{ℕ, ◌/◌, ◌%◌, ◌^◌, ◌==◌, nat_lt, ◌&&◌, Bool, false, if◌then◌else◌, List, [], ◌∷◌, codes, None, Result, Ok, Err}
use Rattle.toml.specs.Data.{Members}
use Rattle.fc_base.specs.Answers.{◌>>=◌}
use Rattle.fc_library.specs.Declarations.{class, instance}
use Rattle.fc_library.specs.Keys.{only, number_at, text_at, truth_or, tables_at, tables_or_none, texts_at}
use Rattle.fc_library.specs.Types.{each}
use Rattle.fc_library.specs.declared.fault.LibFault.{LibFault}
use Rattle.fc_library.specs.declared.fault.LibFault.TheVariants.{WrongKind}
use Rattle.fc_documents.specs.Tables.{element_at, change}
use Rattle.fc_documents.specs.declared.tables.TransactionTable.{TransactionTable}
use Rattle.fc_scripts.specs.declared.tables.ScriptTable.{ScriptTable}

-- the ID of a control element (RFC 5810, section 6.1) at a key that has to be there, whose low 8 bits are not 0
abbrev pub is_ce : ℕ → Bool
is_ce n = (n / 2 ^ 30 == 1) && nat_lt 0 (n % 256)

abbrev pub controller_of : List ℕ → ℕ → Result ℕ LibFault
controller_of key n = if is_ce n then Ok n else Err (WrongKind key)

abbrev pub controller_at : List ℕ → Members → Result ℕ LibFault
controller_at key ms = number_at key 0 4294967295 ms >>= controller_of key

-- an element, with the controller that it has of itself
abbrev pub element : Members → Result (ℕ × ℕ) LibFault
element ms =
    only (codes "id" ∷ codes "ce" ∷ []) ms >>= λ _.
    element_at (codes "id") ms >>= λ id.
    controller_at (codes "ce") ms >>= λ ce.
    Ok (id, ce)

abbrev pub controller : Members → Result ℕ LibFault
controller ms =
    only (codes "id" ∷ []) ms >>= λ _.
    controller_at (codes "id") ms

-- a transaction, which nothing but a step gives up
abbrev pub transaction : Members → Result TransactionTable LibFault
transaction ms =
    only (codes "name" ∷ codes "scoped" ∷ codes "change" ∷ []) ms >>= λ _.
    text_at (codes "name") ms >>= λ name.
    truth_or false (codes "scoped") ms >>= λ scoped.
    tables_at (codes "change") ms >>= λ change_tables.
    each change change_tables >>= λ changes.
    Ok (record { name = name; scoped = scoped; give_up = None; changes = changes })

abbrev pub script_table : Members → Result ScriptTable LibFault
script_table ms =
    only (codes "class" ∷ codes "instance" ∷ codes "element" ∷ codes "controller" ∷ codes "transaction" ∷ codes "steps" ∷ []) ms >>= λ _.
    tables_or_none (codes "class") ms >>= λ class_tables.
    tables_or_none (codes "instance") ms >>= λ instance_tables.
    tables_at (codes "element") ms >>= λ element_tables.
    tables_at (codes "controller") ms >>= λ controller_tables.
    tables_or_none (codes "transaction") ms >>= λ transaction_tables.
    texts_at (codes "steps") ms >>= λ steps.
    each class class_tables >>= λ classes.
    each instance instance_tables >>= λ instances.
    each element element_tables >>= λ elements.
    each controller controller_tables >>= λ controllers.
    each transaction transaction_tables >>= λ transactions.
    Ok (record { classes = classes; instances = instances; elements = elements; controllers = controllers; transactions = transactions; steps = steps })

-- the ID of an element
abbrev pub id_of : ℕ × ℕ → ℕ
id_of e = e.0
