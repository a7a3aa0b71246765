-- The rules that the tables of a plan keep, each looked for in the whole plan before the next one (this profile's own).
use Rattle.std.specs.Prelude.{ℕ, nat_eq, nat_le, nat_lt, ◌==◌, ◌&&◌, ◌||◌, Bool, true, false, if◌then◌else◌, List, [], ◌∷◌, map, length, Result, Ok, Err}
use Rattle.std.specs.Char.{is_ascii_alphanumeric}
use Rattle.std.specs.List.{list_all, list_any}
use Rattle.std.specs.Str.{bytes_eq}
use Rattle.fc_types.specs.Ids.{is_distinct}
use Rattle.fc_library.specs.declared.fault.DocumentRule.{DocumentRule}
use Rattle.fc_library.specs.declared.fault.LibFault.{LibFault}
use Rattle.fc_library.specs.declared.fault.LibFault.TheVariants.{Rule}
use Rattle.fc_documents.specs.declared.tables.ChangeTable.{ChangeTable}
use Rattle.fc_documents.specs.declared.tables.TransactionTable.{TransactionTable}
use Rattle.fc_documents.specs.declared.tables.PlanTable.{PlanTable}

-- the rule is kept, or refuses the document
abbrev pub kept : DocumentRule → Bool → Result Unit LibFault
kept rule true = Ok tt
kept rule false = Err (Rule rule)

-- an element at its place among others that rise, once
abbrev pub entered : ℕ → List ℕ → List ℕ
entered e [] = e ∷ []
entered e (d ∷ ds) = if nat_lt e d then e ∷ d ∷ ds else (if nat_lt d e then d ∷ entered e ds else d ∷ ds)

-- and those of changes
abbrev pub entered_by : List ChangeTable → List ℕ → List ℕ
entered_by [] es = es
entered_by (c ∷ cs) es = entered_by cs (entered c.element es)

-- the elements that changes are of, which rise
abbrev pub participants : List ChangeTable → List ℕ
participants cs = entered_by cs []

-- the change is of the element
abbrev pub is_of : ℕ → ChangeTable → Bool
is_of e c = e == c.element

-- the bodies of the changes of an element, in their order
abbrev pub bodies_at : ℕ → List ChangeTable → List (List ℕ)
bodies_at e [] = []
bodies_at e (c ∷ cs) = if is_of e c then c.body ∷ bodies_at e cs else bodies_at e cs

-- an element has at most 256 of the changes
abbrev pub is_few : List ChangeTable → ℕ → Bool
is_few cs e = nat_le (length (bodies_at e cs)) 256

abbrev pub are_few : List ChangeTable → Bool
are_few cs = list_all (is_few cs) (participants cs)

-- no element has more of those of the transaction
abbrev pub has_few : TransactionTable → Bool
has_few t = are_few t.changes

-- at most 255 elements and 1,024 transactions
abbrev pub is_short : PlanTable → Bool
is_short plan = nat_le (length plan.elements) 255 && nat_le (length plan.transactions) 1024

-- and of each element at most 256 changes in each transaction
abbrev pub keeps_limits : PlanTable → Bool
keeps_limits plan = is_short plan && list_all has_few plan.transactions

-- the element is one of those that are listed
abbrev pub is_listed : List ℕ → ℕ → Bool
is_listed es e = list_any (nat_eq e) es

-- each change is of a listed element
abbrev pub are_listed : List ℕ → List ChangeTable → Bool
are_listed es cs = list_all (λ (c : ChangeTable). is_listed es c.element) cs

-- the transaction changes listed elements alone
abbrev pub keeps_to : List ℕ → TransactionTable → Bool
keeps_to es t = are_listed es t.changes

-- no element is listed twice, and each change is of a listed one
abbrev pub keeps_elements : PlanTable → Bool
keeps_elements plan = is_distinct nat_eq plan.elements && list_all (keeps_to plan.elements) plan.transactions

-- a letter or a digit of ASCII, or `_`
abbrev pub is_name_byte : ℕ → Bool
is_name_byte b = is_ascii_alphanumeric b || b == 95

-- a name, which is not empty
abbrev pub is_name : List ℕ → Bool
is_name [] = false
is_name (b ∷ bs) = list_all is_name_byte (b ∷ bs)

abbrev pub name_of : TransactionTable → List ℕ
name_of t = t.name

abbrev pub has_name : TransactionTable → Bool
has_name t = is_name t.name

-- each transaction has a name, and no other one has it
abbrev pub keeps_names : List TransactionTable → Bool
keeps_names ts = list_all has_name ts && is_distinct bytes_eq (map name_of ts)
