-- What a transaction of a document changes: at each of its participants the changes that its bodies write (this profile's own).
use Rattle.std.specs.Prelude.{◌≡◌, ℕ, nat_le, ◌==◌, ◌&&◌, Bool, not, if◌then◌else◌, List, [], ◌∷◌, map, length, Option, Some, None, is_none, Result, Ok, Err}
use Rattle.fc_base.specs.Answers.{◌>>=◌}
use Rattle.fc_path.specs.declared.oper.Select.{Select}
use Rattle.fc_lines.specs.TextPlaces.{TextPlace}
use Rattle.fc_text.specs.TextReading.{body_in}
use Rattle.fc_plans.specs.Changes.{change_fault}
use Rattle.fc_plans.specs.Plans as plans
use Rattle.fc_plans.specs.declared.fault.ChangeFault.{ChangeFault}
use Rattle.fc_plans.specs.declared.plan.Part.{Part}
use Rattle.fc_library.specs.declared.fault.DocumentRule.TheVariants as rules
use Rattle.fc_library.specs.declared.fault.LibFault.{LibFault}
use Rattle.fc_library.specs.declared.fault.LibFault.TheVariants.{Rule}
use Rattle.fc_documents.specs.Rules.{kept, participants, bodies_at}
use Rattle.fc_documents.specs.declared.tables.ChangeTable.{ChangeTable}
use Rattle.fc_documents.specs.declared.tables.TransactionTable.{TransactionTable}
use Rattle.fc_documents.specs.declared.transaction.PlanTxn.{PlanTxn}

-- what a reader makes of each item of a list, or the first fault
abbrev pub each_of : {A B : Type 0} → (A → Result B LibFault) → List A → Result (List B) LibFault
each_of read [] = Ok []
each_of read (x ∷ xs) = read x >>= λ y. each_of read xs >>= λ ys. Ok (y ∷ ys)

-- the selects that a text writes, where they are a change of an element
abbrev pub change_if : List Select → Option ChangeFault → Result (List Select) LibFault
change_if selects None = Ok selects
change_if selects (Some fault) = Err (Rule rules.Body)

abbrev pub change_by : Result (List Select) TextPlace → Result (List Select) LibFault
change_by (Ok selects) = change_if selects (change_fault selects)
change_by (Err place) = Err (Rule rules.Body)

abbrev pub change_of : List ℕ → Result (List Select) LibFault
change_of body = change_by (body_in body)

-- an element with its changes, in the order of the document
abbrev pub part_of : List ChangeTable → ℕ → Result (ℕ × List (List Select)) LibFault
part_of cs e = each_of change_of (bodies_at e cs) >>= λ changes. Ok (e, changes)

abbrev pub element_of : ℕ × List (List Select) → ℕ
element_of p = p.0

-- the changes of a participant are what the bodies of its own write, in their order
abbrev pub HasOwn : List ChangeTable → ℕ × List (List Select) → Type 0
HasOwn cs p = each_of change_of (bodies_at p.0 cs) ≡ Ok p.1

-- the participants, by rising ID, each with its changes; there is at least one
abbrev pub parts_of : List ChangeTable → Result (List (ℕ × List (List Select))) LibFault
parts_of cs = kept rules.Body (not (length cs == 0)) >>= λ _. each_of (part_of cs) (participants cs)

abbrev pub transaction_of : TransactionTable → Result PlanTxn LibFault
transaction_of t = parts_of t.changes >>= λ parts. Ok (record { name = t.name; give_up = t.give_up; scoped = t.scoped; parts = parts })

-- what a control element begins: each participant with its changes, and with the instances that they name where the transaction has scopes
abbrev pub begun : PlanTxn → List Part
begun t = if t.scoped then map plans.scoped t.parts else map plans.whole t.parts

-- its parts are those of a plan
abbrev pub makes_plan : PlanTxn → Bool
makes_plan t = is_none (plans.plan_fault (begun t))

-- a control element can begin it: it is a plan, and has at most 64 participants
abbrev pub can_begin : PlanTxn → Bool
can_begin t = makes_plan t && nat_le (length t.parts) 64
