-- Whatever the transactions of a script change, are changes: each of them is what a body writes.
use Rattle.std.proofs.Common.{◌≡◌, ℕ, Bool, true, false, if◌then◌else◌, List, [], ◌∷◌, map, Option, Some, None, Result, Ok, Err, refl, sym, subst}
use Rattle.std.specs.List.{AllByRecursion}
use Rattle.fc_path.specs.declared.oper.Select.{Select}
use Rattle.fc_lines.specs.TextPlaces.{TextPlace}
use Rattle.fc_text.specs.TextReading.{body_in}
use Rattle.fc_text.proofs.SoundMessages.{read_body_is_spelled}
use Rattle.fc_plans.specs.Changes.{change_fault}
use Rattle.fc_plans.specs.Plans as plans
use Rattle.fc_plans.specs.declared.fault.ChangeFault.{ChangeFault}
use Rattle.fc_library.specs.declared.fault.LibFault.{LibFault}
use Rattle.fc_documents.specs.Parts.{change_by, change_if, change_of, each_of, transaction_of, HasOwn}
use Rattle.fc_documents.specs.Rules.{bodies_at}
use Rattle.fc_documents.specs.declared.tables.ChangeTable.{ChangeTable}
use Rattle.fc_documents.specs.declared.tables.TransactionTable.{TransactionTable}
use Rattle.fc_documents.specs.declared.transaction.PlanTxn.{PlanTxn}
use Rattle.fc_documents.proofs.Chains.{each_step, nothing_read}
use Rattle.fc_documents.proofs.Ordering.{changes_in_order}
use Rattle.fc_scripts.specs.Changes.{IsChange, HasChanges, ChangesWell}

all_hold : {A B : Type 0} (read : A → Result B LibFault) (P : B → Type 0) → ((x : A) (y : B) → read x ≡ Ok y → P y) → (xs : List A) (ys : List B) → each_of read xs ≡ Ok ys → AllByRecursion P ys
all_hold read P makes [] ys e = subst (AllByRecursion P) (sym (nothing_read read ys e)) tt
all_hold read P makes (x ∷ xs) zs e =
    let (y, ys, first, rest, is) = each_step read x xs zs e in
    subst (AllByRecursion P) (sym is) (makes x y first, all_hold read P makes xs ys rest)

change_meant : (ss selects : List Select) (f : Option ChangeFault) → change_fault ss ≡ f → change_if ss f ≡ Ok selects → (ss ≡ selects) × (change_fault ss ≡ None)
change_meant ss selects None is e = (cc, is)
change_meant ss selects (Some fault) is e = cc

by_text : (body : List ℕ) (r : Result (List Select) TextPlace) (selects : List Select) → body_in body ≡ r → change_by r ≡ Ok selects → IsChange selects
by_text body (Ok ss) selects is e =
    let (same, none) = change_meant ss selects (change_fault ss) refl e in
    let spelled = read_body_is_spelled ss body is in
    subst IsChange same (none, (spelled.some, spelled.proper))
by_text body (Err place) selects is e = cc

change_is : (body : List ℕ) (selects : List Select) → change_of body ≡ Ok selects → IsChange selects
change_is body selects e = by_text body (body_in body) selects refl e

abbrev PartHolds : ℕ × List (List Select) → Type 0
PartHolds p = AllByRecursion IsChange p.1

part_holds : (cs : List ChangeTable) (ps : List (ℕ × List (List Select))) → AllByRecursion (HasOwn cs) ps → AllByRecursion PartHolds ps
part_holds cs [] h = tt
part_holds cs (p ∷ ps) h = (all_hold change_of IsChange change_is (bodies_at p.0 cs) p.1 h.0, part_holds cs ps h.1)

whole_hold : (ps : List (ℕ × List (List Select))) → AllByRecursion PartHolds ps → AllByRecursion HasChanges (map plans.whole ps)
whole_hold [] h = tt
whole_hold (p ∷ ps) h = (h.0, whole_hold ps h.1)

scoped_hold : (ps : List (ℕ × List (List Select))) → AllByRecursion PartHolds ps → AllByRecursion HasChanges (map plans.scoped ps)
scoped_hold [] h = tt
scoped_hold (p ∷ ps) h = (h.0, scoped_hold ps h.1)

begun_hold : (scoped : Bool) (ps : List (ℕ × List (List Select))) → AllByRecursion PartHolds ps → AllByRecursion HasChanges (if scoped then map plans.scoped ps else map plans.whole ps)
begun_hold true ps h = scoped_hold ps h
begun_hold false ps h = whole_hold ps h

txn_holds : (t : TransactionTable) (x : PlanTxn) → transaction_of t ≡ Ok x → ChangesWell x
txn_holds t x e = begun_hold x.scoped x.parts (part_holds t.changes x.parts (changes_in_order t x e).1)

pub all_change_well : (tables : List TransactionTable) (ts : List PlanTxn) → each_of transaction_of tables ≡ Ok ts → AllByRecursion ChangesWell ts
all_change_well = all_hold transaction_of ChangesWell txn_holds
