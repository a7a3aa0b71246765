-- Each participant's changes are what its own bodies write.
use Rattle.std.proofs.Common.{◌≡◌, ℕ, List, [], ◌∷◌, map, Result, Ok, refl, sym, ap, ◌∙◌, subst}
use Rattle.std.specs.List.{AllByRecursion}
use Rattle.fc_path.specs.declared.oper.Select.{Select}
use Rattle.fc_library.specs.declared.fault.LibFault.{LibFault}
use Rattle.fc_documents.specs.Rules.{participants, bodies_at}
use Rattle.fc_documents.specs.Parts.{each_of, change_of, part_of, element_of, HasOwn, transaction_of}
use Rattle.fc_documents.specs.declared.tables.ChangeTable.{ChangeTable}
use Rattle.fc_documents.specs.declared.tables.TransactionTable.{TransactionTable}
use Rattle.fc_documents.specs.declared.transaction.PlanTxn.{PlanTxn}
use Rattle.fc_documents.proofs.Chains.{read_first, each_step, nothing_read, same_mapped}
use Rattle.fc_documents.proofs.Keeping.{Parts, part_is, parts_are, transaction_is}

all_hold : {A B : Type 0} (read : A → Result B LibFault) (P : B → Type 0) → ((x : A) (y : B) → read x ≡ Ok y → P y) → (xs : List A) (ys : List B) → each_of read xs ≡ Ok ys → AllByRecursion P ys
all_hold read P makes [] ys e = subst (AllByRecursion P) (sym (nothing_read read ys e)) tt
all_hold read P makes (x ∷ xs) zs e =
    let (y, ys, first, rest, is) = each_step read x xs zs e in
    subst (AllByRecursion P) (sym is) (makes x y first, all_hold read P makes xs ys rest)

pub own_made : (cs : List ChangeTable) (e : ℕ) (p : ℕ × List (List Select)) → part_of cs e ≡ Ok p → HasOwn cs p
own_made cs e p h =
    let (changes, read, is) = read_first (each_of change_of (bodies_at e cs)) (λ changes. Ok (e, changes)) p h in
    let same : (e, changes) ≡ p = cc in
    subst (HasOwn cs) same read

same_list : (es : List ℕ) → map (λ d. d) es ≡ es
same_list [] = refl
same_list (e ∷ es) = ap (λ ds. e ∷ ds) (same_list es)

abbrev InOrder : List ChangeTable → Parts → Type 0
InOrder cs ps = (map element_of ps ≡ participants cs) × AllByRecursion (HasOwn cs) ps

in_order : (cs : List ChangeTable) (ps : Parts) → each_of (part_of cs) (participants cs) ≡ Ok ps → InOrder cs ps
in_order cs ps e =
    (same_mapped (part_of cs) (λ d. d) element_of (part_is cs) (participants cs) ps e ∙ same_list (participants cs), all_hold (part_of cs) (HasOwn cs) (own_made cs) (participants cs) ps e)

pub changes_in_order : (t : TransactionTable) (x : PlanTxn) → transaction_of t ≡ Ok x → InOrder t.changes x.parts
changes_in_order t x e =
    let (ps, read, is) = transaction_is t x e in
    subst (λ (y : PlanTxn). InOrder t.changes y.parts) (sym is) (in_order t.changes ps (parts_are t.changes ps read).1)
