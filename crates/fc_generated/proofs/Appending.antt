-- What is appended step by step is what is meant.
use Rattle.std.proofs.Common.{◌≡◌, ◌∙◌, ◌+◌, ◌*◌, ◌-◌, ◌%◌, ◌≤◌, ℕ, false, List, [], ◌∷◌, ◌++◌, append_assoc, decimal, map, None, refl, ap, arith}
use Rattle.std.proofs.lemmas.Bool.{ne_eqb}
use Rattle.fc_base.specs.Ids.{Txn}
use Rattle.fc_documents.specs.declared.transaction.PlanTxn.{PlanTxn}
use Rattle.fc_path.specs.declared.oper.Oper.{Oper}
use Rattle.fc_path.specs.declared.oper.Select.{Select}
use Rattle.fc_scripts.specs.Steps.{numbers_from}
use Rattle.fc_steps.specs.declared.step.Step.{Step}
use Rattle.fc_steps.specs.declared.step.Step.TheVariants as step
use Rattle.fc_generated.specs.Generated.{begin, delivered_before, delivers, given_up, is_given_up, name, steps_of, texts_before, whole}
use Rattle.fc_generated.specs.Tables.{class}
use Rattle.fc_generated.specs.Transactions.{change, ids, part, rows, set, transaction}

-- ---- steps
four : {A : Type 0} (old first half more : List A) (b g : A) (ds es : List A)
    → first ≡ old ++ b ∷ [] → half ≡ first ++ ds → more ≡ half ++ g ∷ [] → more ++ es ≡ old ++ b ∷ (ds ++ g ∷ es)
four old first half more b g ds es one two three =
    ap (λ ys. ys ++ es) three ∙ append_assoc half (g ∷ []) es ∙ ap (λ ys. ys ++ g ∷ es) two ∙ append_assoc first ds (g ∷ es) ∙ ap (λ ys. ys ++ (ds ++ g ∷ es)) one
    ∙ append_assoc old (b ∷ []) (ds ++ g ∷ es)

pub given_up_is : (texts behind k : ℕ) (old first half more : List (ℕ × Step)) (begun : List ℕ) (x : Txn)
    → begun ≡ decimal k → x ≡ name k → first ≡ old ++ (texts + 1, step.Begin 1 begun) ∷ [] → half ≡ first ++ delivers (texts + 2) behind 24
    → more ≡ half ++ (texts + 3, step.GiveUp 1 x) ∷ [] → more ++ delivers (texts + 4) (behind + 24) 24 ≡ old ++ given_up texts behind k
given_up_is texts behind k old first half more begun x said named one two three =
    four old first half more (begin texts k) (texts + 3, step.GiveUp 1 (name k)) (delivers (texts + 2) behind 24) (delivers (texts + 4) (behind + 24) 24)
    (one ∙ ap (λ text. old ++ (texts + 1, step.Begin 1 text) ∷ []) said) two (three ∙ ap (λ txn. half ++ (texts + 3, step.GiveUp 1 txn) ∷ []) named)

pub whole_is : (k texts behind : ℕ) → (k % 4 ≡ 0 → ⊥) → texts ≡ texts_before k → behind ≡ delivered_before k → whole texts behind k ≡ steps_of k
whole_is k texts behind other is was =
    let completes : is_given_up k ≡ false = ne_eqb (k % 4) 0 other in
    rw (is, was, completes) refl

-- ---- transactions
pub rows_are : (n : ℕ) → 1 ≤ n → numbers_from (16 * n + 1 - 16) (16 * n + 1 - (16 * n + 1 - 16)) ≡ rows n
rows_are n some =
    let first : 16 * n + 1 - 16 ≡ 16 * n - 15 = omega arith in
    let many : 16 * n + 1 - (16 * n + 1 - 16) ≡ 16 = omega (arith, some) in
    λ i. numbers_from (first i) (many i)

pub change_is : (k f : ℕ) (o : Oper) (none opers : List Oper) (nothing selects : List Select)
    → o ≡ set k f → none ≡ [] → opers ≡ none ++ o ∷ [] → nothing ≡ [] → selects ≡ nothing ++ record { class = class; instance = 1; opers = opers } ∷ [] → selects ≡ change k f
change_is k f o none opers nothing selects set empty all nowhere is = rw (is, nowhere, all, empty, set) refl

abbrev transaction_of : List ℕ → List (ℕ × List (List Select)) → PlanTxn
transaction_of said parts = record { name = said; give_up = None; scoped = false; parts = parts }

pub transaction_is : (k : ℕ) (said : List ℕ) (parts : List (ℕ × List (List Select))) → said ≡ decimal k → parts ≡ map (part k) ids → transaction_of said parts ≡ transaction k
transaction_is k said parts name all = rw (name, all) refl
