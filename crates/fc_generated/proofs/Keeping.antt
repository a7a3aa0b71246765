-- A large run is a script, however many transactions it has, up to 1,000.
use Rattle.std.proofs.Common.{◌≡◌, ◌∙◌, ◌≤◌, ◌+◌, ◌-◌, ℕ, true, List, [], ◌∷◌, ◌++◌, map, refl, sym, ap, subst, arith}
use Rattle.std.specs.List.{flat_map}
use Rattle.fc_documents.specs.Kept.{has_listed, has_name}
use Rattle.fc_documents.specs.Parts.{makes_plan}
use Rattle.fc_documents.specs.declared.transaction.PlanTxn.{PlanTxn}
use Rattle.fc_plans.specs.Plans as plans
use Rattle.fc_scripts.specs.Changes.{ChangesWell, HasChanges}
use Rattle.fc_scripts.specs.Kept.{IsScript}
use Rattle.fc_scripts.specs.Scripts.{Scripted}
use Rattle.fc_scripts.specs.Steps.{numbers_from}
use Rattle.fc_scripts.specs.Tables.{id_of}
use Rattle.fc_steps.specs.declared.step.Step.{Step}
use Rattle.fc_types.specs.declared.class.Class.{Class}
use Rattle.fc_generated.specs.Generated.{controller, element, first_steps, generated, numbers, steps_of}
use Rattle.fc_generated.specs.Tables.{instance, table}
use Rattle.fc_generated.specs.Transactions.{ids, part, transaction}
use Rattle.fc_generated.proofs.Fitting.{is_change, is_proper}
use Rattle.fc_generated.proofs.Names.{differ, named}
use Rattle.fc_generated.proofs.Ranges.{each_holds, each_passes, so_many}
use Rattle.fc_generated.proofs.Stepping.{all_few, all_said}

part_changes : (k f : ℕ) → HasChanges (plans.whole (part k f))
part_changes k f = ((is_change k f, is_proper k f), tt)

changes_well : (k : ℕ) → ChangesWell (transaction k)
changes_well k =
    (part_changes k 1, (part_changes k 2, (part_changes k 3, (part_changes k 4, (part_changes k 5, (part_changes k 6, (part_changes k 7, (part_changes k 8, tt))))))))

is_planned : (k : ℕ) → makes_plan (transaction k) ≡ true
is_planned k = refl

are_listed : (k : ℕ) → has_listed (map id_of (map element ids)) (transaction k) ≡ true
are_listed k = refl

pub is_script : (n : ℕ) → n ≤ 1000 → IsScript (generated n)
is_script n few = record {
  known = refl;
  own = refl;
  apart = refl;
  few = omega arith;
  numbered = refl;
  masters = omega arith;
  served = refl;
  short = omega (arith, few, so_many transaction 1 n);
  planned = each_passes transaction makes_plan 1 n (λ k low high. is_planned k);
  changing = each_holds transaction ChangesWell 1 n (λ k low high. changes_well k);
  listed = each_passes transaction (has_listed (map id_of (map element ids))) 1 n (λ k low high. are_listed k);
  named = each_passes transaction has_name 1 n (λ k low high. named k (omega (arith, few, high)));
  distinct = differ 1 n (omega (arith, few));
  all = all_few n few;
  said = all_said n few;
}

-- ---- what was made is it
abbrev made : List Class → List (ℕ × ℕ) → List (ℕ × ℕ) → List ℕ → List PlanTxn → List (ℕ × Step) → Scripted
made library instances elements controllers transactions steps =
    record { library = library; instances = instances; elements = elements; controllers = controllers; transactions = transactions; steps = steps }

as_many : (n : ℕ) → n + 1 - 1 ≡ n
as_many n = omega arith

pub made_is : (n : ℕ) (library : List Class) (instances elements : List (ℕ × ℕ)) (controllers : List ℕ) (transactions : List PlanTxn) (steps : List (ℕ × Step))
    → library ≡ table ∷ [] → instances ≡ instance ∷ [] → elements ≡ map element ids → controllers ≡ controller ∷ [] → transactions ≡ map transaction (numbers_from 1 (n + 1 - 1))
    → steps ≡ first_steps ++ flat_map steps_of (numbers_from 1 (n + 1 - 1)) → made library instances elements controllers transactions steps ≡ generated n
made_is n library instances elements controllers transactions steps a b c d e f =
    let ts : transactions ≡ map transaction (numbers n) = e ∙ ap (λ (m : ℕ). map transaction (numbers_from 1 m)) (as_many n) in
    let ss : steps ≡ first_steps ++ flat_map steps_of (numbers n) = f ∙ ap (λ (m : ℕ). first_steps ++ flat_map steps_of (numbers_from 1 m)) (as_many n) in
    rw (a, b, c, d, ts, ss) refl

pub keeps : (n : ℕ) (s : Scripted) → n ≤ 1000 → s ≡ generated n → IsScript s
keeps n s few is = subst IsScript (sym is) (is_script n few)
