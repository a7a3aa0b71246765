-- The steps of a large run: a text can say each, and there are not too many.
use Rattle.std.proofs.Common.{◌<◌, ◌≤◌, ◌^◌, ◌+◌, ◌-◌, ℕ, Bool, true, false, if◌then◌else◌, ◌∷◌, ◌++◌, map, length, length-append, arith}
use Rattle.std.specs.List.{AllByRecursion, flat_map}
use Rattle.fc_scripts.specs.Kept.{CanBeSaid}
use Rattle.fc_steps.specs.declared.step.Step.TheVariants as step
use Rattle.fc_scripts.specs.Steps.{delivery}
use Rattle.fc_generated.specs.Generated.{connect, delivered_before, delivers, first_steps, given_up, is_given_up, name, numbers, steps_of, texts_before, whole}
use Rattle.fc_generated.specs.Transactions.{ids}
use Rattle.fc_generated.proofs.Names.{said}
use Rattle.fc_generated.proofs.Ranges.{all_hold, each_holds, few_each, joined}

-- ---- a text can say each
delivered : (place behind more : ℕ) → behind + more < 2 ^ 63 → AllByRecursion CanBeSaid (delivers place behind more)
delivered place behind more small = each_holds (delivery place) CanBeSaid (behind + 1) more (λ k low high. omega (arith, high, small))

opened : (f : ℕ) → 1 ≤ f → f < 9 → CanBeSaid (connect f)
opened f some few = ((omega (arith, some), omega (arith, few)), omega arith)

first_said : AllByRecursion CanBeSaid first_steps
first_said = ((omega arith, (omega arith, omega arith)), joined CanBeSaid (map connect ids) (delivers 10 0 48) (each_holds connect CanBeSaid 1 8 opened) (delivered 10 0 48 (omega arith)))

said_by : (given : Bool) (texts behind k : ℕ) → 1 ≤ k → k < 2 ^ 32 → behind < 2 ^ 32 → AllByRecursion CanBeSaid (if given then given_up texts behind k else whole texts behind k)
said_by true texts behind k some few small = (
  (omega arith, said k (omega (arith, few))),
  joined CanBeSaid (delivers (texts + 2) behind 24) ((texts + 3, step.GiveUp 1 (name k)) ∷ delivers (texts + 4) (behind + 24) 24) (delivered (texts + 2) behind 24 (omega (arith, small)))
      ((omega arith, ((omega arith, omega arith, omega arith), omega (arith, some), few)), delivered (texts + 4) (behind + 24) 24 (omega (arith, small))),
)
said_by false texts behind k some few small = ((omega arith, said k (omega (arith, few))), delivered (texts + 2) behind 64 (omega (arith, small)))

before_few : (k : ℕ) → k < 2000 → delivered_before k < 2 ^ 32
before_few k few = omega (arith, few)

pub all_said : (n : ℕ) → n ≤ 1000 → AllByRecursion CanBeSaid (first_steps ++ flat_map steps_of (numbers n))
all_said n few =
    joined CanBeSaid first_steps (flat_map steps_of (numbers n)) first_said
    (all_hold steps_of CanBeSaid 1 n (λ k some most. said_by (is_given_up k) (texts_before k) (delivered_before k) k some (omega (arith, most, few)) (before_few k (omega (arith, most, few)))))

-- ---- there are not too many
long_by : (given : Bool) (texts behind k : ℕ) → length (if given then given_up texts behind k else whole texts behind k) ≤ 65
long_by true texts behind k = omega arith
long_by false texts behind k = omega arith

pub all_few : (n : ℕ) → n ≤ 1000 → length (first_steps ++ flat_map steps_of (numbers n)) ≤ 100000
all_few n few =
    let each = few_each steps_of 1 n (λ k. long_by (is_given_up k) (texts_before k) (delivered_before k) k) in
    omega (arith, few, each, length-append first_steps (flat_map steps_of (numbers n)))
