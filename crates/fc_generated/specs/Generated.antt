-- The script of a large run of so many transactions. Control element 1 claims eight elements and begins one transaction after the other, each of which is
-- delivered whole; but every fourth is given up once each element has opened it. This profile's own.
use Rattle.std.specs.Prelude.{ℕ, ◌+◌, ◌*◌, ◌-◌, ◌/◌, ◌%◌, ◌==◌, Bool, if◌then◌else◌, List, [], ◌∷◌, ◌++◌, map, decimal}
use Rattle.std.specs.List.{flat_map}
use Rattle.fc_base.specs.Ids.{Txn}
use Rattle.fc_scripts.specs.Scripts.{Scripted}
use Rattle.fc_scripts.specs.Steps.{delivery, numbers_from}
use Rattle.fc_steps.specs.declared.step.Step.{Step}
use Rattle.fc_steps.specs.declared.step.Step.TheVariants as step
use Rattle.fc_generated.specs.Tables.{instance, table}
use Rattle.fc_generated.specs.Transactions.{ids, transaction}

-- the one control element
abbrev pub controller : ℕ
controller = 1073741825

abbrev pub element : ℕ → ℕ × ℕ
element f = (f, controller)

-- ---- the steps, each with the place of its text
-- the next messages behind those that were delivered, so many of them
abbrev pub delivers : ℕ → ℕ → ℕ → List (ℕ × Step)
delivers place behind more = map (delivery place) (numbers_from (behind + 1) more)

-- each element opens a connection, at the text behind that of the element before it
abbrev pub connect : ℕ → ℕ × Step
connect f = (f + 1, step.Open f 1)

abbrev pub first_steps : List (ℕ × Step)
first_steps = (1, step.Start 1 1) ∷ (map connect ids ++ delivers 10 0 48)

-- before transaction k, 48 messages were delivered until all elements were claimed and asked, and 64 for each transaction since, but 48 for each fourth
abbrev pub delivered_before : ℕ → ℕ
delivered_before k = 48 + 64 * (k - 1) - 16 * ((k - 1) / 4)

-- and there were ten texts, two for each transaction since, and two more for each fourth
abbrev pub texts_before : ℕ → ℕ
texts_before k = 10 + 2 * (k - 1) + 2 * ((k - 1) / 4)

abbrev pub name : ℕ → Txn
name k = record { epoch = 257; number = k }

abbrev pub begin : ℕ → ℕ → ℕ × Step
begin texts k = (texts + 1, step.Begin 1 (decimal k))

-- a transaction that completes
abbrev pub whole : ℕ → ℕ → ℕ → List (ℕ × Step)
whole texts behind k = begin texts k ∷ delivers (texts + 2) behind 64

-- and one that is given up
abbrev pub given_up : ℕ → ℕ → ℕ → List (ℕ × Step)
given_up texts behind k =
    begin texts k ∷ (delivers (texts + 2) behind 24 ++ (texts + 3, step.GiveUp 1 (name k)) ∷ delivers (texts + 4) (behind + 24) 24)

abbrev pub is_given_up : ℕ → Bool
is_given_up k = k % 4 == 0

abbrev pub steps_of : ℕ → List (ℕ × Step)
steps_of k = if is_given_up k then given_up (texts_before k) (delivered_before k) k else whole (texts_before k) (delivered_before k) k

-- ---- all together
abbrev pub numbers : ℕ → List ℕ
numbers n = numbers_from 1 n

abbrev pub generated : ℕ → Scripted
generated n = record {
  library = table ∷ [];
  instances = instance ∷ [];
  elements = map element ids;
  controllers = controller ∷ [];
  transactions = map transaction (numbers n);
  steps = first_steps ++ flat_map steps_of (numbers n);
}
