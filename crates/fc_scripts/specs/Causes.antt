-- Each cause for which bytes mean no script, by itself (this profile's own).
use Rattle.std.specs.Prelude.{◌≡◌, ℕ, ◌+◌, Bool, true, false, List, [], ◌∷◌, ◌++◌, map, length, is_some, Result, Ok, Err}
use Rattle.std.specs.List.{list_all}
use Rattle.fc_library.specs.declared.fault.DocumentRule.{DocumentRule}
use Rattle.fc_library.specs.declared.fault.DocumentRule.TheVariants as rules
use Rattle.fc_library.specs.declared.fault.LibFault.{LibFault}
use Rattle.fc_documents.specs.Causes.{has_bodies}
use Rattle.fc_documents.specs.Rules.{keeps_limits, keeps_elements, keeps_names}
use Rattle.fc_documents.specs.Parts.{each_of, transaction_of, makes_plan}
use Rattle.fc_documents.specs.declared.transaction.PlanTxn.{PlanTxn}
use Rattle.fc_steps.specs.Steps.{step_of}
use Rattle.fc_scripts.specs.Rules.{keeps_counts, keeps_controllers}
use Rattle.fc_scripts.specs.Scripts.{Scripted, plan_part, steps_in}
use Rattle.fc_scripts.specs.declared.tables.ScriptTable.{ScriptTable}

-- all that was read are plans
abbrev pub all_make_plans : Result (List PlanTxn) LibFault → Bool
all_make_plans (Ok ts) = list_all makes_plan ts
all_make_plans (Err fault) = true

-- the rules of a script in their order, with what breaks each
abbrev pub script_rules : ScriptTable → List (Bool × DocumentRule)
script_rules table =
    (keeps_limits (plan_part table), rules.TooMany)
    ∷ (keeps_counts table.controllers (map step_of table.steps), rules.TooMany)
    ∷ (keeps_elements (plan_part table), rules.Element)
    ∷ (keeps_controllers table.elements table.controllers, rules.Controller)
    ∷ (keeps_names table.transactions, rules.Name)
    ∷ (list_all has_bodies table.transactions, rules.Body)
    ∷ (all_make_plans (each_of transaction_of table.transactions), rules.TooMany)
    ∷ []

-- the text says a step, or several
abbrev pub says_step : List ℕ → Bool
says_step text = is_some (step_of text)

-- the first of the texts that says no step stands at this place, counted from 1
pub record IsFirstWrong (texts : List (List ℕ)) (place : ℕ) : Type 0 where
  pub before : List (List ℕ)
  pub text : List ℕ
  pub after : List (List ℕ)
  pub split : texts ≡ before ++ text ∷ after
  pub said : list_all says_step before ≡ true
  pub wrong : says_step text ≡ false
  pub place_is : place ≡ 1 + length before

-- what is read of the tables is the script
pub record IsRead (table : ScriptTable) (s : Scripted) : Type 0 where
  pub library : s.library ≡ table.classes
  pub instances : s.instances ≡ table.instances
  pub elements : s.elements ≡ table.elements
  pub controllers : s.controllers ≡ table.controllers
  pub transactions : each_of transaction_of table.transactions ≡ Ok s.transactions
  pub steps : steps_in table ≡ Ok s.steps
