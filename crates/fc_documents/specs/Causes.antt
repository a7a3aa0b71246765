-- Each cause for which bytes mean no plan, by itself (this profile's own).
use Rattle.std.specs.Prelude.{◌≡◌, ◌⊎◌, ℕ, nat_le, ◌==◌, ◌&&◌, ◌||◌, Bool, true, not, if◌then◌else◌, List, [], ◌∷◌, length, Option, Some, None, Result, Ok, Err}
use Rattle.std.specs.List.{list_all}
use Rattle.std.specs.Result.{is_ok}
use Rattle.fc_path.specs.declared.oper.Select.{Select}
use Rattle.fc_plans.specs.Plans.{named}
use Rattle.fc_library.specs.declared.fault.DocumentRule.{DocumentRule}
use Rattle.fc_library.specs.declared.fault.DocumentRule.TheVariants as rules
use Rattle.fc_library.specs.declared.fault.LibFault.{LibFault}
use Rattle.fc_library.specs.declared.fault.LibFault.TheVariants.{Unknown, Missing, WrongKind}
use Rattle.fc_documents.specs.Rules.{keeps_limits, keeps_elements, keeps_names}
use Rattle.fc_documents.specs.Parts.{each_of, change_of, transaction_of, can_begin}
use Rattle.fc_documents.specs.declared.tables.ChangeTable.{ChangeTable}
use Rattle.fc_documents.specs.declared.tables.TransactionTable.{TransactionTable}
use Rattle.fc_documents.specs.declared.tables.PlanTable.{PlanTable}
use Rattle.fc_documents.specs.declared.transaction.PlanTxn.{PlanTxn}

-- the key is unknown, missing or wrong
abbrev pub IsOfKey : List ℕ → LibFault → Type 0
IsOfKey key fault = (fault ≡ Unknown key) ⊎ ((fault ≡ Missing key) ⊎ (fault ≡ WrongKind key))

-- the text writes a change
abbrev pub is_change : List ℕ → Bool
is_change body = is_ok (change_of body)

abbrev pub has_body : ChangeTable → Bool
has_body c = is_change c.body

-- the transaction has a change, and each of its bodies writes one
abbrev pub has_bodies : TransactionTable → Bool
has_bodies t = not (length t.changes == 0) && list_all has_body t.changes

-- the changes of a participant name at most 4,096 LFB instances
abbrev pub is_small_scope : ℕ × List (List Select) → Bool
is_small_scope p = nat_le (length (named p.1)) 4096

-- and so those of each one, where the transaction has scopes
abbrev pub has_small_scopes : PlanTxn → Bool
has_small_scopes t = not t.scoped || list_all is_small_scope t.parts

-- a control element can begin all that was read
abbrev pub all_can_begin : Result (List PlanTxn) LibFault → Bool
all_can_begin (Ok ts) = list_all can_begin ts
all_can_begin (Err fault) = true

-- the rules of a plan in their order, with what breaks each
abbrev pub plan_rules : PlanTable → List (Bool × DocumentRule)
plan_rules table =
    (keeps_limits table, rules.TooMany)
    ∷ (keeps_elements table, rules.Element)
    ∷ (keeps_names table.transactions, rules.Name)
    ∷ (list_all has_bodies table.transactions, rules.Body)
    ∷ (all_can_begin (each_of transaction_of table.transactions), rules.TooMany)
    ∷ []

-- the first that is not kept
abbrev pub first_broken : List (Bool × DocumentRule) → Option DocumentRule
first_broken [] = None
first_broken (rule ∷ more) = if rule.0 then first_broken more else Some rule.1
