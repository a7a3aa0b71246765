-- Each cause of a refusal stands alone.
use Rattle.std.proofs.Common.{rules, ◌≡◌, ◌≢◌, ◌↔◌, ◌⊎◌, ℕ, Bool, true, false, if◌then◌else◌, List, [], ◌∷◌, map, Option, Some, None, Result, Ok, Err, refl, sym, ap, ap₂, ◌∙◌, subst, inl, inr}
use Rattle.std.proofs.lemmas.Bool.{false≢true}
use Rattle.std.specs.List.{list_all}
use Rattle.std.specs.Result.{is_ok}
use Rattle.toml.specs.Data.{Members}
use Rattle.fc_base.specs.Answers.{◌>>=◌}
use Rattle.fc_types.specs.Libraries.{first_fault}
use Rattle.fc_types.specs.declared.class.Class.{Class}
use Rattle.fc_types.specs.declared.fault.CheckFault.{CheckFault}
use Rattle.fc_library.specs.Documents.{document, checked_by}
use Rattle.fc_library.specs.declared.fault.DocumentRule.{DocumentRule}
use Rattle.fc_library.specs.declared.fault.DocumentRule.TheVariants as broken
use Rattle.fc_library.specs.declared.fault.LibFault.{LibFault}
use Rattle.fc_library.specs.declared.fault.LibFault.TheVariants.{NotToml, WrongKind, Check, Rule, StepText, Memory}
use Rattle.fc_library.proofs.KeyFaults.{is_of_key, of_keys, bind_keys, only_keys, number_keys, text_keys, texts_keys, truth_keys, tables_keys, tables_or_keys, each_keys, class_keys, instance_keys}
use Rattle.fc_documents.specs.Causes.{IsOfKey, first_broken}
use Rattle.fc_documents.specs.Parts.{each_of, transaction_of, makes_plan}
use Rattle.fc_documents.specs.Rules.{kept, keeps_limits, keeps_elements, keeps_names}
use Rattle.fc_documents.specs.Tables.{table_in}
use Rattle.fc_documents.specs.declared.transaction.PlanTxn.{PlanTxn}
use Rattle.fc_documents.proofs.Judging.{OnlyBody, only_bodies, bodies_read, change_keys, of_key}
use Rattle.fc_steps.specs.Steps.{step_of}
use Rattle.fc_steps.specs.declared.step.Step.{Step}
use Rattle.fc_scripts.specs.Causes.{all_make_plans, script_rules, IsFirstWrong, IsRead}
use Rattle.fc_scripts.specs.Rules.{keeps_counts, keeps_controllers}
use Rattle.fc_scripts.specs.Scripts.{Scripted, plan_part, steps_in, script_in, script, script_of}
use Rattle.fc_scripts.specs.Tables.{is_ce, controller_of, controller_at, element, controller, transaction, script_table}
use Rattle.fc_scripts.specs.declared.tables.ScriptTable.{ScriptTable}
use Rattle.fc_scripts.proofs.Stopping.{OnlyStep, only_steps, wrong_is_first, first_is_wrong}

-- the tables give no fault but those of keys
ce_keys : (key : List ℕ) (n : ℕ) (b : Bool) → of_keys (if b then Ok n else Err (WrongKind key)) ≡ true
ce_keys key n true = refl
ce_keys key n false = refl

controller_of_keys : (key : List ℕ) (n : ℕ) → of_keys (controller_of key n) ≡ true
controller_of_keys key n = ce_keys key n (is_ce n)

controller_at_keys : (key : List ℕ) (ms : Members) → of_keys (controller_at key ms) ≡ true
controller_at_keys key ms = search (rules, bind_keys, number_keys, controller_of_keys) depth 12

element_keys : (ms : Members) → of_keys (element ms) ≡ true
element_keys ms = search (rules, bind_keys, only_keys, number_keys, controller_at_keys) depth 12

controller_keys : (ms : Members) → of_keys (controller ms) ≡ true
controller_keys ms = search (rules, bind_keys, only_keys, controller_at_keys) depth 12

transaction_keys : (ms : Members) → of_keys (transaction ms) ≡ true
transaction_keys ms = search (rules, bind_keys, only_keys, text_keys, truth_keys, tables_keys, each_keys, change_keys) depth 12

script_keys : (ms : Members) → of_keys (script_table ms) ≡ true
script_keys ms =
    search (rules, bind_keys, only_keys, tables_keys, tables_or_keys, texts_keys, each_keys, class_keys, instance_keys, element_keys, controller_keys, transaction_keys) depth 24

-- what a script is refused for, and what it is where it is not
module _ {T S P : Type 0} (whole : Result P LibFault) (check : Option CheckFault) (first : Option DocumentRule) (r : Result T LibFault) (q : Result S LibFault) (make : T → S → P) where
  abbrev Checks : Type 0
  Checks = (f : CheckFault) × (whole ≡ Err (Check f)) × (check ≡ Some f)

  abbrev Breaks : Type 0
  Breaks = (x : DocumentRule) × (whole ≡ Err (Rule x)) × (check ≡ None) × (first ≡ Some x)

  abbrev Stops : Type 0
  Stops = (place : ℕ) × (whole ≡ Err (StepText place)) × (check ≡ None) × (first ≡ None) × (q ≡ Err (StepText place))

  abbrev Stands : Type 0
  Stands = (t : T) × (s : S) × (whole ≡ Ok (make t s)) × (check ≡ None) × (first ≡ None) × (r ≡ Ok t) × (q ≡ Ok s)

  abbrev Judged : Type 0
  Judged = Checks ⊎ (Breaks ⊎ (Stops ⊎ Stands))

  judged_check : (f : CheckFault) → Judged → whole ≡ Err (Check f) → check ≡ Some f
  judged_check f (inl (g, is, told)) e = let same : g ≡ f = (let all = sym is ∙ e in cc) in told ∙ ap Some same
  judged_check f (inr (inl (x, is, none, broken_so))) e = let all = sym is ∙ e in cc
  judged_check f (inr (inr (inl (n, is, none, kept_all, stops)))) e = let all = sym is ∙ e in cc
  judged_check f (inr (inr (inr (t, s, is, none, kept_all, read, steps)))) e = let all = sym is ∙ e in cc

  judged_rule : (x : DocumentRule) → Judged → whole ≡ Err (Rule x) → (check ≡ None) × (first ≡ Some x)
  judged_rule x (inl (g, is, told)) e = let all = sym is ∙ e in cc
  judged_rule x (inr (inl (y, is, none, told))) e = let same : y ≡ x = (let all = sym is ∙ e in cc) in (none, told ∙ ap Some same)
  judged_rule x (inr (inr (inl (n, is, none, kept_all, stops)))) e = let all = sym is ∙ e in cc
  judged_rule x (inr (inr (inr (t, s, is, none, kept_all, read, steps)))) e = let all = sym is ∙ e in cc

  judged_step : (place : ℕ) → Judged → whole ≡ Err (StepText place) → (check ≡ None) × (first ≡ None) × (q ≡ Err (StepText place))
  judged_step place (inl (g, is, told)) e = let all = sym is ∙ e in cc
  judged_step place (inr (inl (y, is, none, broken_so))) e = let all = sym is ∙ e in cc
  judged_step place (inr (inr (inl (n, is, none, kept_all, stops)))) e = let same : n ≡ place = (let all = sym is ∙ e in cc) in (none, kept_all, stops ∙ ap (λ m. Err (StepText m)) same)
  judged_step place (inr (inr (inr (t, s, is, none, kept_all, read, steps)))) e = let all = sym is ∙ e in cc

  judged_ok : (p : P) → Judged → whole ≡ Ok p → (t : T) × (s : S) × (make t s ≡ p) × (check ≡ None) × (first ≡ None) × (r ≡ Ok t) × (q ≡ Ok s)
  judged_ok p (inl (g, is, told)) e = let all = sym is ∙ e in cc
  judged_ok p (inr (inl (y, is, none, broken_so))) e = let all = sym is ∙ e in cc
  judged_ok p (inr (inr (inl (n, is, none, kept_all, stops)))) e = let all = sym is ∙ e in cc
  judged_ok p (inr (inr (inr (t, s, is, none, kept_all, read, steps)))) e = let same : make t s ≡ p = (let all = sym is ∙ e in cc) in (t, s, same, none, kept_all, read, steps)

  -- nothing else refuses it
  judged_other : (f : LibFault) → ((g : CheckFault) → f ≢ Check g) → ((x : DocumentRule) → f ≢ Rule x) → ((n : ℕ) → f ≢ StepText n) → Judged → whole ≢ Err f
  judged_other f no_check no_rule no_step (inl (g, is, told)) e = no_check g (let all = sym is ∙ e in cc)
  judged_other f no_check no_rule no_step (inr (inl (x, is, none, broken_so))) e = no_rule x (let all = sym is ∙ e in cc)
  judged_other f no_check no_rule no_step (inr (inr (inl (n, is, none, kept_all, stops)))) e = no_step n (let all = sym is ∙ e in cc)
  judged_other f no_check no_rule no_step (inr (inr (inr (t, s, is, none, kept_all, read, steps)))) e = let all = sym is ∙ e in cc

  -- and the other way round
  check_refuses : (f : CheckFault) → Judged → check ≡ Some f → whole ≡ Err (Check f)
  check_refuses f (inl (g, is, told)) e = let same : g ≡ f = (let all = sym told ∙ e in cc) in is ∙ ap (λ h. Err (Check h)) same
  check_refuses f (inr (inl (x, is, none, told))) e = let all = sym none ∙ e in cc
  check_refuses f (inr (inr (inl (n, is, none, kept_all, stops)))) e = let all = sym none ∙ e in cc
  check_refuses f (inr (inr (inr (t, s, is, none, kept_all, read, steps)))) e = let all = sym none ∙ e in cc

  rule_refuses : (x : DocumentRule) → Judged → check ≡ None → first ≡ Some x → whole ≡ Err (Rule x)
  rule_refuses x (inl (g, is, told)) c e = let all = sym told ∙ c in cc
  rule_refuses x (inr (inl (y, is, none, told))) c e = let same : y ≡ x = (let all = sym told ∙ e in cc) in is ∙ ap (λ h. Err (Rule h)) same
  rule_refuses x (inr (inr (inl (n, is, none, kept_all, stops)))) c e = let all = sym kept_all ∙ e in cc
  rule_refuses x (inr (inr (inr (t, s, is, none, kept_all, read, steps)))) c e = let all = sym kept_all ∙ e in cc

  step_refuses : (place : ℕ) → Judged → check ≡ None → first ≡ None → q ≡ Err (StepText place) → whole ≡ Err (StepText place)
  step_refuses place (inl (g, is, told)) c e h = let all = sym told ∙ c in cc
  step_refuses place (inr (inl (y, is, none, told))) c e h = let all = sym told ∙ e in cc
  step_refuses place (inr (inr (inl (n, is, none, kept_all, stops)))) c e h = let same : n ≡ place = (let all = sym stops ∙ h in cc) in is ∙ ap (λ m. Err (StepText m)) same
  step_refuses place (inr (inr (inr (t, s, is, none, kept_all, read, steps)))) c e h = let all = sym steps ∙ h in cc

  all_stands : (t : T) (s : S) → Judged → check ≡ None → first ≡ None → r ≡ Ok t → q ≡ Ok s → whole ≡ Ok (make t s)
  all_stands t s (inl (g, is, told)) c e h k = let all = sym told ∙ c in cc
  all_stands t s (inr (inl (y, is, none, told))) c e h k = let all = sym told ∙ e in cc
  all_stands t s (inr (inr (inl (n, is, none, kept_all, stops)))) c e h k = let all = sym stops ∙ k in cc
  all_stands t s (inr (inr (inr (u, v, is, none, kept_all, read, steps)))) c e h k =
      let one : u ≡ t = (let all = sym read ∙ h in cc) in
      let two : v ≡ s = (let all = sym steps ∙ k in cc) in
      is ∙ ap₂ (λ (x : T) (y : S). Ok (make x y)) one two

-- the chain of a script
abbrev made_in : {T : Type 0} → (T → Bool) → Result T LibFault → Bool
made_in d (Ok t) = d t
made_in d (Err f) = true

abbrev joined : {T S : Type 0} → Result S LibFault → T → Result (T × S) LibFault
joined q t = q >>= λ s. Ok (t, s)

abbrev ended : {T S P : Type 0} → (T → S → P) → T × S → Result P LibFault
ended make last = Ok (make last.0 last.1)

abbrev planned : {T : Type 0} → Result T LibFault → (T → Bool) → Result T LibFault
planned r d = r >>= λ t. kept broken.TooMany (d t) >>= λ _. Ok t

abbrev ruled : Bool → Bool → Bool → Bool → Bool → Result Unit LibFault
ruled a b c d e = kept broken.TooMany a >>= λ _. kept broken.TooMany b >>= λ _. kept broken.Element c >>= λ _. kept broken.Controller d >>= λ _. kept broken.Name e

abbrev tests : Bool → Bool → Bool → Bool → Bool → Bool → Bool → List (Bool × DocumentRule)
tests a b c d e f g =
    (a, broken.TooMany) ∷ (b, broken.TooMany) ∷ (c, broken.Element) ∷ (d, broken.Controller) ∷ (e, broken.Name) ∷ (f, broken.Body) ∷ (g, broken.TooMany) ∷ []

judged_last : {T S P : Type 0} (t : T) (q : Result S LibFault) (make : T → S → P) → OnlyStep q → Judged (joined q t >>= λ last. ended make last) None None (Ok t) q make
judged_last t (Ok s) make h = inr (inr (inr (t, s, refl, refl, refl, refl, refl)))
judged_last t (Err f) make h = let (n, is) = h f refl in inr (inr (inl (n, ap Err is, refl, refl, ap Err is)))

judged_plans : {T S P : Type 0} (t : T) (b : Bool) (q : Result S LibFault) (make : T → S → P) → OnlyStep q
    → Judged (((kept broken.TooMany b >>= λ _. Ok t) >>= λ x. joined q x) >>= λ last. ended make last) None (first_broken ((b, broken.TooMany) ∷ [])) (Ok t) q make
judged_plans t true q make h = judged_last t q make h
judged_plans t false q make h = inr (inl (broken.TooMany, refl, refl, refl))

judged_rules : {T S P : Type 0} (a b c d e : Bool) (r : Result T LibFault) (g : T → Bool) (q : Result S LibFault) (make : T → S → P) → OnlyBody r → OnlyStep q
    → Judged (ruled a b c d e >>= λ _. (planned r g >>= λ t. joined q t) >>= λ last. ended make last) None (first_broken (tests a b c d e (is_ok r) (made_in g r))) r q make
judged_rules false b c d e r g q make h k = inr (inl (broken.TooMany, refl, refl, refl))
judged_rules true false c d e r g q make h k = inr (inl (broken.TooMany, refl, refl, refl))
judged_rules true true false d e r g q make h k = inr (inl (broken.Element, refl, refl, refl))
judged_rules true true true false e r g q make h k = inr (inl (broken.Controller, refl, refl, refl))
judged_rules true true true true false r g q make h k = inr (inl (broken.Name, refl, refl, refl))
judged_rules true true true true true (Err f) g q make h k = inr (inl (broken.Body, ap Err (h f refl), refl, refl))
judged_rules true true true true true (Ok t) g q make h k = judged_plans t (g t) q make k

judged_by : {T S P : Type 0} (check : Option CheckFault) (given : List Class × List (ℕ × ℕ)) (a b c d e : Bool) (r : Result T LibFault) (g : T → Bool) (q : Result S LibFault)
    (make : List Class × List (ℕ × ℕ) → T → S → P) → OnlyBody r → OnlyStep q
    → Judged (checked_by given check >>= λ l. ruled a b c d e >>= λ _. (planned r g >>= λ t. joined q t) >>= λ last. ended (make l) last) check (first_broken (tests a b c d e (is_ok r) (made_in g r))) r q (make given)
judged_by (Some f) given a b c d e r g q make h k = inl (f, refl, refl)
judged_by None given a b c d e r g q make h k = judged_rules a b c d e r g q (make given) h k

abbrev made : ScriptTable → List Class × List (ℕ × ℕ) → List PlanTxn → List (ℕ × Step) → Scripted
made table l ts ss = record { library = l.0; instances = l.1; elements = table.elements; controllers = table.controllers; transactions = ts; steps = ss }

same_made : (r : Result (List PlanTxn) LibFault) → made_in (λ ts. list_all makes_plan ts) r ≡ all_make_plans r
same_made (Ok ts) = refl
same_made (Err f) = refl

module _ (table : ScriptTable) where
  abbrev check_told : Option CheckFault
  check_told = first_fault table.classes table.instances

  abbrev first_told : Option DocumentRule
  first_told = first_broken (script_rules table)

  abbrev written : Result (List PlanTxn) LibFault
  written = each_of transaction_of table.transactions

  abbrev given : List Class × List (ℕ × ℕ)
  given = (table.classes, table.instances)

  abbrev limits : Bool
  limits = keeps_limits (plan_part table)

  abbrev counts : Bool
  counts = keeps_counts table.controllers (map step_of table.steps)

  abbrev elements : Bool
  elements = keeps_elements (plan_part table)

  abbrev controllers : Bool
  controllers = keeps_controllers table.elements table.controllers

  abbrev names : Bool
  names = keeps_names table.transactions

  same_rules : tests limits counts elements controllers names (is_ok written) (made_in (λ ts. list_all makes_plan ts) written) ≡ script_rules table
  same_rules = ap₂ (λ (f g : Bool). tests limits counts elements controllers names f g) (sym (bodies_read table.transactions)) (same_made written)

  abbrev JudgedScript : Type 0
  JudgedScript = Judged (script_in table) check_told first_told written (steps_in table) (made table given)

  judged : JudgedScript
  judged =
      subst (λ (ts : List (Bool × DocumentRule)). Judged (script_in table) check_told (first_broken ts) written (steps_in table) (made table given)) same_rules
      (judged_by check_told given limits counts elements controllers names written (λ ts. list_all makes_plan ts) (steps_in table) (made table) (only_bodies table.transactions)
      (only_steps 1 (map step_of table.steps)))

-- ---- a fault of keys
key_in : (table : ScriptTable) (fault : LibFault) → is_of_key fault ≡ true → script_in table ≢ Err fault
key_in table fault h =
    judged_other (script_in table) (check_told table) (first_told table) (written table) (steps_in table) (made table (given table)) fault
    (λ g e. false≢true (ap is_of_key (sym e) ∙ h)) (λ x e. false≢true (ap is_of_key (sym e) ∙ h)) (λ n e. false≢true (ap is_of_key (sym e) ∙ h)) (judged table)

key_read : (q : Result ScriptTable LibFault) (fault : LibFault) → is_of_key fault ≡ true → (q >>= script_in) ≡ Err fault → q ≡ Err fault
key_read (Ok table) fault h e = absurd (key_in table fault h e)
key_read (Err f) fault h e = let same : f ≡ fault = cc in ap Err same

key_told : (o : Option Members) (fault : LibFault) → is_of_key fault ≡ true → (table_in o >>= script) ≡ Err fault → (ms : Members) × (o ≡ Some ms) × (script_table ms ≡ Err fault)
key_told None fault h e = let same : NotToml ≡ fault = cc in absurd (false≢true (ap is_of_key same ∙ h))
key_told (Some ms) fault h e = (ms, refl, key_read (script_table ms) fault h e)

key_back : (bytes : List ℕ) (fault : LibFault) → ((ms : Members) × (document bytes ≡ Some ms) × (script_table ms ≡ Err fault)) → script_of bytes ≡ Err fault
key_back bytes fault (ms, read, told) = ap (λ o. table_in o >>= script) read ∙ ap (λ q. q >>= script_in) told

pub by_key : (bytes key : List ℕ) (fault : LibFault) → IsOfKey key fault → (script_of bytes ≡ Err fault) ↔ ((ms : Members) × (document bytes ≡ Some ms) × (script_table ms ≡ Err fault))
by_key bytes key fault h = (λ e. key_told (document bytes) fault (of_key key fault h) e, λ k. key_back bytes fault k)

-- ---- no TOML
other_in : (table : ScriptTable) (f : LibFault) → ((g : CheckFault) → f ≢ Check g) → ((x : DocumentRule) → f ≢ Rule x) → ((n : ℕ) → f ≢ StepText n) → script_in table ≢ Err f
other_in table f no_check no_rule no_step =
    judged_other (script_in table) (check_told table) (first_told table) (written table) (steps_in table) (made table (given table)) f no_check no_rule no_step (judged table)

other_read : (q : Result ScriptTable LibFault) (f : LibFault) → is_of_key f ≡ false → of_keys q ≡ true → ((table : ScriptTable) → script_in table ≢ Err f) → (q >>= script_in) ≢ Err f
other_read (Ok table) f key h inside e = inside table e
other_read (Err g) f key h inside e = let same : g ≡ f = cc in false≢true (sym key ∙ ap is_of_key (sym same) ∙ h)

toml_told : (o : Option Members) → (table_in o >>= script) ≡ Err NotToml → o ≡ None
toml_told None e = refl
toml_told (Some ms) e = absurd (other_read (script_table ms) NotToml refl (script_keys ms) (λ table. other_in table NotToml (λ g h. cc) (λ x h. cc) (λ n h. cc)) e)

pub by_toml : (bytes : List ℕ) → script_of bytes ≡ Err NotToml ↔ document bytes ≡ None
by_toml bytes = (λ e. toml_told (document bytes) e, λ e. ap (λ o. table_in o >>= script) e)

memory_told : (o : Option Members) → (table_in o >>= script) ≢ Err Memory
memory_told None e = cc
memory_told (Some ms) e = other_read (script_table ms) Memory refl (script_keys ms) (λ table. other_in table Memory (λ g h. cc) (λ x h. cc) (λ n h. cc)) e

pub by_no_memory : (bytes : List ℕ) → script_of bytes ≢ Err Memory
by_no_memory bytes = memory_told (document bytes)

-- ---- what the tables decide
-- whatever the tables decide, and no other fault but theirs
module _ {X : ScriptTable → Type 0} (r : Result Scripted LibFault) (f : LibFault) (is : r ≡ Err f) (key : is_of_key f ≡ false) (toml : f ≢ NotToml)
    (inside : (table : ScriptTable) → script_in table ≡ Err f → X table) where
  fault_read : (q : Result ScriptTable LibFault) → of_keys q ≡ true → (q >>= script_in) ≡ r → (table : ScriptTable) × (q ≡ Ok table) × X table
  fault_read (Ok table) h e = (table, refl, inside table (e ∙ is))
  fault_read (Err g) h e = let same : g ≡ f = (let all = e ∙ is in cc) in absurd (false≢true (sym key ∙ ap is_of_key (sym same) ∙ h))

  fault_told : (o : Option Members) → (table_in o >>= script) ≡ r → (ms : Members) × (table : ScriptTable) × (o ≡ Some ms) × (script_table ms ≡ Ok table) × X table
  fault_told None e = let same : NotToml ≡ f = (let all = e ∙ is in cc) in absurd (toml (sym same))
  fault_told (Some ms) e = let (table, read, x) = fault_read (script_table ms) (script_keys ms) e in (ms, table, refl, read, x)

from_tables : (bytes : List ℕ) (ms : Members) (table : ScriptTable) (r : Result Scripted LibFault) → document bytes ≡ Some ms → script_table ms ≡ Ok table → script_in table ≡ r → script_of bytes ≡ r
from_tables bytes ms table r read is means = ap (λ o. table_in o >>= script) read ∙ ap (λ q. q >>= script_in) is ∙ means

-- the check
check_in : (table : ScriptTable) (f : CheckFault) → script_in table ≡ Err (Check f) → check_told table ≡ Some f
check_in table f e = judged_check (script_in table) (check_told table) (first_told table) (written table) (steps_in table) (made table (given table)) f (judged table) e

check_back : (bytes : List ℕ) (f : CheckFault)
    → ((ms : Members) × (table : ScriptTable) × (document bytes ≡ Some ms) × (script_table ms ≡ Ok table) × (check_told table ≡ Some f)) → script_of bytes ≡ Err (Check f)
check_back bytes f (ms, table, read, is, told) =
    from_tables bytes ms table (Err (Check f)) read is
    (check_refuses (script_in table) (check_told table) (first_told table) (written table) (steps_in table) (made table (given table)) f (judged table) told)

pub by_check : (bytes : List ℕ) (fault : CheckFault)
    → (script_of bytes ≡ Err (Check fault)) ↔ ((ms : Members) × (table : ScriptTable) × (document bytes ≡ Some ms) × (script_table ms ≡ Ok table) × (first_fault table.classes table.instances ≡ Some fault))
by_check bytes fault =
    (λ e. fault_told {X = λ table. check_told table ≡ Some fault} (Err (Check fault)) (Check fault) refl refl (λ h. cc) (λ table h. check_in table fault h) (document bytes) e, λ h. check_back bytes fault h)

-- a rule
abbrev BreaksFirst : DocumentRule → ScriptTable → Type 0
BreaksFirst rule table = (check_told table ≡ None) × (first_told table ≡ Some rule)

rule_in : (table : ScriptTable) (rule : DocumentRule) → script_in table ≡ Err (Rule rule) → BreaksFirst rule table
rule_in table rule e = judged_rule (script_in table) (check_told table) (first_told table) (written table) (steps_in table) (made table (given table)) rule (judged table) e

abbrev RuleTold : List ℕ → DocumentRule → Type 0
RuleTold bytes rule =
    (ms : Members) × (table : ScriptTable) × (document bytes ≡ Some ms) × (script_table ms ≡ Ok table) × (first_fault table.classes table.instances ≡ None) × (first_broken (script_rules table) ≡ Some rule)

rule_told : (bytes : List ℕ) (rule : DocumentRule) → script_of bytes ≡ Err (Rule rule) → RuleTold bytes rule
rule_told bytes rule e =
    let (ms, table, read, is, h) = fault_told {X = BreaksFirst rule} (Err (Rule rule)) (Rule rule) refl refl (λ h. cc) (λ table h. rule_in table rule h) (document bytes) e in
    (ms, table, read, is, h.0, h.1)

rule_back : (bytes : List ℕ) (rule : DocumentRule) → RuleTold bytes rule → script_of bytes ≡ Err (Rule rule)
rule_back bytes rule (ms, table, read, is, none, told) =
    from_tables bytes ms table (Err (Rule rule)) read is
    (rule_refuses (script_in table) (check_told table) (first_told table) (written table) (steps_in table) (made table (given table)) rule (judged table) none told)

pub by_rule : (bytes : List ℕ) (rule : DocumentRule)
    → (script_of bytes ≡ Err (Rule rule)) ↔ ((ms : Members) × (table : ScriptTable) × (document bytes ≡ Some ms) × (script_table ms ≡ Ok table) × (first_fault table.classes table.instances ≡ None) × (first_broken (script_rules table) ≡ Some rule))
by_rule bytes rule = (rule_told bytes rule, rule_back bytes rule)

-- a step
abbrev StopsAt : ℕ → ScriptTable → Type 0
StopsAt place table = (check_told table ≡ None) × (first_told table ≡ None) × IsFirstWrong table.steps place

step_in : (table : ScriptTable) (place : ℕ) → script_in table ≡ Err (StepText place) → StopsAt place table
step_in table place e =
    let (none, kept_all, stops) = judged_step (script_in table) (check_told table) (first_told table) (written table) (steps_in table) (made table (given table)) place (judged table) e in
    (none, kept_all, wrong_is_first place table.steps stops)

abbrev StepTold : List ℕ → ℕ → Type 0
StepTold bytes place =
    (ms : Members) × (table : ScriptTable) × (document bytes ≡ Some ms) × (script_table ms ≡ Ok table) × (first_fault table.classes table.instances ≡ None) × (first_broken (script_rules table) ≡ None)
    × IsFirstWrong table.steps place

step_told : (bytes : List ℕ) (place : ℕ) → script_of bytes ≡ Err (StepText place) → StepTold bytes place
step_told bytes place e =
    let (ms, table, read, is, h) = fault_told {X = StopsAt place} (Err (StepText place)) (StepText place) refl refl (λ h. cc) (λ table h. step_in table place h) (document bytes) e in
    (ms, table, read, is, h.0, h.1, h.2)

step_back : (bytes : List ℕ) (place : ℕ) → StepTold bytes place → script_of bytes ≡ Err (StepText place)
step_back bytes place (ms, table, read, is, none, kept_all, wrong) =
    from_tables bytes ms table (Err (StepText place)) read is
    (step_refuses (script_in table) (check_told table) (first_told table) (written table) (steps_in table) (made table (given table)) place (judged table) none kept_all
    (first_is_wrong place table.steps wrong))

pub by_step : (bytes : List ℕ) (place : ℕ)
    → (script_of bytes ≡ Err (StepText place)) ↔ ((ms : Members) × (table : ScriptTable) × (document bytes ≡ Some ms) × (script_table ms ≡ Ok table) × (first_fault table.classes table.instances ≡ None) × (first_broken (script_rules table) ≡ None) × IsFirstWrong table.steps place)
by_step bytes place = (step_told bytes place, step_back bytes place)

-- ---- a script
read_as : (table : ScriptTable) (ts : List PlanTxn) (ss : List (ℕ × Step)) → written table ≡ Ok ts → steps_in table ≡ Ok ss → IsRead table (made table (given table) ts ss)
read_as table ts ss read steps = record { library = refl; instances = refl; elements = refl; controllers = refl; transactions = read; steps = steps }

abbrev StandsAs : Scripted → ScriptTable → Type 0
StandsAs s table = (check_told table ≡ None) × (first_told table ≡ None) × IsRead table s

pub script_stands : (table : ScriptTable) (s : Scripted) → script_in table ≡ Ok s → StandsAs s table
script_stands table s e =
    let (ts, ss, same, none, kept_all, read, steps) =
    judged_ok (script_in table) (check_told table) (first_told table) (written table) (steps_in table) (made table (given table)) s (judged table) e in
    (none, kept_all, subst (IsRead table) same (read_as table ts ss read steps))

script_read : (q : Result ScriptTable LibFault) (s : Scripted) → (q >>= script_in) ≡ Ok s → (table : ScriptTable) × (q ≡ Ok table) × StandsAs s table
script_read (Ok table) s e = (table, refl, script_stands table s e)
script_read (Err f) s e = cc

script_told : (o : Option Members) (s : Scripted) → (table_in o >>= script) ≡ Ok s → (ms : Members) × (table : ScriptTable) × (o ≡ Some ms) × (script_table ms ≡ Ok table) × StandsAs s table
script_told None s e = cc
script_told (Some ms) s e = let (table, is, stands) = script_read (script_table ms) s e in (ms, table, refl, is, stands)

abbrev ScriptTold : List ℕ → Scripted → Type 0
ScriptTold bytes s =
    (ms : Members) × (table : ScriptTable) × (document bytes ≡ Some ms) × (script_table ms ≡ Ok table) × (first_fault table.classes table.instances ≡ None) × (first_broken (script_rules table) ≡ None) × IsRead table s

pub told_by : (bytes : List ℕ) (s : Scripted) → script_of bytes ≡ Ok s → ScriptTold bytes s
told_by bytes s e =
    let (ms, table, read, is, stands) = script_told (document bytes) s e in
    (ms, table, read, is, stands.0, stands.1, stands.2)

-- tables that say the same are the same script
same_script : (table : ScriptTable) (s : Scripted) → IsRead table s → made table (given table) s.transactions s.steps ≡ s
same_script table s h =
    ap₂ (λ (cs : List Class) (is : List (ℕ × ℕ)). record { library = cs; instances = is; elements = table.elements; controllers = table.controllers; transactions = s.transactions; steps = s.steps }) (sym h.library) (sym h.instances)
    ∙ ap₂ (λ (es : List (ℕ × ℕ)) (cs : List ℕ). record { library = s.library; instances = s.instances; elements = es; controllers = cs; transactions = s.transactions; steps = s.steps }) (sym h.elements) (sym h.controllers)

told_back : (bytes : List ℕ) (s : Scripted) → ScriptTold bytes s → script_of bytes ≡ Ok s
told_back bytes s (ms, table, read, is, none, kept_all, h) =
    from_tables bytes ms table (Ok s) read is
    (all_stands (script_in table) (check_told table) (first_told table) (written table) (steps_in table) (made table (given table)) s.transactions s.steps (judged table) none kept_all h.transactions h.steps
    ∙ ap Ok (same_script table s h))

pub by_script : (bytes : List ℕ) (s : Scripted)
    → (script_of bytes ≡ Ok s) ↔ ((ms : Members) × (table : ScriptTable) × (document bytes ≡ Some ms) × (script_table ms ≡ Ok table) × (first_fault table.classes table.instances ≡ None) × (first_broken (script_rules table) ≡ None) × IsRead table s)
by_script bytes s = (told_by bytes s, told_back bytes s)
