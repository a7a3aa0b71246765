-- Each cause of a refusal stands alone.
use Rattle.std.proofs.Common.{rules, ◌≡◌, ◌≢◌, ◌↔◌, ◌⊎◌, ℕ, ℤ, pos, negsuc, ◌==◌, ◌&&◌, Bool, true, false, not, List, [], ◌∷◌, length, Option, Some, None, Result, Ok, Err, refl, sym, ap, ap₂, ◌∙◌, subst, inl, inr}
use Rattle.std.proofs.lemmas.Bool.{false≢true}
use Rattle.std.specs.List.{list_all}
use Rattle.std.specs.Result.{is_ok}
use Rattle.toml.specs.Data.{Data, Members, get_member, as_integer}
use Rattle.fc_path.specs.declared.oper.Select.{Select}
use Rattle.fc_plans.specs.Changes.{change_fault}
use Rattle.fc_plans.specs.declared.fault.ChangeFault.{ChangeFault}
use Rattle.fc_lines.specs.TextPlaces.{TextPlace}
use Rattle.fc_text.specs.TextReading.{body_in}
use Rattle.fc_types.specs.declared.fault.CheckFault.{CheckFault}
use Rattle.fc_base.specs.Answers.{◌>>=◌}
use Rattle.fc_library.specs.Documents.{document}
use Rattle.fc_library.specs.declared.fault.DocumentRule.{DocumentRule}
use Rattle.fc_library.specs.declared.fault.DocumentRule.TheVariants as broken
use Rattle.fc_library.specs.declared.fault.LibFault.{LibFault}
use Rattle.fc_library.specs.declared.fault.LibFault.TheVariants.{NotToml, Unknown, Missing, WrongKind, Check, Rule, StepText, Memory}
use Rattle.fc_library.proofs.KeyFaults.{is_of_key, of_keys, bind_keys, given_keys, only_keys, number_keys, text_keys, truth_keys, tables_keys, tables_or_keys, each_keys}
use Rattle.fc_documents.specs.Tables.{table_in, element_at, moment_in, moment, moment_or_none, element, change, transaction, plan_table}
use Rattle.fc_documents.specs.Rules.{kept, participants, bodies_at, keeps_limits, keeps_elements, keeps_names}
use Rattle.fc_documents.specs.Parts.{each_of, change_if, change_by, change_of, part_of, parts_of, transaction_of, can_begin}
use Rattle.fc_documents.specs.Plans.{Planned, plan_in, plan, plan_of}
use Rattle.fc_documents.specs.Causes.{IsOfKey, is_change, has_body, has_bodies, all_can_begin, plan_rules, first_broken}
use Rattle.fc_documents.specs.declared.tables.ChangeTable.{ChangeTable}
use Rattle.fc_documents.specs.declared.tables.TransactionTable.{TransactionTable}
use Rattle.fc_documents.specs.declared.tables.PlanTable.{PlanTable}
use Rattle.fc_documents.specs.declared.transaction.PlanTxn.{PlanTxn}
use Rattle.fc_documents.proofs.Grouping.{grouped}
use Rattle.fc_documents.proofs.Keeping.{Parts, made, planned}

-- the tables give no fault but those of keys
moment_in_keys : (key : List ℕ) (o : Option ℤ) → of_keys (moment_in key o) ≡ true
moment_in_keys key None = refl
moment_in_keys key (Some (pos n)) = refl
moment_in_keys key (Some (negsuc n)) = refl

moment_keys : (key : List ℕ) (ms : Members) → of_keys (moment_or_none key ms) ≡ true
moment_keys key ms =
    given_keys None (λ d. moment key d >>= λ n. Ok (Some n)) (get_member key ms) (λ d. bind_keys (moment key d) (λ n. Ok (Some n)) (moment_in_keys key (as_integer d)) (λ n. refl))

element_keys : (ms : Members) → of_keys (element ms) ≡ true
element_keys ms = search (rules, bind_keys, only_keys, number_keys) depth 12

pub change_keys : (ms : Members) → of_keys (change ms) ≡ true
change_keys ms = search (rules, bind_keys, only_keys, number_keys, text_keys) depth 12

transaction_keys : (ms : Members) → of_keys (transaction ms) ≡ true
transaction_keys ms = search (rules, bind_keys, only_keys, text_keys, truth_keys, moment_keys, tables_keys, each_keys, change_keys) depth 12

plan_keys : (ms : Members) → of_keys (plan_table ms) ≡ true
plan_keys ms = search (rules, bind_keys, only_keys, tables_keys, tables_or_keys, each_keys, element_keys, transaction_keys) depth 12

-- the bodies give no fault but that of the rule, and something exactly where each one is a change
abbrev pub OnlyBody : {A : Type 0} → Result A LibFault → Type 0
OnlyBody {A} r = (fault : LibFault) → r ≡ Err fault → fault ≡ Rule broken.Body

only_if : (selects : List Select) (o : Option ChangeFault) → OnlyBody (change_if selects o)
only_if selects None fault e = cc
only_if selects (Some f) fault e = cc

only_by : (r : Result (List Select) TextPlace) → OnlyBody (change_by r)
only_by (Ok selects) = only_if selects (change_fault selects)
only_by (Err place) = λ fault e. cc

only_both : {B : Type 0} (r : Result B LibFault) (s : Result (List B) LibFault) → OnlyBody r → OnlyBody s → OnlyBody (r >>= λ y. s >>= λ ys. Ok (y ∷ ys))
only_both (Ok y) (Ok ys) h k fault e = cc
only_both (Ok y) (Err f) h k fault e = k fault (let same : f ≡ fault = cc in ap Err same)
only_both (Err f) s h k fault e = h fault (let same : f ≡ fault = cc in ap Err same)

only_each : {A B : Type 0} (read : A → Result B LibFault) → ((x : A) → OnlyBody (read x)) → (xs : List A) → OnlyBody (each_of read xs)
only_each read h [] = λ fault e. cc
only_each read h (x ∷ xs) = only_both (read x) (each_of read xs) (h x) (only_each read h xs)

only_made : {A B : Type 0} (r : Result A LibFault) (f : A → B) → OnlyBody r → OnlyBody (r >>= λ x. Ok (f x))
only_made (Ok x) f h fault e = cc
only_made (Err g) f h fault e = h fault (let same : g ≡ fault = cc in ap Err same)

only_kept : {A : Type 0} (b : Bool) (r : Result A LibFault) → OnlyBody r → OnlyBody (kept broken.Body b >>= λ _. r)
only_kept true r h = h
only_kept false r h = λ fault e. cc

only_part : (cs : List ChangeTable) (e : ℕ) → OnlyBody (part_of cs e)
only_part cs e = only_made (each_of change_of (bodies_at e cs)) (λ changes. (e, changes)) (only_each change_of (λ body. only_by (body_in body)) (bodies_at e cs))

only_transaction : (t : TransactionTable) → OnlyBody (transaction_of t)
only_transaction t =
    only_made (parts_of t.changes) (made t)
    (only_kept (not (length t.changes == 0)) (each_of (part_of t.changes) (participants t.changes)) (only_each (part_of t.changes) (only_part t.changes) (participants t.changes)))

ok_both : {B : Type 0} (r : Result B LibFault) (s : Result (List B) LibFault) → (is_ok r && is_ok s) ≡ is_ok (r >>= λ y. s >>= λ ys. Ok (y ∷ ys))
ok_both (Ok y) (Ok ys) = refl
ok_both (Ok y) (Err f) = refl
ok_both (Err f) s = refl

ok_each : {A B : Type 0} (read : A → Result B LibFault) (P : A → Bool) → ((x : A) → P x ≡ is_ok (read x)) → (xs : List A) → list_all P xs ≡ is_ok (each_of read xs)
ok_each read P same [] = refl
ok_each read P same (x ∷ xs) = ap₂ (λ (a b : Bool). a && b) (same x) (ok_each read P same xs) ∙ ok_both (read x) (each_of read xs)

ok_made : {A B : Type 0} (r : Result A LibFault) (f : A → B) → is_ok r ≡ is_ok (r >>= λ x. Ok (f x))
ok_made (Ok x) f = refl
ok_made (Err g) f = refl

ok_kept : {A : Type 0} (b : Bool) (r : Result A LibFault) → (b && is_ok r) ≡ is_ok (kept broken.Body b >>= λ _. r)
ok_kept true r = refl
ok_kept false r = refl

part_ok : (cs : List ChangeTable) (e : ℕ) → list_all is_change (bodies_at e cs) ≡ is_ok (part_of cs e)
part_ok cs e = ok_each change_of is_change (λ body. refl) (bodies_at e cs) ∙ ok_made (each_of change_of (bodies_at e cs)) (λ changes. (e, changes))

parts_ok : (cs : List ChangeTable) → (not (length cs == 0) && list_all has_body cs) ≡ is_ok (parts_of cs)
parts_ok cs =
    ap (λ (b : Bool). not (length cs == 0) && b) (sym (grouped is_change cs) ∙ ok_each (part_of cs) (λ e. list_all is_change (bodies_at e cs)) (part_ok cs) (participants cs))
    ∙ ok_kept (not (length cs == 0)) (each_of (part_of cs) (participants cs))

bodies_ok : (t : TransactionTable) → has_bodies t ≡ is_ok (transaction_of t)
bodies_ok t = parts_ok t.changes ∙ ok_made (parts_of t.changes) (made t)

pub only_bodies : (ts : List TransactionTable) → OnlyBody (each_of transaction_of ts)
only_bodies ts = only_each transaction_of only_transaction ts

pub bodies_read : (ts : List TransactionTable) → list_all has_bodies ts ≡ is_ok (each_of transaction_of ts)
bodies_read ts = ok_each transaction_of has_bodies bodies_ok ts

-- the rules, in their order
abbrev Judged : {T P : Type 0} → Result P LibFault → Option DocumentRule → Result T LibFault → (T → P) → Type 0
Judged {T} {P} whole first r make = ((x : DocumentRule) × (whole ≡ Err (Rule x)) × (first ≡ Some x)) ⊎ ((t : T) × (whole ≡ Ok (make t)) × (r ≡ Ok t) × (first ≡ None))

abbrev begun_in : {T : Type 0} → (T → Bool) → Result T LibFault → Bool
begun_in d (Ok t) = d t
begun_in d (Err f) = true

judged_last : {T P : Type 0} (b : Bool) (t : T) (make : T → P) → Judged (kept broken.TooMany b >>= λ _. Ok (make t)) (first_broken ((b, broken.TooMany) ∷ [])) (Ok t) make
judged_last true t make = inr (t, refl, refl, refl)
judged_last false t make = inl (broken.TooMany, refl, refl)

judged_by : {T P : Type 0} (a b c : Bool) (r : Result T LibFault) (d : T → Bool) (make : T → P) → OnlyBody r
    → Judged (kept broken.TooMany a >>= λ _. kept broken.Element b >>= λ _. kept broken.Name c >>= λ _. r >>= λ t. kept broken.TooMany (d t) >>= λ _. Ok (make t))
    (first_broken ((a, broken.TooMany) ∷ (b, broken.Element) ∷ (c, broken.Name) ∷ (is_ok r, broken.Body) ∷ (begun_in d r, broken.TooMany) ∷ [])) r make
judged_by false b c r d make h = inl (broken.TooMany, refl, refl)
judged_by true false c r d make h = inl (broken.Element, refl, refl)
judged_by true true false r d make h = inl (broken.Name, refl, refl)
judged_by true true true (Err f) d make h = inl (broken.Body, ap Err (h f refl), refl)
judged_by true true true (Ok t) d make h = judged_last (d t) t make

same_begun : (r : Result (List PlanTxn) LibFault) → begun_in (λ ts. list_all can_begin ts) r ≡ all_can_begin r
same_begun (Ok ts) = refl
same_begun (Err f) = refl

same_rules : (table : PlanTable)
    → (keeps_limits table, broken.TooMany) ∷ (keeps_elements table, broken.Element) ∷ (keeps_names table.transactions, broken.Name)
    ∷ (is_ok (each_of transaction_of table.transactions), broken.Body) ∷ (begun_in (λ ts. list_all can_begin ts) (each_of transaction_of table.transactions), broken.TooMany) ∷ []
    ≡ plan_rules table
same_rules table =
    ap₂ (λ (b d : Bool). (keeps_limits table, broken.TooMany) ∷ (keeps_elements table, broken.Element) ∷ (keeps_names table.transactions, broken.Name) ∷ (b, broken.Body) ∷ (d, broken.TooMany) ∷ [])
    (sym (bodies_read table.transactions)) (same_begun (each_of transaction_of table.transactions))

judged : (table : PlanTable) → Judged (plan_in table) (first_broken (plan_rules table)) (each_of transaction_of table.transactions) (planned table.elements)
judged table =
    subst (λ (tests : List (Bool × DocumentRule)). Judged (plan_in table) (first_broken tests) (each_of transaction_of table.transactions) (planned table.elements)) (same_rules table)
    (judged_by (keeps_limits table) (keeps_elements table) (keeps_names table.transactions) (each_of transaction_of table.transactions) (λ ts. list_all can_begin ts) (planned table.elements)
    (only_bodies table.transactions))

-- what follows of it
module _ {T P : Type 0} (whole : Result P LibFault) (first : Option DocumentRule) (r : Result T LibFault) (make : T → P) where
  judged_fault : (fault : LibFault) → Judged whole first r make → whole ≡ Err fault → (x : DocumentRule) × (fault ≡ Rule x) × (first ≡ Some x)
  judged_fault fault (inl (x, is, told)) e = let same : Rule x ≡ fault = (let both = sym is ∙ e in cc) in (x, sym same, told)
  judged_fault fault (inr (t, is, read, none)) e = let both = sym is ∙ e in cc

  judged_ok : (p : P) → Judged whole first r make → whole ≡ Ok p → (t : T) × (make t ≡ p) × (r ≡ Ok t) × (first ≡ None)
  judged_ok p (inl (x, is, told)) e = let both = sym is ∙ e in cc
  judged_ok p (inr (t, is, read, none)) e = let same : make t ≡ p = (let both = sym is ∙ e in cc) in (t, same, read, none)

  judged_broken : (x : DocumentRule) → Judged whole first r make → first ≡ Some x → whole ≡ Err (Rule x)
  judged_broken x (inl (y, is, told)) e = let same : y ≡ x = (let both = sym told ∙ e in cc) in is ∙ ap (λ z. Err (Rule z)) same
  judged_broken x (inr (t, is, read, none)) e = let both = sym none ∙ e in cc

  judged_kept : Judged whole first r make → first ≡ None → (t : T) × (whole ≡ Ok (make t)) × (r ≡ Ok t)
  judged_kept (inl (y, is, told)) e = let both = sym told ∙ e in cc
  judged_kept (inr (t, is, read, none)) e = (t, is, read)

module _ (table : PlanTable) where
  abbrev first_told : Option DocumentRule
  first_told = first_broken (plan_rules table)

  abbrev written : Result (List PlanTxn) LibFault
  written = each_of transaction_of table.transactions

  fault_in : (fault : LibFault) → plan_in table ≡ Err fault → (x : DocumentRule) × (fault ≡ Rule x) × (first_told ≡ Some x)
  fault_in fault e = judged_fault (plan_in table) first_told written (planned table.elements) fault (judged table) e

  plan_given : (p : Planned) → plan_in table ≡ Ok p → (ts : List PlanTxn) × (planned table.elements ts ≡ p) × (written ≡ Ok ts) × (first_told ≡ None)
  plan_given p e = judged_ok (plan_in table) first_told written (planned table.elements) p (judged table) e

  rule_broken : (x : DocumentRule) → first_told ≡ Some x → plan_in table ≡ Err (Rule x)
  rule_broken x e = judged_broken (plan_in table) first_told written (planned table.elements) x (judged table) e

  rules_kept : first_told ≡ None → (ts : List PlanTxn) × (plan_in table ≡ Ok (planned table.elements ts)) × (written ≡ Ok ts)
  rules_kept e = judged_kept (plan_in table) first_told written (planned table.elements) (judged table) e

-- a fault of keys
key_in : (table : PlanTable) (fault : LibFault) → is_of_key fault ≡ true → plan_in table ≢ Err fault
key_in table fault h e = let (x, is, told) = fault_in table fault e in false≢true (ap is_of_key (sym is) ∙ h)

key_read : (q : Result PlanTable LibFault) (fault : LibFault) → is_of_key fault ≡ true → (q >>= plan_in) ≡ Err fault → q ≡ Err fault
key_read (Ok table) fault h e = absurd (key_in table fault h e)
key_read (Err f) fault h e = let same : f ≡ fault = cc in ap Err same

key_told : (o : Option Members) (fault : LibFault) → is_of_key fault ≡ true → (table_in o >>= plan) ≡ Err fault → (ms : Members) × (o ≡ Some ms) × (plan_table ms ≡ Err fault)
key_told None fault h e = let same : NotToml ≡ fault = cc in absurd (false≢true (ap is_of_key same ∙ h))
key_told (Some ms) fault h e = (ms, refl, key_read (plan_table ms) fault h e)

pub of_key : (key : List ℕ) (fault : LibFault) → IsOfKey key fault → is_of_key fault ≡ true
of_key key fault (inl is) = ap is_of_key is
of_key key fault (inr (inl is)) = ap is_of_key is
of_key key fault (inr (inr is)) = ap is_of_key is

key_back : (bytes : List ℕ) (fault : LibFault) → ((ms : Members) × (document bytes ≡ Some ms) × (plan_table ms ≡ Err fault)) → plan_of bytes ≡ Err fault
key_back bytes fault (ms, read, told) = ap (λ o. table_in o >>= plan) read ∙ ap (λ q. q >>= plan_in) told

pub by_key : (bytes key : List ℕ) (fault : LibFault) → IsOfKey key fault → (plan_of bytes ≡ Err fault) ↔ ((ms : Members) × (document bytes ≡ Some ms) × (plan_table ms ≡ Err fault))
by_key bytes key fault h = (λ e. key_told (document bytes) fault (of_key key fault h) e, λ k. key_back bytes fault k)

-- no TOML
toml_in : (table : PlanTable) → plan_in table ≢ Err NotToml
toml_in table e = let (x, is, told) = fault_in table NotToml e in cc

toml_read : (q : Result PlanTable LibFault) → of_keys q ≡ true → (q >>= plan_in) ≢ Err NotToml
toml_read (Ok table) h e = toml_in table e
toml_read (Err f) h e = let same : f ≡ NotToml = cc in false≢true (ap is_of_key (sym same) ∙ h)

toml_told : (o : Option Members) → (table_in o >>= plan) ≡ Err NotToml → o ≡ None
toml_told None e = refl
toml_told (Some ms) e = absurd (toml_read (plan_table ms) (plan_keys ms) e)

pub by_toml : (bytes : List ℕ) → plan_of bytes ≡ Err NotToml ↔ document bytes ≡ None
by_toml bytes = (λ e. toml_told (document bytes) e, λ e. ap (λ o. table_in o >>= plan) e)

-- a rule
rule_in : (table : PlanTable) (rule : DocumentRule) → plan_in table ≡ Err (Rule rule) → first_told table ≡ Some rule
rule_in table rule e = let (x, is, told) = fault_in table (Rule rule) e in let same : x ≡ rule = cc in told ∙ ap Some same

rule_read : (q : Result PlanTable LibFault) (rule : DocumentRule) → of_keys q ≡ true → (q >>= plan_in) ≡ Err (Rule rule) → (table : PlanTable) × (q ≡ Ok table) × (first_told table ≡ Some rule)
rule_read (Ok table) rule h e = (table, refl, rule_in table rule e)
rule_read (Err f) rule h e = let same : f ≡ Rule rule = cc in absurd (false≢true (ap is_of_key (sym same) ∙ h))

rule_told : (o : Option Members) (rule : DocumentRule) → (table_in o >>= plan) ≡ Err (Rule rule)
    → (ms : Members) × (table : PlanTable) × (o ≡ Some ms) × (plan_table ms ≡ Ok table) × (first_told table ≡ Some rule)
rule_told None rule e = cc
rule_told (Some ms) rule e = let (table, is, told) = rule_read (plan_table ms) rule (plan_keys ms) e in (ms, table, refl, is, told)

rule_back : (bytes : List ℕ) (rule : DocumentRule)
    → ((ms : Members) × (table : PlanTable) × (document bytes ≡ Some ms) × (plan_table ms ≡ Ok table) × (first_told table ≡ Some rule)) → plan_of bytes ≡ Err (Rule rule)
rule_back bytes rule (ms, table, read, is, told) = ap (λ o. table_in o >>= plan) read ∙ ap (λ q. q >>= plan_in) is ∙ rule_broken table rule told

pub by_rule : (bytes : List ℕ) (rule : DocumentRule)
    → (plan_of bytes ≡ Err (Rule rule)) ↔ ((ms : Members) × (table : PlanTable) × (document bytes ≡ Some ms) × (plan_table ms ≡ Ok table) × (first_broken (plan_rules table) ≡ Some rule))
by_rule bytes rule = (λ e. rule_told (document bytes) rule e, λ h. rule_back bytes rule h)

-- a plan
abbrev Means : PlanTable → Planned → Type 0
Means table p = (first_broken (plan_rules table) ≡ None) × (p.elements ≡ table.elements) × (each_of transaction_of table.transactions ≡ Ok p.transactions)

plan_means : (table : PlanTable) (p : Planned) → plan_in table ≡ Ok p → Means table p
plan_means table p e = let (ts, is, read, none) = plan_given table p e in subst (Means table) is (none, refl, read)

means_read : (q : Result PlanTable LibFault) (p : Planned) → (q >>= plan_in) ≡ Ok p → (table : PlanTable) × (q ≡ Ok table) × Means table p
means_read (Ok table) p e = (table, refl, plan_means table p e)
means_read (Err f) p e = cc

means_told : (o : Option Members) (p : Planned) → (table_in o >>= plan) ≡ Ok p → (ms : Members) × (table : PlanTable) × (o ≡ Some ms) × (plan_table ms ≡ Ok table) × Means table p
means_told None p e = cc
means_told (Some ms) p e = let (table, is, means) = means_read (plan_table ms) p e in (ms, table, refl, is, means)

means_plan : (table : PlanTable) (p : Planned) → Means table p → plan_in table ≡ Ok p
means_plan table p (none, elements, transactions) =
    let (ts, is, read) = rules_kept table none in
    let same : ts ≡ p.transactions = (let both = sym read ∙ transactions in cc) in
    is ∙ ap₂ (λ (es : List ℕ) (xs : List PlanTxn). Ok (planned es xs)) (sym elements) same

means_back : (bytes : List ℕ) (p : Planned) → ((ms : Members) × (table : PlanTable) × (document bytes ≡ Some ms) × (plan_table ms ≡ Ok table) × Means table p) → plan_of bytes ≡ Ok p
means_back bytes p (ms, table, read, is, means) = ap (λ o. table_in o >>= plan) read ∙ ap (λ q. q >>= plan_in) is ∙ means_plan table p means

plan_told : (bytes : List ℕ) (p : Planned) → plan_of bytes ≡ Ok p
    → (ms : Members) × (table : PlanTable) × (document bytes ≡ Some ms) × (plan_table ms ≡ Ok table) × (first_broken (plan_rules table) ≡ None) × (p.elements ≡ table.elements)
    × (each_of transaction_of table.transactions ≡ Ok p.transactions)
plan_told bytes p e =
    let (ms, table, read, is, means) = means_told (document bytes) p e in
    (ms, table, read, is, means.0, means.1, means.2)

plan_back : (bytes : List ℕ) (p : Planned)
    → ((ms : Members) × (table : PlanTable) × (document bytes ≡ Some ms) × (plan_table ms ≡ Ok table) × (first_broken (plan_rules table) ≡ None) × (p.elements ≡ table.elements)
    × (each_of transaction_of table.transactions ≡ Ok p.transactions))
    → plan_of bytes ≡ Ok p
plan_back bytes p (ms, table, read, is, none, elements, transactions) = means_back bytes p (ms, table, read, is, (none, elements, transactions))

pub by_plan : (bytes : List ℕ) (p : Planned)
    → (plan_of bytes ≡ Ok p)
    ↔ ((ms : Members) × (table : PlanTable) × (document bytes ≡ Some ms) × (plan_table ms ≡ Ok table) × (first_broken (plan_rules table) ≡ None) × (p.elements ≡ table.elements)
    × (each_of transaction_of table.transactions ≡ Ok p.transactions))
by_plan bytes p = (λ e. plan_told bytes p e, λ h. plan_back bytes p h)

-- no other fault
other_in : (table : PlanTable) (f : LibFault) → ((rule : DocumentRule) → f ≢ Rule rule) → plan_in table ≢ Err f
other_in table f unlike e = let (x, is, told) = fault_in table f e in unlike x is

other_read : (q : Result PlanTable LibFault) (f : LibFault) → is_of_key f ≡ false → ((rule : DocumentRule) → f ≢ Rule rule) → of_keys q ≡ true → (q >>= plan_in) ≢ Err f
other_read (Ok table) f key unlike h e = other_in table f unlike e
other_read (Err g) f key unlike h e = let same : g ≡ f = cc in false≢true (sym key ∙ ap is_of_key (sym same) ∙ h)

other_told : (o : Option Members) (f : LibFault) → is_of_key f ≡ false → ((rule : DocumentRule) → f ≢ Rule rule) → f ≢ NotToml → (table_in o >>= plan) ≢ Err f
other_told None f key unlike toml e = let same : NotToml ≡ f = cc in toml (sym same)
other_told (Some ms) f key unlike toml e = other_read (plan_table ms) f key unlike (plan_keys ms) e

pub by_no_step : (bytes : List ℕ) (place : ℕ) → plan_of bytes ≢ Err (StepText place)
by_no_step bytes place = other_told (document bytes) (StepText place) refl (λ rule e. cc) (λ e. cc)

pub by_no_other : (bytes : List ℕ) (fault : CheckFault) → (plan_of bytes ≢ Err (Check fault)) × (plan_of bytes ≢ Err Memory)
by_no_other bytes fault = (other_told (document bytes) (Check fault) refl (λ rule e. cc) (λ e. cc), other_told (document bytes) Memory refl (λ rule e. cc) (λ e. cc))
