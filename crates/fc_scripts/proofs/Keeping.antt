-- What a document means keeps the rules of a script.
use Rattle.std.proofs.Common.{◌≡◌, ◌<◌, ◌^◌, ℕ, zero, suc, ◌+◌, ◌-◌, nat_eq, nat_le, ◌&&◌, Bool, true, false, List, [], ◌∷◌, ◌++◌, map, length, Option, Some, None, Result, Ok, Err, refl, sym, ap, ◌∙◌, subst, arith}
use Rattle.std.proofs.lemmas.Bool.{and_parts, leb-true}
use Rattle.std.proofs.lemmas.List.{length-map}
use Rattle.std.specs.List.{AllByRecursion, list_all}
use Rattle.std.specs.Str.{bytes_eq}
use Rattle.fc_types.specs.Classes.{class_keeps}
use Rattle.fc_types.specs.Ids.{is_distinct}
use Rattle.fc_types.specs.Libraries.{AreKnown, are_few, class_id, class_rules, differ_in_ids, first_fault, instance_rules, is_known, is_own, same_instance}
use Rattle.fc_types.specs.Libraries as libraries
use Rattle.fc_types.specs.declared.class.Class.{Class}
use Rattle.fc_types.specs.declared.class_rules.ClassRule.TheVariants.{DistinctIds, Shallow, Ranges, AtomicKeys, Targets}
use Rattle.fc_types.specs.declared.fault.CheckFault.{CheckFault}
use Rattle.fc_library.specs.Documents.{GivesLibrary}
use Rattle.fc_library.specs.declared.fault.DocumentRule.{DocumentRule}
use Rattle.fc_library.specs.declared.fault.LibFault.{LibFault}
use Rattle.fc_documents.specs.Causes.{first_broken, has_bodies}
use Rattle.fc_documents.specs.Kept.{has_listed}
use Rattle.fc_documents.specs.Kept as kept
use Rattle.fc_documents.specs.Parts.{each_of, transaction_of, makes_plan}
use Rattle.fc_documents.specs.Rules.{has_few, is_short, has_name, name_of, keeps_to, keeps_limits, keeps_elements, keeps_names}
use Rattle.fc_documents.specs.declared.transaction.PlanTxn.{PlanTxn}
use Rattle.fc_documents.proofs.Chains.{read_first, all_made, same_mapped, same_length}
use Rattle.fc_documents.proofs.Keeping.{transaction_listed, same_name, named_still}
use Rattle.fc_steps.specs.Steps.{CanSay, step_of}
use Rattle.fc_steps.specs.declared.step.Step.{Step}
use Rattle.fc_steps.specs.declared.step.StepText.{StepText}
use Rattle.fc_steps.specs.declared.step.StepText.TheVariants.{One, Deliveries}
use Rattle.fc_steps.proofs.Saying.{step_said}
use Rattle.fc_scripts.specs.Causes.{all_make_plans, script_rules, IsRead}
use Rattle.fc_scripts.specs.Kept.{CanBeSaid, IsScript}
use Rattle.fc_scripts.specs.Rules.{number_of, is_served, keeps_counts, keeps_controllers}
use Rattle.fc_scripts.specs.Scripts.{Scripted, first_kept, first_rules, last_of, library_in, plan_part, script_of, with_instances, script_in}
use Rattle.fc_scripts.specs.Steps.{count, numbers_from, delivery, steps_at, steps_from}
use Rattle.fc_scripts.specs.Tables.{id_of}
use Rattle.fc_scripts.specs.declared.tables.ScriptTable.{ScriptTable}
use Rattle.fc_scripts.proofs.Changing.{all_change_well}
use Rattle.fc_scripts.proofs.Counting.{counted}
use Rattle.fc_scripts.proofs.Judging.{told_by, script_stands}

-- ---- a library without faults
abbrev is_kept : Bool × CheckFault → Bool
is_kept rule = rule.0

none_by : (b : Bool) (f : CheckFault) (more : List (Bool × CheckFault)) → (libraries.first_broken more ≡ None → list_all is_kept more ≡ true) → libraries.first_broken ((b, f) ∷ more) ≡ None
    → (b && list_all is_kept more) ≡ true
none_by true f more h e = h e
none_by false f more h e = cc

none_broken : (rules : List (Bool × CheckFault)) → libraries.first_broken rules ≡ None → list_all is_kept rules ≡ true
none_broken [] e = refl
none_broken (rule ∷ more) e = none_by rule.0 rule.1 more (none_broken more) e

second_and_seventh : (a b c d e f g h : Bool) → (a && (b && (c && (d && (e && (f && (g && (h && true)))))))) ≡ true → (b ≡ true) × (g ≡ true)
second_and_seventh true true true true true true true h e = (refl, refl)
second_and_seventh false b c d e' f g h e = cc
second_and_seventh true false c d e' f g h e = cc
second_and_seventh true true false d e' f g h e = cc
second_and_seventh true true true false e' f g h e = cc
second_and_seventh true true true true false f g h e = cc
second_and_seventh true true true true true false g h e = cc
second_and_seventh true true true true true true false h e = cc

sound_parts : (classes : List Class) (pairs : List (ℕ × ℕ)) → first_fault classes pairs ≡ None → (differ_in_ids classes ≡ true) × (list_all (is_known classes) pairs ≡ true)
unfolding first_fault class_rules instance_rules
sound_parts classes pairs e =
    second_and_seventh (are_few classes pairs) (differ_in_ids classes) (list_all (class_keeps Shallow) classes) (list_all (class_keeps Ranges) classes) (list_all (class_keeps AtomicKeys) classes)
    (list_all (class_keeps Targets) classes) (list_all (is_known classes) pairs) (is_distinct same_instance pairs) (none_broken (class_rules classes pairs ++ instance_rules classes pairs) e)

own_classes : (classes : List Class) → differ_in_ids classes ≡ true → list_all is_own classes ≡ true
own_classes classes h =
    let (ids, members) = and_parts (is_distinct nat_eq (map class_id classes) && list_all is_own classes) (list_all (class_keeps DistinctIds) classes) h in
    (and_parts (is_distinct nat_eq (map class_id classes)) (list_all is_own classes) ids).1

-- ---- the rules of the tables
record Kept (table : ScriptTable) : Type 0 where
  limits : keeps_limits (plan_part table) ≡ true
  counts : keeps_counts table.controllers (map step_of table.steps) ≡ true
  elements : keeps_elements (plan_part table) ≡ true
  controllers : keeps_controllers table.elements table.controllers ≡ true
  names : keeps_names table.transactions ≡ true
  plans : all_make_plans (each_of transaction_of table.transactions) ≡ true

abbrev rules_of : (a b c d e f g : Bool) (p q r s t u v : DocumentRule) → List (Bool × DocumentRule)
rules_of a b c d e f g p q r s t u v = (a, p) ∷ (b, q) ∷ (c, r) ∷ (d, s) ∷ (e, t) ∷ (f, u) ∷ (g, v) ∷ []

abbrev AllTrue : Bool → Bool → Bool → Bool → Bool → Bool → Type 0
AllTrue a b c d e g = (a ≡ true) × ((b ≡ true) × ((c ≡ true) × ((d ≡ true) × ((e ≡ true) × (g ≡ true)))))

all_true : (a b c d e f g : Bool) (p q r s t u v : DocumentRule) → first_broken (rules_of a b c d e f g p q r s t u v) ≡ None → AllTrue a b c d e g
all_true true true true true true true true p q r s t u v h = (refl, (refl, (refl, (refl, (refl, refl)))))
all_true false b c d e f g p q r s t u v h = cc
all_true true false c d e f g p q r s t u v h = cc
all_true true true false d e f g p q r s t u v h = cc
all_true true true true false e f g p q r s t u v h = cc
all_true true true true true false f g p q r s t u v h = cc
all_true true true true true true false g p q r s t u v h = cc
all_true true true true true true true false p q r s t u v h = cc

kept_all : (table : ScriptTable) → first_broken (script_rules table) ≡ None → Kept table
kept_all table h =
    let k =
    all_true (keeps_limits (plan_part table)) (keeps_counts table.controllers (map step_of table.steps)) (keeps_elements (plan_part table)) (keeps_controllers table.elements table.controllers)
    (keeps_names table.transactions) (list_all has_bodies table.transactions) (all_make_plans (each_of transaction_of table.transactions)) _ _ _ _ _ _ _ h in
    record { limits = k.0; counts = k.1.0; elements = k.1.1.0; controllers = k.1.1.1.0; names = k.1.1.1.1.0; plans = k.1.1.1.1.1 }

-- ---- the steps
joined : {A : Type 0} (P : A → Type 0) (xs ys : List A) → AllByRecursion P xs → AllByRecursion P ys → AllByRecursion P (xs ++ ys)
joined P [] ys h k = k
joined P (x ∷ xs) ys h k = (h.0, joined P xs ys h.1 k)

said_numbers : (place first n : ℕ) → first + n < 2 ^ 64 → AllByRecursion CanBeSaid (map (delivery place) (numbers_from first n))
said_numbers place first zero small = tt
said_numbers place first (suc n) small = (omega (arith, small), said_numbers place (first + 1) n (omega (arith, small)))

said_at : (place : ℕ) (t : StepText) → CanSay t → AllByRecursion CanBeSaid (steps_at place t)
said_at place (One s) can = (can, tt)
said_at place (Deliveries first last) (can, can_too, rising) =
    joined CanBeSaid (map (delivery place) (numbers_from first (last - first))) (delivery place last ∷ []) (said_numbers place first (last - first) (omega (arith, rising, can_too))) (can_too, tt)

said_by : (place : ℕ) (text : List ℕ) (texts : List (List ℕ)) (steps : List (ℕ × Step)) → ((more : List (ℕ × Step)) → steps_from (place + 1) (map step_of texts) ≡ Ok more → AllByRecursion CanBeSaid more)
    → (o : Option StepText) → step_of text ≡ o → steps_from place (o ∷ map step_of texts) ≡ Ok steps → AllByRecursion CanBeSaid steps
said_by place text texts steps later None is e = cc
said_by place text texts steps later (Some t) is e =
    let (more, read, made) = read_first (steps_from (place + 1) (map step_of texts)) (λ more. Ok (steps_at place t ++ more)) steps e in
    let same : steps_at place t ++ more ≡ steps = cc in
    subst (AllByRecursion CanBeSaid) same (joined CanBeSaid (steps_at place t) more (said_at place t (step_said text t is).0) (later more read))

all_said : (place : ℕ) (texts : List (List ℕ)) (steps : List (ℕ × Step)) → steps_from place (map step_of texts) ≡ Ok steps → AllByRecursion CanBeSaid steps
all_said place [] steps e = let same : [] ≡ steps = cc in subst (AllByRecursion CanBeSaid) same tt
all_said place (text ∷ texts) steps e = said_by place text texts steps (all_said (place + 1) texts) (step_of text) refl e

-- ---- all of it
plans_told : (r : Result (List PlanTxn) LibFault) (ts : List PlanTxn) → r ≡ Ok ts → all_make_plans r ≡ true → list_all makes_plan ts ≡ true
plans_told (Ok us) ts e h = let same : us ≡ ts = cc in ap (list_all makes_plan) (sym same) ∙ h
plans_told (Err f) ts e h = cc

module _ (table : ScriptTable) (s : Scripted) (told : Kept table) (is_read : IsRead table s) where
  abbrev ids : List ℕ
  ids = map id_of table.elements

  -- what is read of the tables, with other instances
  read_script : (pairs : List (ℕ × ℕ)) → AreKnown s.library pairs → list_all is_own s.library ≡ true → IsScript (with_instances pairs s)
  read_script pairs known own =
      let (counts, changes) = and_parts (is_short (plan_part table)) (list_all has_few table.transactions) told.limits in
      let (few, short) = and_parts (nat_le (length ids) 255) (nat_le (length table.transactions) 1024) counts in
      let (masters, steps) = and_parts (nat_le (length table.controllers) 16) (nat_le (count (map step_of table.steps)) 100000) told.counts in
      let (apart, listed) = and_parts (is_distinct nat_eq ids) (list_all (keeps_to ids) table.transactions) told.elements in
      let (numbered, served) = and_parts (is_distinct nat_eq (map number_of table.controllers)) (list_all (is_served table.controllers) table.elements) told.controllers in
      let (named, distinct) = and_parts (list_all has_name table.transactions) (is_distinct bytes_eq (map name_of table.transactions)) told.names in
      let same_ids : map id_of s.elements ≡ ids = ap (map id_of) is_read.elements in
      let long = leb-true (length table.transactions) 1024 short in
      let same = same_length transaction_of table.transactions s.transactions is_read.transactions in
      let many = leb-true (length ids) 255 few in
      let mapped = length-map table.elements id_of in
      let as_many = ap length is_read.elements in
      let wide = leb-true (length table.controllers) 16 masters in
      let as_wide = ap length is_read.controllers in
      let all = leb-true (count (map step_of table.steps)) 100000 steps in
      let as_all = counted 1 (map step_of table.steps) s.steps is_read.steps in
      record {
        known = known;
        own = own;
        apart = ap (is_distinct nat_eq) same_ids ∙ apart;
        few = omega (arith, many, mapped, as_many);
        numbered = ap (λ (cs : List ℕ). is_distinct nat_eq (map number_of cs)) is_read.controllers ∙ numbered;
        masters = omega (arith, wide, as_wide);
        served = ap (λ (cs : List ℕ). list_all (is_served cs) s.elements) is_read.controllers ∙ ap (list_all (is_served table.controllers)) is_read.elements ∙ served;
        short = omega (arith, long, same);
        planned = plans_told (each_of transaction_of table.transactions) s.transactions is_read.transactions told.plans;
        changing = all_change_well table.transactions s.transactions is_read.transactions;
        listed = ap (λ (es : List ℕ). list_all (has_listed es) s.transactions) same_ids
            ∙ all_made transaction_of (keeps_to ids) (has_listed ids) (transaction_listed ids) table.transactions s.transactions is_read.transactions listed;
        named = all_made transaction_of has_name kept.has_name named_still table.transactions s.transactions is_read.transactions named;
        distinct = ap (is_distinct bytes_eq) (same_mapped transaction_of name_of kept.name_of same_name table.transactions s.transactions is_read.transactions) ∙ distinct;
        all = omega (arith, all, as_all);
        said = all_said 1 table.steps s.steps is_read.steps;
      }

pub kept_by : (bytes : List ℕ) (s : Scripted) → script_of bytes ≡ Ok s → IsScript s
kept_by bytes s e =
    let (ms, table, read, is, sound, none, is_read) = told_by bytes s e in
    let (differ, known) = sound_parts table.classes table.instances sound in
    read_script table s (kept_all table none) is_read s.instances
    (subst (λ (cs : List Class). AreKnown cs s.instances) (sym is_read.library) (subst (λ (ps : List (ℕ × ℕ)). AreKnown table.classes ps) (sym is_read.instances) known))
    (ap (list_all is_own) is_read.library ∙ own_classes table.classes differ)

-- and so does the script that is handed out, whose instances rise
pub script_is : (table : ScriptTable) (pairs : List (ℕ × ℕ)) (s : Scripted) → script_in table ≡ Ok (with_instances pairs s) → AreKnown s.library s.instances → list_all is_own s.library ≡ true → IsScript s
script_is table pairs s e known own =
    let (sound, none, is_read) = script_stands table (with_instances pairs s) e in
    read_script table (with_instances pairs s) (kept_all table none) is_read s.instances known own

-- in which each part is read
made_by : (table : ScriptTable) (l : List Class × List (ℕ × ℕ)) (last : List PlanTxn × List (ℕ × Step)) → library_in table ≡ Ok l → first_rules table ≡ Ok tt
    → last_of table.transactions (map step_of table.steps) ≡ Ok last
    → script_in table ≡ Ok (record { library = l.0; instances = l.1; elements = table.elements; controllers = table.controllers; transactions = last.0; steps = last.1 })
made_by table l last known kept_first read = rw (known, kept_first, read) refl

pub made_is : (table : ScriptTable) (said : List (Option StepText)) (library : List Class) (instances : List (ℕ × ℕ)) (ts : List PlanTxn) (ss : List (ℕ × Step)) → said ≡ map step_of table.steps
    → GivesLibrary (Ok (library, instances)) (library_in table) → AreKnown library instances → list_all is_own library ≡ true
    → first_kept table.elements table.controllers table.transactions said ≡ Ok tt → last_of table.transactions said ≡ Ok (ts, ss)
    → IsScript (record { library = library; instances = instances; elements = table.elements; controllers = table.controllers; transactions = ts; steps = ss })
made_is table said library instances ts ss same (pairs, given, order, rising) known own kept_first read =
    script_is table pairs (record { library = library; instances = instances; elements = table.elements; controllers = table.controllers; transactions = ts; steps = ss })
    (made_by table (library, pairs) (ts, ss) given (sym (ap (first_kept table.elements table.controllers table.transactions) same) ∙ kept_first) (sym (ap (last_of table.transactions) same) ∙ read))
    known own
