-- Each cause of a refusal stands alone.
use Rattle.std.proofs.Common.{◌≡◌, ◌≢◌, ◌↔◌, ℕ, Bool, true, false, List, [], ◌∷◌, ◌++◌, Option, Some, None, Result, Ok, Err, refl, ap, ◌∙◌}
use Rattle.std.proofs.lemmas.Bool.{and_parts, false≢true}
use Rattle.std.specs.List.{list_all}
use Rattle.toml.specs.Data.{Members}
use Rattle.fc_types.specs.Libraries.{class_rules, instance_rules, first_broken, first_fault}
use Rattle.fc_types.specs.declared.class.Class.{Class}
use Rattle.fc_types.specs.declared.fault.CheckFault.{CheckFault}
use Rattle.fc_types.specs.declared.fault.CheckFault.TheVariants as checks
use Rattle.fc_library.specs.declared.fault.DocumentRule.{DocumentRule}
use Rattle.fc_library.specs.declared.fault.LibFault.{LibFault}
use Rattle.fc_library.specs.declared.fault.LibFault.TheVariants.{NotToml, Check, Rule, StepText, Memory}
use Rattle.fc_base.specs.Answers.{◌>>=◌}
use Rattle.fc_library.specs.Declarations.{declaration}
use Rattle.fc_library.specs.Documents.{document, checked_by, checked, library_in, library_of}
use Rattle.fc_library.proofs.KeyFaults.{of_keys, declaration_keys}

abbrev Given : Type 0
Given = List Class × List (ℕ × ℕ)

-- a fault other than want of memory
abbrev is_told : CheckFault → Bool
is_told checks.Memory = false
is_told _ = true

one_told : (fault : CheckFault) → is_told fault ≡ true → Some fault ≢ Some checks.Memory
one_told fault h e = let same : fault ≡ checks.Memory = cc in absurd (false≢true (rw same at h))

all_told : (rules : List (Bool × CheckFault)) → list_all (λ rule. is_told rule.1) rules ≡ true → first_broken rules ≢ Some checks.Memory
all_told [] h e = cc
all_told ((true, fault) ∷ more) h e = all_told more (and_parts (is_told fault) _ h).1 e
all_told ((false, fault) ∷ more) h e = one_told fault (and_parts (is_told fault) _ h).0 e

no_want : (classes : List Class) (pairs : List (ℕ × ℕ)) → first_fault classes pairs ≢ Some checks.Memory
unfolding first_fault class_rules instance_rules
no_want classes pairs = all_told (class_rules classes pairs ++ instance_rules classes pairs) refl

-- what is checked is refused by the fault that is found, or stands
no_toml : (given : Given) (found : Option CheckFault) → checked_by given found ≢ Err NotToml
no_toml given None e = cc
no_toml given (Some fault) e = cc

found_fault : (given : Given) (found : Option CheckFault) (fault : CheckFault) → checked_by given found ≡ Err (Check fault) → found ≡ Some fault
found_fault given None fault e = cc
found_fault given (Some f) fault e = cc

found_none : (given other : Given) (found : Option CheckFault) → checked_by given found ≡ Ok other → (given ≡ other) × (found ≡ None)
found_none given other None e = (cc, refl)
found_none given other (Some f) e = cc

no_memory : (given : Given) (found : Option CheckFault) → checked_by given found ≢ Err Memory
no_memory given None e = cc
no_memory given (Some fault) e = cc

no_rule : (given : Given) (found : Option CheckFault) (rule : DocumentRule) → checked_by given found ≢ Err (Rule rule)
no_rule given None rule e = cc
no_rule given (Some fault) rule e = cc

no_step : (given : Given) (found : Option CheckFault) (place : ℕ) → checked_by given found ≢ Err (StepText place)
no_step given None place e = cc
no_step given (Some fault) place e = cc

-- the same, of what the tables declare
read_toml : (r : Result Given LibFault) → of_keys r ≡ true → (r >>= checked) ≢ Err NotToml
read_toml (Ok given) h e = no_toml given (first_fault given.0 given.1) e
read_toml (Err fault) h e = cc

read_refused : (r : Result Given LibFault) (fault : CheckFault) → of_keys r ≡ true → (r >>= checked) ≡ Err (Check fault) → (given : Given) × (r ≡ Ok given) × (first_fault given.0 given.1 ≡ Some fault)
read_refused (Ok given) fault h e = (given, refl, found_fault given (first_fault given.0 given.1) fault e)
read_refused (Err f) fault h e = cc

read_accepted : (r : Result Given LibFault) (other : Given) → (r >>= checked) ≡ Ok other → (r ≡ Ok other) × (first_fault other.0 other.1 ≡ None)
read_accepted (Ok given) other e = let (same, none) = found_none given other (first_fault given.0 given.1) e in rw (← same) (refl, none)
read_accepted (Err f) other e = cc

read_memory : (r : Result Given LibFault) → of_keys r ≡ true → (r >>= checked) ≢ Err Memory
read_memory (Ok given) h e = no_memory given (first_fault given.0 given.1) e
read_memory (Err fault) h e = cc

read_rule : (r : Result Given LibFault) (rule : DocumentRule) → of_keys r ≡ true → (r >>= checked) ≢ Err (Rule rule)
read_rule (Ok given) rule h e = no_rule given (first_fault given.0 given.1) rule e
read_rule (Err fault) rule h e = cc

read_step : (r : Result Given LibFault) (place : ℕ) → of_keys r ≡ true → (r >>= checked) ≢ Err (StepText place)
read_step (Ok given) place h e = no_step given (first_fault given.0 given.1) place e
read_step (Err fault) place h e = cc

read_want : (r : Result Given LibFault) → of_keys r ≡ true → (r >>= checked) ≢ Err (Check checks.Memory)
read_want r h e = let (given, is, fault) = read_refused r checks.Memory h e in no_want given.0 given.1 fault

toml_in : (o : Option Members) → library_in o ≡ Err NotToml → o ≡ None
toml_in None e = refl
toml_in (Some ms) e = absurd (read_toml (declaration ms) (declaration_keys ms) e)

pub not_toml : (bytes : List ℕ) → library_of bytes ≡ Err NotToml ↔ document bytes ≡ None
not_toml bytes = (λ e. toml_in (document bytes) e, λ e. ap library_in e)

refused_in : (o : Option Members) (fault : CheckFault) → library_in o ≡ Err (Check fault) → (ms : Members) × (given : Given) × (o ≡ Some ms) × (declaration ms ≡ Ok given) × (first_fault given.0 given.1 ≡ Some fault)
refused_in None fault e = cc
refused_in (Some ms) fault e = let (given, is, found) = read_refused (declaration ms) fault (declaration_keys ms) e in (ms, given, refl, is, found)

refused_by : (bytes : List ℕ) (fault : CheckFault) → ((ms : Members) × (given : Given) × (document bytes ≡ Some ms) × (declaration ms ≡ Ok given) × (first_fault given.0 given.1 ≡ Some fault))
    → library_of bytes ≡ Err (Check fault)
refused_by bytes fault (ms, given, read, declared, found) = ap library_in read ∙ ap (λ r. r >>= checked) declared ∙ ap (checked_by given) found

pub refused : (bytes : List ℕ) (fault : CheckFault)
    → (library_of bytes ≡ Err (Check fault)) ↔ ((ms : Members) × (given : Given) × (document bytes ≡ Some ms) × (declaration ms ≡ Ok given) × (first_fault given.0 given.1 ≡ Some fault))
refused bytes fault = (λ e. refused_in (document bytes) fault e, λ h. refused_by bytes fault h)

accepted_in : (o : Option Members) (given : Given) → library_in o ≡ Ok given → (ms : Members) × (o ≡ Some ms) × (declaration ms ≡ Ok given) × (first_fault given.0 given.1 ≡ None)
accepted_in None given e = cc
accepted_in (Some ms) given e = let (is, none) = read_accepted (declaration ms) given e in (ms, refl, is, none)

accepted_by : (bytes : List ℕ) (given : Given) → ((ms : Members) × (document bytes ≡ Some ms) × (declaration ms ≡ Ok given) × (first_fault given.0 given.1 ≡ None)) → library_of bytes ≡ Ok given
accepted_by bytes given (ms, read, declared, none) = ap library_in read ∙ ap (λ r. r >>= checked) declared ∙ ap (checked_by given) none

pub accepted : (bytes : List ℕ) (given : Given)
    → (library_of bytes ≡ Ok given) ↔ ((ms : Members) × (document bytes ≡ Some ms) × (declaration ms ≡ Ok given) × (first_fault given.0 given.1 ≡ None))
accepted bytes given = (λ e. accepted_in (document bytes) given e, λ h. accepted_by bytes given h)

memory_in : (o : Option Members) → library_in o ≢ Err Memory
memory_in None e = cc
memory_in (Some ms) e = read_memory (declaration ms) (declaration_keys ms) e

rule_in : (o : Option Members) (rule : DocumentRule) → library_in o ≢ Err (Rule rule)
rule_in None rule e = cc
rule_in (Some ms) rule e = read_rule (declaration ms) rule (declaration_keys ms) e

pub no_rule_broken : (bytes : List ℕ) (rule : DocumentRule) → library_of bytes ≢ Err (Rule rule)
no_rule_broken bytes rule = rule_in (document bytes) rule

step_in : (o : Option Members) (place : ℕ) → library_in o ≢ Err (StepText place)
step_in None place e = cc
step_in (Some ms) place e = read_step (declaration ms) place (declaration_keys ms) e

pub no_step_told : (bytes : List ℕ) (place : ℕ) → library_of bytes ≢ Err (StepText place)
no_step_told bytes place = step_in (document bytes) place

want_in : (o : Option Members) → library_in o ≢ Err (Check checks.Memory)
want_in None e = cc
want_in (Some ms) e = read_want (declaration ms) (declaration_keys ms) e

pub no_want_of_memory : (bytes : List ℕ) → (library_of bytes ≢ Err Memory) × (library_of bytes ≢ Err (Check checks.Memory))
no_want_of_memory bytes = (memory_in (document bytes), want_in (document bytes))
