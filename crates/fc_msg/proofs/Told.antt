-- The fault of bytes is what the first test tells that tells anything.
use Rattle.std.proofs.Common.{◌≡◌, ◌↔◌, ◌+◌, ◌%◌, ◌<◌, ◌^◌, ◌⊎◌, inl, inr, ℕ, List, [], ◌∷◌, ◌++◌, length, drop, map, slice_index, Bool, true, false, cond, Option, Some, None, Result, Ok, Err, refl, sym, ap, ◌∙◌, subst, arith}
use Rattle.std.specs.Option.{option_or, option_and_then}
use Rattle.std.specs.List.{AllByRecursion}
use Rattle.std.proofs.lemmas.List.{length-drop}
use Rattle.fc_wire.specs.Bytes.{AreBytes}
use Rattle.fc_wire.specs.Tlvs.{tlvs}
use Rattle.fc_wire.proofs.Spelled.{bytes_drop}
use Rattle.fc_path.specs.Visits.{AreRising, Visit}
use Rattle.fc_path.specs.declared.fault.PathFault.{PathFault}
use Rattle.fc_path.proofs.Placed.{HasPlace}
use Rattle.fc_msg.specs.Bodies.{body_at}
use Rattle.fc_msg.specs.BodyVisits.{FirstTold, IsPassed, body_visits, tests_of, told_at, told_if, visits_in}
use Rattle.fc_msg.specs.Faults.{Rule, body_in, fault_in, fault_of, first_broken, first_of, head_fault, header_rules, told_of, type_rules}
use Rattle.fc_msg.specs.Messages.{Spells}
use Rattle.fc_msg.specs.declared.fault.Refusal.{Refusal}
use Rattle.fc_msg.specs.declared.message.Message.{Message}
use Rattle.fc_msg.specs.declared.message.MsgBody.{MsgBody}
use Rattle.fc_msg.proofs.Bodies.{has_place}
use Rattle.fc_msg.proofs.BodyOrder.{bad, body_bad, err_of, fault_from}
use Rattle.fc_msg.proofs.BodyRising.{body_rises}
use Rattle.fc_msg.proofs.Reading.{accepted, byte_small, headed, judged, none_both, read as is_read, told_some}

-- what the first test tells that tells anything
abbrev first_some : List (Option Refusal) → Option Refusal
first_some [] = None
first_some (test ∷ tests) = first_of test (first_some tests)

first_assoc : (a b c : Option Refusal) → first_of (first_of a b) c ≡ first_of a (first_of b c)
first_assoc None b c = refl
first_assoc (Some told) b c = refl

some_append : (xs ys : List (Option Refusal)) → first_some (xs ++ ys) ≡ first_of (first_some xs) (first_some ys)
some_append [] ys = refl
some_append (x ∷ xs) ys = ap (first_of x) (some_append xs ys) ∙ sym (first_assoc x (first_some xs) (first_some ys))

-- of the rules
rule_told : (b : Bool) (told : Refusal) (more other : Option Refusal) → more ≡ other → first_of (cond b (Some told) None) more ≡ cond b (Some told) other
rule_told true told more other e = refl
rule_told false told more other e = e

rules_told : (rs : List Rule) → first_some (map told_if rs) ≡ first_broken rs
rules_told [] = refl
rules_told (r ∷ rs) = rule_told r.is_broken r.told (first_some (map told_if rs)) (first_broken rs) (rules_told rs)

broken_more : (b : Bool) (told : Refusal) (a c : Option Refusal) → cond b (Some told) (first_of a c) ≡ first_of (cond b (Some told) a) c
broken_more true told a c = refl
broken_more false told a c = refl

broken_append : (rs qs : List Rule) → first_broken (rs ++ qs) ≡ first_of (first_broken rs) (first_broken qs)
broken_append [] qs = refl
broken_append (r ∷ rs) qs = ap (λ o. cond r.is_broken (Some r.told) o) (broken_append rs qs) ∙ broken_more r.is_broken r.told (first_broken rs) (first_broken qs)

-- of the tests of a body
abbrev Placed : List Visit → Type 0
Placed vs = (f : PathFault) → bad vs ≡ Some f → HasPlace f

told_from : (o : Option PathFault) (vs : List Visit) → (Placed vs → first_some (map told_at vs) ≡ option_and_then told_of (bad vs)) → ((f : PathFault) → option_or o (bad vs) ≡ Some f → HasPlace f)
    → first_of (option_and_then told_of o) (first_some (map told_at vs)) ≡ option_and_then told_of (option_or o (bad vs))
told_from None vs k h = k h
told_from (Some f) vs k h = let told = told_some f (h f refl) in ap (λ o. first_of o (first_some (map told_at vs))) told.1 ∙ sym told.1

visits_told : (vs : List Visit) → Placed vs → first_some (map told_at vs) ≡ option_and_then told_of (bad vs)
visits_told [] h = refl
visits_told (v ∷ vs) h = told_from v.fault vs (visits_told vs) h

fault_told : (r : Result MsgBody PathFault) → fault_in r ≡ option_and_then told_of (fault_from r)
fault_told (Ok body) = refl
fault_told (Err f) = refl

body_placed : (kind end : ℕ) (bytes : List ℕ) → Placed (body_visits kind end (tlvs 24 bytes).items (tlvs 24 bytes).fault)
body_placed kind end bytes f e =
    let items = (tlvs 24 bytes).items in
    let cut = (tlvs 24 bytes).fault in
    has_place kind end items cut f (err_of (body_at kind end items cut) f (body_bad kind end items cut ∙ e))

body_told : (bytes : List ℕ) → fault_in (body_in bytes) ≡ first_some (map told_at (visits_in bytes))
body_told bytes =
    let kind = slice_index bytes 1 in
    let tail = drop 24 bytes in
    fault_told (body_in bytes) ∙ ap (option_and_then told_of) (body_bad kind (length bytes) (tlvs 24 tail).items (tlvs 24 tail).fault)
    ∙ sym (visits_told (visits_in bytes) (body_placed kind (length bytes) tail))

all_told : (bytes : List ℕ) → fault_of bytes ≡ first_some (tests_of bytes)
unfolding fault_of
all_told bytes =
    let rules = header_rules bytes in
    let types = type_rules (slice_index bytes 1) in
    let front = map told_if (rules ++ types) in
    let back = map told_at (visits_in bytes) in
    ap (λ o. first_of o (fault_in (body_in bytes))) (sym (rules_told (rules ++ types) ∙ broken_append rules types)) ∙ ap (first_of (first_some front)) (body_told bytes)
    ∙ sym (some_append front back)

-- the first as a place in the list
some_same : (x y : Refusal) → ◌≡◌ {A = Option Refusal} (Some x) (Some y) → x ≡ y
some_same x y e = cc

first_from : (o : Option Refusal) (tests : List (Option Refusal)) (told : Refusal) → (first_some tests ≡ Some told → FirstTold told tests) → first_of o (first_some tests) ≡ Some told → FirstTold told (o ∷ tests)
first_from (Some other) tests told k e = ([], tests, ap (λ o. o ∷ tests) e, tt)
first_from None tests told k e =
    let (before, rest, is, passed) = k e in
    (None ∷ before, rest, ap (λ l. None ∷ l) is, (refl, passed))

is_first : (tests : List (Option Refusal)) (told : Refusal) → first_some tests ≡ Some told → FirstTold told tests
is_first [] told e = cc
is_first (o ∷ tests) told e = first_from o tests told (is_first tests told) e

passed_front : (before rest : List (Option Refusal)) → AllByRecursion IsPassed before → first_some (before ++ rest) ≡ first_some rest
passed_front [] rest h = refl
passed_front (o ∷ before) rest h = ap (λ o. first_of o (first_some (before ++ rest))) h.0 ∙ passed_front before rest h.1

first_is : (tests : List (Option Refusal)) (told : Refusal) → FirstTold told tests → first_some tests ≡ Some told
first_is tests told h = ap first_some h.2 ∙ passed_front h.0 (Some told ∷ h.1) h.3

passed_from : (o : Option Refusal) (tests : List (Option Refusal)) → (first_some tests ≡ None → AllByRecursion IsPassed tests) → first_of o (first_some tests) ≡ None → AllByRecursion IsPassed (o ∷ tests)
passed_from (Some told) tests k e = cc
passed_from None tests k e = (refl, k e)

all_passed : (tests : List (Option Refusal)) → first_some tests ≡ None → AllByRecursion IsPassed tests
all_passed [] e = tt
all_passed (o ∷ tests) e = passed_from o tests (all_passed tests) e

none_told : (tests : List (Option Refusal)) → AllByRecursion IsPassed tests → first_some tests ≡ None
none_told [] h = refl
none_told (o ∷ tests) h = ap (λ o. first_of o (first_some tests)) h.0 ∙ none_told tests h.1

pub first_told : (bytes : List ℕ) (told : Refusal) → (fault_of bytes ≡ Some told) ↔ FirstTold told (tests_of bytes)
first_told bytes told = (λ e. is_first (tests_of bytes) told (sym (all_told bytes) ∙ e), λ h. all_told bytes ∙ first_is (tests_of bytes) told h)

-- none tells anything exactly where the bytes spell a message
spelled_by : (bytes : List ℕ) → fault_of bytes ≡ None → ((m : Message) × Spells m bytes) ⊎ ((told : Refusal) × (fault_of bytes ≡ Some told)) → (m : Message) × Spells m bytes
spelled_by bytes e (inl spelled) = spelled
spelled_by bytes e (inr told) = let never : None ≡ Some told.0 = sym e ∙ told.1 in cc

pub spelled_passed : (bytes : List ℕ) → AreBytes bytes → ((m : Message) × Spells m bytes) ↔ AllByRecursion IsPassed (tests_of bytes)
spelled_passed bytes fine = (
  λ s. all_passed (tests_of bytes) (sym (all_told bytes) ∙ accepted bytes s.0 (is_read s.0 bytes s.1)),
  λ h. spelled_by bytes (all_told bytes ∙ none_told (tests_of bytes) h) (judged bytes fine),
)

-- the places never fall
pub record BodyFits (bytes : List ℕ) : Type 0 where
  pub fine : AreBytes (drop 24 bytes)
  pub whole : length (drop 24 bytes) % 4 ≡ 0
  pub size : 24 + length (drop 24 bytes) ≡ length bytes
  pub few : 24 + length (drop 24 bytes) < 2 ^ 64

pub body_fits : (bytes : List ℕ) → AreBytes bytes → head_fault bytes ≡ None → BodyFits bytes
body_fits bytes fine head =
    let rules = none_both (first_broken (header_rules bytes)) (first_broken (type_rules (slice_index bytes 1))) head in
    let is = headed bytes rules.0 in
    let many = is.many in
    let size = is.size in
    let front = length-drop 24 bytes in record {
      fine = bytes_drop 24 bytes fine;
      whole = omega (arith, front, size, many);
      size = omega (arith, front, many);
      few = omega (arith, front, size, byte_small bytes 2 fine, byte_small bytes 3 fine);
    }

pub message_rises : (bytes : List ℕ) → AreBytes bytes → head_fault bytes ≡ None → AreRising 24 (visits_in bytes)
message_rises bytes fine head =
    let fits = body_fits bytes fine head in
    let tail = drop 24 bytes in
    subst (λ n. AreRising 24 (body_visits (slice_index bytes 1) n (tlvs 24 tail).items (tlvs 24 tail).fault)) fits.size (body_rises (slice_index bytes 1) 24 tail fits.fine fits.whole fits.few)
