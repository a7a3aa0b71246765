-- The first fault of a declaration, and what holds where there is none.
use Rattle.std.proofs.Common.{◌≡◌, refl, ap, ◌∙◌, arith, ℕ, ◌≤◌, Bool, true, false, List, [], ◌∷◌, ◌++◌, map, length, count_by, nat_le, nat_eq, Some, None}
use Rattle.std.proofs.lemmas.Bool.Decides.{nat_tests}
use Rattle.std.proofs.lemmas.List.Sums.{count_by-le-length, AllPass-from_list_all, list_all-from_AllPass}
use Rattle.std.proofs.lemmas.List.Sorted.{All-permutation}
use Rattle.std.specs.List.{list_all}
use Rattle.std.specs.List.Sorted.{IsPermutation}
use Rattle.fc_types.proofs.Bools.{three}
use Rattle.fc_types.specs.Ids.{is_distinct}
use Rattle.fc_types.specs.Classes.{class_keeps}
use Rattle.fc_types.specs.Libraries.{first_broken, first_fault, class_rules, instance_rules, is_known, is_own, class_id, same_instance, are_few, differ_in_ids, IsLibrary, AreKnown}
use Rattle.fc_types.specs.declared.class.Class.{Class}
use Rattle.fc_types.specs.declared.class_rules.ClassRule.{ClassRule}
use Rattle.fc_types.specs.declared.class_rules.ClassRule.TheVariants.{Small, DistinctIds, Shallow, Ranges, AtomicKeys, Targets}
use Rattle.fc_types.specs.declared.fault.CheckFault.{CheckFault}
use Rattle.fc_types.specs.declared.fault.CheckFault.TheVariants as fault

earlier : (xs ys : List (Bool × CheckFault)) (f : CheckFault) → first_broken xs ≡ Some f → first_broken (xs ++ ys) ≡ Some f
earlier [] ys f e = absurd (cc)
earlier ((true, g) ∷ xs) ys f e = earlier xs ys f e
earlier ((false, g) ∷ xs) ys f e = e

later : (xs ys : List (Bool × CheckFault)) → first_broken xs ≡ None → first_broken (xs ++ ys) ≡ first_broken ys
later [] ys e = refl
later ((true, g) ∷ xs) ys e = later xs ys e
later ((false, g) ∷ xs) ys e = absurd (cc)

module _ (classes : List Class) (pairs : List (ℕ × ℕ)) where
  pub fault_of_classes : (f : CheckFault) → first_broken (class_rules classes pairs) ≡ Some f → first_fault classes pairs ≡ Some f
  unfolding first_fault
  fault_of_classes f e = earlier (class_rules classes pairs) (instance_rules classes pairs) f e

  pub fault_unknown : first_broken (class_rules classes pairs) ≡ None → list_all (is_known classes) pairs ≡ false → first_fault classes pairs ≡ Some fault.UnknownClass
  unfolding first_fault instance_rules
  fault_unknown e unknown = later (class_rules classes pairs) (instance_rules classes pairs) e ∙ rw unknown refl

  pub fault_repeated : first_broken (class_rules classes pairs) ≡ None → list_all (is_known classes) pairs ≡ true
      → is_distinct same_instance pairs ≡ false → first_fault classes pairs ≡ Some fault.DuplicateId
  unfolding first_fault instance_rules
  fault_repeated e known repeated = later (class_rules classes pairs) (instance_rules classes pairs) e ∙ rw (known, repeated) refl

  pub no_fault : first_broken (class_rules classes pairs) ≡ None → list_all (is_known classes) pairs ≡ true
      → is_distinct same_instance pairs ≡ true → first_fault classes pairs ≡ None
  unfolding first_fault instance_rules
  no_fault e known distinct = later (class_rules classes pairs) (instance_rules classes pairs) e ∙ rw (known, distinct) refl

few : (classes : List Class) → nat_le (length classes) 256 ≡ true → count_by is_own classes ≤ 256
few classes e = let at_most : count_by is_own classes ≤ length classes = count_by-le-length is_own classes in grind (arith, nat_tests)

each_kept : (classes : List Class) → list_all (class_keeps Small) classes ≡ true → list_all (class_keeps DistinctIds) classes ≡ true
    → list_all (class_keeps Shallow) classes ≡ true → list_all (class_keeps Ranges) classes ≡ true
    → list_all (class_keeps AtomicKeys) classes ≡ true → list_all (class_keeps Targets) classes ≡ true
    → (rule : ClassRule) → list_all (class_keeps rule) classes ≡ true
each_kept classes s i d r k t Small = s
each_kept classes s i d r k t DistinctIds = i
each_kept classes s i d r k t Shallow = d
each_kept classes s i d r k t Ranges = r
each_kept classes s i d r k t AtomicKeys = k
each_kept classes s i d r k t Targets = t

six : (a b c d k t : Bool)
    → first_broken ((a, fault.TooMany) ∷ (b, fault.DuplicateId) ∷ (c, fault.TooDeep) ∷ (d, fault.BadRange) ∷ (k, fault.KeyNotAtomic) ∷ (t, fault.BadTarget) ∷ []) ≡ None
    → (a ≡ true) × (b ≡ true) × (c ≡ true) × (d ≡ true) × (k ≡ true) × (t ≡ true)
six false b c d k t e = absurd (cc)
six true false c d k t e = absurd (cc)
six true true false d k t e = absurd (cc)
six true true true false k t e = absurd (cc)
six true true true true false t e = absurd (cc)
six true true true true true false e = absurd (cc)
six true true true true true true e = (refl, refl, refl, refl, refl, refl)

-- the rules of the classes, each one kept
pub record Kept (classes : List Class) (pairs : List (ℕ × ℕ)) : Type 0 where
  pub few : nat_le (length classes) 256 ≡ true
  pub short : nat_le (length pairs) 4096 ≡ true
  pub small : list_all (class_keeps Small) classes ≡ true
  pub distinct : is_distinct nat_eq (map class_id classes) ≡ true
  pub own : list_all is_own classes ≡ true
  pub ids : list_all (class_keeps DistinctIds) classes ≡ true
  pub rest : (list_all (class_keeps Shallow) classes ≡ true) × (list_all (class_keeps Ranges) classes ≡ true) × (list_all (class_keeps AtomicKeys) classes ≡ true) × (list_all (class_keeps Targets) classes ≡ true)

kept_rules : (classes : List Class) (pairs : List (ℕ × ℕ)) → first_broken (class_rules classes pairs) ≡ None → Kept classes pairs
unfolding class_rules
kept_rules classes pairs e =
    let r : (are_few classes pairs ≡ true) × (differ_in_ids classes ≡ true) × (list_all (class_keeps Shallow) classes ≡ true)
    × (list_all (class_keeps Ranges) classes ≡ true) × (list_all (class_keeps AtomicKeys) classes ≡ true)
    × (list_all (class_keeps Targets) classes ≡ true) = six _ _ _ _ _ _ e in
    let counts : (nat_le (length classes) 256 ≡ true) × (nat_le (length pairs) 4096 ≡ true) × (list_all (class_keeps Small) classes ≡ true) = three _ _ _ r.0 in
    let ids : (is_distinct nat_eq (map class_id classes) ≡ true) × (list_all is_own classes ≡ true) × (list_all (class_keeps DistinctIds) classes ≡ true) = three _ _ _ r.1 in
    record { few = counts.0; short = counts.1; small = counts.2; distinct = ids.0; own = ids.1; ids = ids.2; rest = (r.2, r.3, r.4, r.5) }

pub short_of_rules : (classes : List Class) (pairs : List (ℕ × ℕ)) → first_broken (class_rules classes pairs) ≡ None → length pairs ≤ 4096
short_of_rules classes pairs e = let short : nat_le (length pairs) 4096 ≡ true = (kept_rules classes pairs e).short in grind (arith, nat_tests)

pub own_of_rules : (classes : List Class) (pairs : List (ℕ × ℕ)) → first_broken (class_rules classes pairs) ≡ None → list_all is_own classes ≡ true
own_of_rules classes pairs e = (kept_rules classes pairs e).own

-- where no rule of the classes is broken, they are those of a library
pub library_of_rules : (classes : List Class) (pairs : List (ℕ × ℕ)) → first_broken (class_rules classes pairs) ≡ None → IsLibrary classes
library_of_rules classes pairs e =
    let k : Kept classes pairs = kept_rules classes pairs e in
    record { few = few classes k.few; distinct = k.distinct; kept = each_kept classes k.small k.ids k.rest.0 k.rest.1 k.rest.2 k.rest.3 }

pub known_moved : (classes : List Class) (ps qs : List (ℕ × ℕ)) → list_all (is_known classes) ps ≡ true → IsPermutation ps qs → AreKnown classes qs
known_moved classes ps qs known moves =
    list_all-from_AllPass (is_known classes) qs
    (All-permutation (λ p. is_known classes p ≡ true) ps qs moves (AllPass-from_list_all (is_known classes) ps known))

-- the first broken rule stands behind rules that are kept
pub broken_is_first : (rules : List (Bool × CheckFault)) (f : CheckFault) → first_broken rules ≡ Some f
    → (front : List (Bool × CheckFault)) × (back : List (Bool × CheckFault)) × (rules ≡ front ++ (false, f) ∷ back) × (list_all (λ (rule : Bool × CheckFault). rule.0) front ≡ true)
broken_is_first [] f e = absurd (cc)
broken_is_first ((true, g) ∷ rules) f e =
    let more : (front : List (Bool × CheckFault)) × (back : List (Bool × CheckFault)) × (rules ≡ front ++ (false, f) ∷ back) × (list_all (λ (rule : Bool × CheckFault). rule.0) front ≡ true) = broken_is_first rules f e in
    ((true, g) ∷ more.0, more.1, ap (λ rest. (true, g) ∷ rest) more.2, more.3)
broken_is_first ((false, g) ∷ rules) f e = let same : g ≡ f = cc in ([], rules, ap (λ h. (false, h) ∷ rules) same, refl)

pub all_kept : (rules : List (Bool × CheckFault)) → first_broken rules ≡ None → list_all (λ (rule : Bool × CheckFault). rule.0) rules ≡ true
all_kept [] e = refl
all_kept ((true, g) ∷ rules) e = all_kept rules e
all_kept ((false, g) ∷ rules) e = absurd (cc)
