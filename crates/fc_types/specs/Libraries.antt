-- A library of classes with the instances that an element has of them, and the faults by which a declaration is none (this
-- profile's own).
use Rattle.std.specs.Prelude.{ℕ, ◌≤◌, ◌==◌, nat_eq, nat_le, Bool, true, not, ◌&&◌, List, [], ◌∷◌, ◌++◌, map, length, count_by, Option, Some, None, if◌then◌else◌, ◌≡◌}
use Rattle.std.specs.List.{list_all, list_any}
use Rattle.std.specs.List.Sorted.{IsStrictlySortedBy}
use Rattle.std.specs.Ordering.{nat_cmp, ordering_then}
use Rattle.std.specs.declared.cmp.Ordering.{Ordering}
use Rattle.fc_types.specs.BuiltIn.{is_built_in}
use Rattle.fc_types.specs.Ids.{is_distinct}
use Rattle.fc_types.specs.Classes.{class_keeps}
use Rattle.fc_types.specs.declared.class.Class.{Class}
use Rattle.fc_types.specs.declared.class_rules.ClassRule.{ClassRule}
use Rattle.fc_types.specs.declared.class_rules.ClassRule.TheVariants.{Small, DistinctIds, Shallow, Ranges, AtomicKeys, Targets}
use Rattle.fc_types.specs.declared.fault.CheckFault.{CheckFault}
use Rattle.fc_types.specs.declared.fault.CheckFault.TheVariants as fault

-- the number of a class
abbrev pub class_id : Class → ℕ
class_id class = class.id

-- the class is not one of the built-in ones
abbrev pub is_own : Class → Bool
is_own class = not (is_built_in class.id)

-- two instances of one class with one ID
abbrev pub same_instance : ℕ × ℕ → ℕ × ℕ → Bool
same_instance p q = (p.0 == q.0) && (p.1 == q.1)

-- the class of the instance is among those of the library
abbrev pub is_known : List Class → ℕ × ℕ → Bool
is_known classes p = list_any (λ id. p.0 == id) (map class_id classes)

-- the class of each instance is in the library
abbrev pub AreKnown : List Class → List (ℕ × ℕ) → Type 0
AreKnown classes pairs = list_all (is_known classes) pairs ≡ true

-- instances go by their class, and within it by their ID
abbrev pub pair_cmp : ℕ × ℕ → ℕ × ℕ → Ordering
pair_cmp p q = ordering_then (nat_cmp p.0 q.0) (nat_cmp p.1 q.1)

-- each instance is below those after it
abbrev pub AreRising : List (ℕ × ℕ) → Type 0
AreRising = IsStrictlySortedBy pair_cmp

-- the class of the instance is not one of the built-in ones
abbrev pub is_own_instance : ℕ × ℕ → Bool
is_own_instance p = not (is_built_in p.0)

-- What holds of the instances of each library, with those of the built-in classes or without them: they rise, and there are
-- at most 4,096 of them beside the three of the built-in classes.
pub record AreInstances (pairs : List (ℕ × ℕ)) : Type 0 where
  pub rising : AreRising pairs
  pub few : count_by is_own_instance pairs ≤ 4096
  pub all : length pairs ≤ 4099

-- at most 256 classes, 4,096 instances, and 1,024 members of a class
abbrev pub are_few : List Class → List (ℕ × ℕ) → Bool
are_few classes pairs = nat_le (length classes) 256 && nat_le (length pairs) 4096 && list_all (class_keeps Small) classes

-- no two classes have one ID, none has that of a built-in class, and within each class the IDs differ
abbrev pub differ_in_ids : List Class → Bool
differ_in_ids classes = is_distinct nat_eq (map class_id classes) && list_all is_own classes && list_all (class_keeps DistinctIds) classes

-- What the faults of the classes deny, in the order in which they are looked for, each one in the whole list.
unfoldable pub class_rules : List Class → List (ℕ × ℕ) → List (Bool × CheckFault)
class_rules classes pairs =
    (are_few classes pairs, fault.TooMany)
    ∷ (differ_in_ids classes, fault.DuplicateId)
    ∷ (list_all (class_keeps Shallow) classes, fault.TooDeep)
    ∷ (list_all (class_keeps Ranges) classes, fault.BadRange)
    ∷ (list_all (class_keeps AtomicKeys) classes, fault.KeyNotAtomic)
    ∷ (list_all (class_keeps Targets) classes, fault.BadTarget)
    ∷ []

-- What the faults of the instances deny, in the order in which they are looked for.
unfoldable pub instance_rules : List Class → List (ℕ × ℕ) → List (Bool × CheckFault)
instance_rules classes pairs = (list_all (is_known classes) pairs, fault.UnknownClass) ∷ (is_distinct same_instance pairs, fault.DuplicateId) ∷ []

-- the fault of the first rule that is not kept
abbrev pub first_broken : List (Bool × CheckFault) → Option CheckFault
first_broken [] = None
first_broken (rule ∷ more) = if rule.0 then first_broken more else Some rule.1

-- The fault of a declaration, or none where it is a library: the faults of the classes come before those of the instances.
unfoldable pub first_fault : List Class → List (ℕ × ℕ) → Option CheckFault
first_fault classes pairs = first_broken (class_rules classes pairs ++ instance_rules classes pairs)

-- each class keeps each rule of a class
abbrev pub KeepRules : List Class → Type 0
KeepRules classes = (rule : ClassRule) → list_all (class_keeps rule) classes ≡ true

-- What holds of the classes of each library, with the built-in classes or without them: at most 256 others, none with the
-- ID of another, and each one keeps each rule of a class.
pub record IsLibrary (classes : List Class) : Type 0 where
  pub few : count_by is_own classes ≤ 256
  pub distinct : is_distinct nat_eq (map class_id classes) ≡ true
  pub kept : KeepRules classes
