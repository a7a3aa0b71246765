-- What an element holds when it was just made: RFC 5812, section 3.2, on the components of its LFB instances; which classes it has of
-- itself is this profile's own.
use Rattle.std.specs.Prelude.{ℕ, ◌==◌, ◌&&◌, ◌||◌, nat_lt, Bool, List, [], ◌∷◌, ◌++◌, if◌then◌else◌}
use Rattle.fc_lfbs.specs.BuiltIns.{built_in}
use Rattle.fc_store.specs.Stores.{Stored, opened}
use Rattle.fc_types.specs.BuiltIn.{built_in_instances}
use Rattle.fc_types.specs.declared.class.Class.{Class}

-- an instance goes before another: by its class, and within it by its ID
abbrev pub goes_before : ℕ × ℕ → ℕ × ℕ → Bool
goes_before p q = nat_lt p.0 q.0 || ((p.0 == q.0) && nat_lt p.1 q.1)

-- an instance among others, before the first that it goes before
abbrev pub placed : ℕ × ℕ → List (ℕ × ℕ) → List (ℕ × ℕ)
placed p [] = p ∷ []
placed p (q ∷ qs) = if goes_before p q then p ∷ q ∷ qs else q ∷ placed p qs

-- instances in their order
abbrev pub rising : List (ℕ × ℕ) → List (ℕ × ℕ)
rising [] = []
rising (p ∷ ps) = placed p (rising ps)

-- the instances with instance 1 of each class that an element has of itself
abbrev pub with_own : List (ℕ × ℕ) → List (ℕ × ℕ)
with_own instances = rising (instances ++ built_in_instances)

-- with the classes that it has of itself, each component having its opening value
abbrev pub opened_store : List Class → List (ℕ × ℕ) → Stored
opened_store library instances = opened (library ++ built_in) (with_own instances)
