-- What a run of operations on a store knows while its one mark stands: this profile's own.
use Rattle.std.specs.Prelude.{◌≡◌, ◌≢◌, refl, Result, Ok, Err, ℕ, ◌==◌, not, ◌&&◌, ◌||◌, Bool, true, false, List, [], ◌∷◌, map, Option, Some, None, if◌then◌else◌}
use Rattle.std.specs.List.{list_any}
use Rattle.fc_store.specs.Stores.{Components, Stored, gone_back, is_in, over_mark, places_in, without_mark}
use Rattle.fc_types.specs.Libraries.{same_instance}
use Rattle.fc_exec.specs.Operations.{applied, at_marks, coded, made}
use Rattle.fc_exec.specs.declared.operations.Operation.{Operation}
use Rattle.fc_exec.specs.declared.operations.Operation.TheVariants as operation

abbrev pub same_numbers : List ℕ → List ℕ → Bool
same_numbers [] [] = true
same_numbers [] (y ∷ ys) = false
same_numbers (x ∷ xs) [] = false
same_numbers (x ∷ xs) (y ∷ ys) = (x == y) && same_numbers xs ys

abbrev pub is_marked : List Components → Bool
is_marked [] = false
is_marked (x ∷ xs) = true

-- each instance of a scope has a mark
abbrev pub all_marked : List (ℕ × ℕ) → List (ℕ × ℕ) → List (List Components) → Bool
all_marked scope [] hs = true
all_marked scope (pair ∷ pairs) [] = true
all_marked scope (pair ∷ pairs) (h ∷ hs) = (not (is_in scope pair) || is_marked h) && all_marked scope pairs hs

-- a mark is over the instances of a scope, each of which has one
abbrev pub stands : List (ℕ × ℕ) → List (ℕ × ℕ) → Stored → Bool
stands scope mark s = same_numbers (map (λ m. m.0) mark) (places_in scope 0 s.instances) && all_marked scope s.instances (at_marks s)

-- an operation is at an instance that a scope names, or at none
abbrev pub lies_in : List (ℕ × ℕ) → Operation → Bool
lies_in scope (operation.Leaf l) = list_any (same_instance (l.spot.class, l.spot.instance)) scope
lies_in scope operation.Commit = true
lies_in scope operation.Trcomp = true

-- the store as it would be without the mark
abbrev pub unmarked : Option (List (ℕ × ℕ)) → Stored → Stored
unmarked None s = s
unmarked (Some mark) s = over_mark without_mark mark s

-- the store as it was at the mark
abbrev pub at_mark : List (ℕ × ℕ) → Option (List (ℕ × ℕ)) → Stored → List Stored
at_mark scope None s = []
at_mark scope (Some mark) s = if stands scope mark s then over_mark gone_back mark s ∷ [] else []

-- a store with the name of the reference through which it is changed
abbrev pub Named : Type 0
Named = ℕ × Stored

abbrev pub named : ℕ → List Stored → List Named
named name stores = map (λ s. (name, s)) stores

abbrev pub applied_to : Named → Operation → Named × ℕ
applied_to s op = ((s.0, (applied s.1 op).0), (applied s.1 op).1)

refused_by : (name : ℕ) (s : Stored) (r : Result Stored ℕ) → (coded s r).1 ≢ 0 → ◌≡◌ {A = Named} (name, (coded s r).0) (name, s)
refused_by name s (Ok t) bad = absurd (bad refl)
refused_by name s (Err code) bad = refl

-- an operation that is refused changes nothing
pub refused_keeps : (s : Named) (op : Operation) → (applied_to s op).1 ≢ 0 → (applied_to s op).0 ≡ s
refused_keeps s op bad = refused_by s.0 s.1 (made op s.1) bad
