-- What a run of operations within a scope knows while its one mark stands: this profile's own.
use Rattle.std.specs.Prelude.{◌≡◌, ◌≢◌, refl, ℕ, Bool, true, false, List, map, if◌then◌else◌}
use Rattle.fc_store.specs.Stores.{Stored}
use Rattle.fc_value.specs.Outcomes.{invalid_parameters}
use Rattle.fc_exec.specs.Operations.{applied, is_inside, place_of, within}
use Rattle.fc_exec.specs.Running.{Named}
use Rattle.fc_exec.specs.Running as running
use Rattle.fc_exec.specs.declared.operations.Operation.{Operation}

-- a scope, the names of the references through which the run and the store are changed, and the store
abbrev pub Frame : Type 0
Frame = List (ℕ × ℕ) × (ℕ × ℕ)

abbrev pub Bounded : Type 0
Bounded = Frame × Stored

abbrev pub bounded : List (ℕ × ℕ) → ℕ → Named → Bounded
bounded scope name s = ((scope, (name, s.0)), s.1)

abbrev pub all_bounded : List (ℕ × ℕ) → ℕ → List Named → List Bounded
all_bounded scope name ss = map (bounded scope name) ss

abbrev pub within_to : Bounded → Operation → Bounded × ℕ
within_to s op = ((s.0, (within s.0.0 s.1 op).0), (within s.0.0 s.1 op).1)

abbrev pub within_by : Bool → Stored → Stored × ℕ → Stored × ℕ
within_by inside s r = if inside then r else (s, invalid_parameters)

kept_by : (inside : Bool) (s : Stored) (r : Stored × ℕ) → (r.1 ≢ 0 → r.0 ≡ s) → (within_by inside s r).1 ≢ 0 → (within_by inside s r).0 ≡ s
kept_by true s r kept bad = kept bad
kept_by false s r kept bad = refl

applied_kept : (s : Stored) (op : Operation) → (applied s op).1 ≢ 0 → (applied s op).0 ≡ s
applied_kept s op bad = let p = running.refused_keeps (0, s) op bad in λ i. (p i).1

-- an operation that is refused changes nothing
pub refused_keeps : (s : Bounded) (op : Operation) → (within_to s op).1 ≢ 0 → (within_to s op).0 ≡ s
refused_keeps s op bad = let p = kept_by (is_inside s.0.0 (place_of op)) s.1 (applied s.1 op) (applied_kept s.1 op) bad in λ i. (s.0, p i)
