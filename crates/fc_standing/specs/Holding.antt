-- Transactions that are held on a store: each has marked the instances of its scope, and then done its operations (this profile's own).
use Rattle.std.specs.Prelude.{◌≡◌, ℕ, Bool, true, false, not, List, [], ◌∷◌, map, Option, Some, None, if◌then◌else◌}
use Rattle.std.specs.List.{AllByRecursion, flat_map, fold}
use Rattle.fc_exec.specs.Operations.{applied, is_inside, place_of}
use Rattle.fc_exec.specs.declared.operations.Operation.{Operation}
use Rattle.fc_machine.specs.ElementState.{Entry, ops_of}
use Rattle.fc_modes.specs.Modes.{folded}
use Rattle.fc_protocol.specs.Records.{is_held, still_started}
use Rattle.fc_protocol.specs.Scopes.{Scope, meets}
use Rattle.fc_protocol.specs.declared.states.TxnState.{TxnState}
use Rattle.fc_store.specs.Stores.{Stored, Tree, gone_back, is_in, over_mark, places_in, with_mark}

-- a transaction: its scope, and the operations of its accepted rests in their order
pub record Holding : Type 0 where
  pub scope : Scope
  pub ops : List Operation

-- a mark over the instances of a scope at which no mark stands
abbrev pub marking : Scope → List (ℕ × ℕ) → List (ℕ × ℕ)
marking scope instances = map (λ i. (i, 0)) (places_in scope 0 instances)

-- a store on which one transaction more is held
abbrev pub held_on : Stored → Holding → Stored
held_on s h = folded applied (over_mark with_mark (marking h.scope s.instances) s) h.ops

-- a settled configuration on which transactions are held, in order of entry
abbrev pub standing : Stored → List Holding → Stored
standing settled hs = fold held_on settled hs

-- their operations, in that order
abbrev pub held_ops : List Holding → List Operation
held_ops hs = flat_map (λ (h : Holding). h.ops) hs

-- of the records of an element, those that are held, in order of entry
abbrev pub holdings_by : Bool → Entry Operation → List Holding → List Holding
holdings_by held n hs = if held then record { scope = n.scope; ops = ops_of n } ∷ hs else hs

abbrev pub holdings : List (Entry Operation) → List Holding
holdings [] = []
holdings (n ∷ ns) = holdings_by (is_held n.state) n (holdings ns)

-- a claim: what is started goes back to its mark, in order of entry
abbrev pub started_back : List (ℕ × ℕ) → TxnState → Scope → Stored → Stored
started_back instances state scope s = if still_started state then over_mark gone_back (marking scope instances) s else s

abbrev pub gone_back_to : List (ℕ × ℕ) → List (Entry Operation) → Stored → Stored
gone_back_to instances [] s = s
gone_back_to instances (n ∷ ns) s = gone_back_to instances ns (started_back instances n.state n.scope s)

-- no mark stands
abbrev pub IsSettled : Stored → Type 0
IsSettled s = AllByRecursion (λ (t : Tree). t.held ≡ []) s.trees

-- ---- where they lie
abbrev pub LieIn : Scope → List Operation → Type 0
LieIn scope ops = AllByRecursion (λ op. is_inside scope (place_of op) ≡ true) ops

-- an operation is at no instance of a scope
abbrev pub is_outside : Scope → Option (ℕ × ℕ) → Bool
is_outside scope None = true
is_outside scope (Some pair) = not (is_in scope pair)

-- operations are at no instance that a transaction has
abbrev pub LieBeside : List Operation → Holding → Type 0
LieBeside ops h = AllByRecursion (λ op. is_outside h.scope (place_of op) ≡ true) ops

-- no scope meets that of a transaction
abbrev pub IsApart : Holding → Holding → Type 0
IsApart h g = meets h.scope g.scope ≡ false

-- transactions that may be held together: their scopes do not meet, and each changes nothing outside its own
abbrev pub AreHeld : List Holding → Type 0
AreHeld [] = Unit {0}
AreHeld (h ∷ hs) = LieIn h.scope h.ops × (AllByRecursion (IsApart h) hs × AreHeld hs)
