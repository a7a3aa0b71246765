-- The keys of the entries of an array. This profile's own.
use Rattle.std.specs.Prelude.{ℕ, List, map}
use Rattle.fc_value.specs.declared.value.Value.{Value}

-- the values that a key has in entries, in their order
abbrev pub keys_of : (Value → List ℕ) → List (ℕ × Value) → List (List ℕ)
keys_of key es = map (λ (e : ℕ × Value). key e.1) es
