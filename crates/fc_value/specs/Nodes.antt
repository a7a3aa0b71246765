-- Places within a value: each step is a place, counted from 0, within the fields of a struct or the entries of an array. This
-- profile's own.
use Rattle.std.specs.Prelude.{ℕ, ◌==◌, Bool, true, false, List, [], ◌∷◌, slice_get, slice_set, Option, Some, None, option_map, option_and_then, if◌then◌else◌}
use Rattle.fc_value.specs.declared.value.Value.{Value, out-Value, roll-Value}
use Rattle.fc_value.specs.declared.value.Value.TheOpen.{Value-F}

abbrev pub child_layer : ℕ → Value-F Value → Option Value
child_layer i (Value-F.Group vs) = slice_get vs i
child_layer i (Value-F.Table es) = option_map (λ e. e.1) (slice_get es i)
child_layer i _ = None

-- the value one step below
abbrev pub child : ℕ → Value → Option Value
child i v = child_layer i (out-Value v)

-- the node to which places lead
abbrev pub node_at : List ℕ → Value → Option Value
node_at [] v = Some v
node_at (i ∷ places) v = option_and_then (node_at places) (child i v)

-- the entries with another value at a place; the subscript stays
abbrev pub with_entry : ℕ → Value → List (ℕ × Value) → Option (ℕ × Value) → List (ℕ × Value)
with_entry i w es None = es
with_entry i w es (Some e) = slice_set es i (e.0, w)

abbrev pub with_child_layer : ℕ → Value → Value-F Value → Value-F Value
with_child_layer i w (Value-F.Group vs) = Value-F.Group (slice_set vs i w)
with_child_layer i w (Value-F.Table es) = Value-F.Table (with_entry i w es (slice_get es i))
with_child_layer i w layer = layer

-- the value with another one step below
abbrev pub with_child : ℕ → Value → Value → Value
with_child i w v = roll-Value (with_child_layer i w (out-Value v))

-- the value with its child at a place changed, if that is there
abbrev pub changed : (Value → Value) → ℕ → Value → Option Value → Value
changed change i v None = v
changed change i v (Some c) = with_child i (change c) v

-- the value with another node where places lead; as it is where one is not there
abbrev pub put_at : Value → List ℕ → Value → Value
put_at v [] w = w
put_at v (i ∷ places) w = changed (λ c. put_at c places w) i v (child i v)

-- neither leads through the other: they part at some step
abbrev pub are_apart : List ℕ → List ℕ → Bool
are_apart [] others = false
are_apart (i ∷ places) [] = false
are_apart (i ∷ places) (j ∷ others) = if i == j then are_apart places others else true
