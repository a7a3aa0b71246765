-- When an event is told, by what is remembered of its target and what is seen of it: RFC 5812, section 4.8.5, on conditions, thresholds,
-- hysteresis and count; what is remembered, and when that changes, is this profile's own.
use Rattle.std.specs.Prelude.{ℕ, ◌+◌, ◌==◌, ◌&&◌, not, ◌++◌, nat_lt, nat_le, bytes_eq, ℤ, pos, int_lt, int_le, ◌-ℤ◌, ◌+ℤ◌, Bool, true, false, List, [], ◌∷◌, map, if◌then◌else◌}
use Rattle.std.specs.List.{filter, list_any, fold}
use Rattle.std.specs.Int.{int_gap}
use Rattle.fc_types.specs.declared.class.When.{When}
use Rattle.fc_types.specs.declared.class.When.TheVariants as when
use Rattle.fc_watch.specs.declared.watch.Condition.{Condition}
use Rattle.fc_watch.specs.declared.watch.Seen.{Seen}
use Rattle.fc_watch.specs.declared.watch.Seen.TheVariants as seen
use Rattle.fc_watch.specs.declared.watch.Told.{Told}
use Rattle.fc_watch.specs.declared.watch.Told.TheVariants as told
use Rattle.fc_watch.specs.declared.watch.Watch.{Watch}

-- the memory that starts with what is there
abbrev pub started : Seen → Watch
started present = record { armed = true; satisfied = 0; last = present }

-- the number that is seen; only events of which the target is a number ask for it
abbrev pub number : Seen → ℤ
number (seen.Number w) = w
number (seen.Bytes b) = pos 0
number (seen.Subscripts s) = pos 0

-- the subscripts that are seen; only events of which the target is an array ask for them
abbrev pub subscripts : Seen → List ℕ
subscripts (seen.Number w) = []
subscripts (seen.Bytes b) = []
subscripts (seen.Subscripts s) = s

-- once, or not at all
abbrev pub once : Bool → List Told
once true = told.Target ∷ []
once false = []

-- the first ones that are not among the second ones
abbrev pub without : List ℕ → List ℕ → List ℕ
without xs ys = filter (λ x. not (list_any (λ y. y == x) ys)) xs

-- by how much two numbers differ
abbrev pub gap : ℤ → ℤ → ℕ
gap x y = int_gap x y + int_gap y x

abbrev pub differ_by : ℕ → ℤ → ℤ → Bool
differ_by v w x = nat_lt 0 (gap w x) && nat_le v (gap w x)

-- whether what is seen differs from what was seen, a number by at least so much
abbrev pub differs : ℕ → Seen → Seen → Bool
differs v (seen.Number w) (seen.Number x) = differ_by v w x
differs v (seen.Bytes b) (seen.Bytes c) = not (bytes_eq b c)
differs v (seen.Subscripts s) (seen.Subscripts t) = false
differs v (seen.Subscripts s) (seen.Number x) = true
differs v (seen.Subscripts s) (seen.Bytes c) = true
differs v (seen.Number w) (seen.Bytes c) = true
differs v (seen.Number w) (seen.Subscripts c) = true
differs v (seen.Bytes b) (seen.Number x) = true
differs v (seen.Bytes b) (seen.Subscripts c) = true

-- each time that the condition is satisfied
abbrev pub hits_of : When → Condition → Watch → Seen → List Told
hits_of when.Greater c w s = once (w.armed && int_lt c.threshold (number s))
hits_of when.Less c w s = once (w.armed && int_lt (number s) c.threshold)
hits_of when.Changed c w s = once (differs c.hysteresis s w.last)
hits_of when.Created c w s = map told.Entry (without (subscripts s) (subscripts w.last))
hits_of when.Deleted c w s = map told.Entry (without (subscripts w.last) (subscripts s))

-- an armed event that is satisfied disarms; one that is not armed arms where the value is beyond the threshold by the hysteresis
abbrev pub armed_of : When → Condition → Bool → Seen → Bool
armed_of when.Greater c armed s = if armed then not (int_lt c.threshold (number s)) else int_le (number s) (c.threshold -ℤ pos c.hysteresis)
armed_of when.Less c armed s = if armed then not (int_lt (number s) c.threshold) else int_le (c.threshold +ℤ pos c.hysteresis) (number s)
armed_of when.Changed c armed s = armed
armed_of when.Created c armed s = armed
armed_of when.Deleted c armed s = armed

-- what is seen becomes what was seen last, but for an event on a threshold
abbrev pub last_of : When → Seen → Seen → Seen
last_of when.Greater old s = old
last_of when.Less old s = old
last_of when.Changed old s = s
last_of when.Created old s = s
last_of when.Deleted old s = s

-- each satisfaction counts one, and the one that reaches the count is told
abbrev pub counting : ℕ → ℕ × List Told → Told → ℕ × List Told
counting count so_far hit = if nat_lt (so_far.0 + 1) count then (so_far.0 + 1, so_far.1) else (0, so_far.1 ++ hit ∷ [])

abbrev pub noted : ℕ → ℕ → List Told → ℕ × List Told
noted count satisfied hits = fold (counting count) (satisfied, []) hits

abbrev pub after : Condition → Watch → Seen → ℕ → Watch
after c w s satisfied = record { armed = armed_of c.when c w.armed s; satisfied = satisfied; last = last_of c.when w.last s }

-- what is remembered after an evaluation, and what is told
abbrev pub evaluated : Condition → Watch → Seen → Watch × List Told
evaluated c w s = let n = noted c.count w.satisfied (hits_of c.when c w s) in (after c w s n.0, n.1)
