-- What is left of the bytes of a peer, if it stays open. This profile's own.
use Rattle.std.specs.Prelude.{ℕ, Bool, true, false, List, Option, Some, None}

abbrev pub left_of : Bool → List ℕ → Option (List ℕ)
left_of true bytes = Some bytes
left_of false bytes = None
