-- What is made of the member at a place of a list. This profile's own.
use Rattle.std.specs.Prelude.{List, [], Option, Some, None}

abbrev pub of_some : {A B : Type 0} → (A → List B) → Option A → List B
of_some f None = []
of_some f (Some x) = f x
