-- What a call answers beside what is meant: the meaning, or its fault, or that memory was wanting, of which no definition says
-- when it comes. This profile's own.
use Rattle.std.specs.Prelude.{◌≡◌, Option, IfSome, Result, Ok, Err}

-- `seen` is how contracts see what is given, and `told` is the fault of the meaning that an error tells: none where it tells
-- that memory was wanting
abbrev pub Gives : {X Y E F : Type 0} → (X → Y) → (E → Option F) → Result X E → Result Y F → Type 0
Gives seen told (Ok x) meant = meant ≡ Ok (seen x)
Gives seen told (Err error) meant = IfSome (told error) (λ fault. meant ≡ Err fault)

-- the meaning goes into the next reader, and the first fault is the fault of the whole
infixl 10 ◌>>=◌
abbrev pub ◌>>=◌ : {A B F : Type 0} → Result A F → (A → Result B F) → Result B F
Ok x >>= next = next x
Err fault >>= next = Err fault
