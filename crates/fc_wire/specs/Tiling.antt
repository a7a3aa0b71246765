-- How bytes are items, one after the other, up to their end or to the first fault: RFC 5810, sections 6.2 and 6.3, on
-- the TLVs and ILVs of a container.
use Rattle.std.specs.Prelude.{◌≡◌, ◌<◌, ℕ, zero, suc, ◌+◌, ◌-◌, List, [], ◌∷◌, ◌++◌, length, Option, Some, None, option_map, Result, Ok, Err}
use Rattle.fc_base.specs.Answers as answers
use Rattle.fc_wire.specs.declared.header.WireFault.{WireFault}

-- the items in their order, and the fault behind them, if they do not go on to the end
pub record Tiling (A : Type 0) : Type 0 where
  pub items : List A
  pub fault : Option WireFault

abbrev pub tiling : {A : Type 0} → List A → Option WireFault → Tiling A
tiling items fault = record { items = items; fault = fault }

-- with one item more in front
abbrev pub in_front : {A : Type 0} → A → Tiling A → Tiling A
in_front x t = tiling (x ∷ t.items) t.fault

-- What the bytes from a place on are, apart from how they are read: `Is place x front` says that those bytes are the
-- item x of that place, and `fault_at place bytes` is the fault of bytes that do not begin with an item.
abbrev pub IsTiling : {A : Type 0} → (ℕ → A → List ℕ → Type 0) → (ℕ → List ℕ → Option WireFault) → ℕ → List A → Option WireFault → List ℕ → Type 0
IsTiling Is fault_at place [] None bytes = bytes ≡ []
IsTiling Is fault_at place [] (Some fault) bytes = (0 < length bytes) × (fault_at place bytes ≡ Some fault)
IsTiling Is fault_at place (x ∷ xs) fault bytes =
    (front : List ℕ) × (back : List ℕ) × (bytes ≡ front ++ back) × Is place x front
    × IsTiling Is fault_at (place + length front) xs fault back

-- what a view of the bytes gives next, and what it holds then: after a fault nothing
abbrev pub next_of : {A : Type 0} → List A → Option WireFault → Option (Result A WireFault)
next_of [] fault = option_map Err fault
next_of (x ∷ xs) fault = Some (Ok x)

abbrev pub rest_of : {A : Type 0} → List A → Option WireFault → Tiling A
rest_of [] fault = tiling [] None
rest_of (x ∷ xs) fault = tiling xs fault

-- one item more, by a function for what stands behind it
abbrev pub tiled : {A : Type 0} → (ℕ → List ℕ → Tiling A) → ℕ → ℕ → Result (A × List ℕ) WireFault → Tiling A
tiled after size place (Err fault) = tiling [] (Some fault)
tiled after size place (Ok x) = in_front x.0 (after (place + (size - length x.1)) x.1)

abbrev pub tiles_by : {A : Type 0} → (ℕ → List ℕ → Result (A × List ℕ) WireFault) → ℕ → ℕ → List ℕ → Tiling A
tiles_by one fuel place [] = tiling [] None
tiles_by one zero place (b ∷ bytes) = tiling [] None
tiles_by one (suc fuel) place (b ∷ bytes) = tiled (tiles_by one fuel) (length (b ∷ bytes)) place (one place (b ∷ bytes))

-- The tiling as a function, by one that gives the first item and what stands behind it.
unfoldable pub tiles : {A : Type 0} → (ℕ → List ℕ → Result (A × List ℕ) WireFault) → ℕ → List ℕ → Tiling A
tiles one place bytes = tiles_by one (length bytes) place bytes

-- what a function answers, seen in this way, is what reading gives
abbrev pub Answers : {X Y : Type 0} → (X → Y) → Result X WireFault → Result Y WireFault → Type 0
Answers view = answers.Gives view Some
