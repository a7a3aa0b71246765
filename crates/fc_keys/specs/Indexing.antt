-- When an index is that of the entries of an array by a key. This profile's own.
use Rattle.std.specs.Prelude.{◌≡◌, ℕ, List, Option, Some, None, option_map}
use Rattle.std.specs.Ordering.{nat_cmp}
use Rattle.std.specs.FinMap.{FinMap, get, insert, remove}
use Rattle.fc_keys.specs.Keys.{KeyMap}

-- entries of any kind, by their subscripts
abbrev pub Entries : Type 0 → Type 0
Entries X = FinMap nat_cmp X

-- another entry at a subscript, or none
abbrev pub updated : {X : Type 0} → Entries X → ℕ → Option X → Entries X
updated entries s None = remove entries s
updated entries s (Some entry) = insert entries s entry

-- the index leads from the key of each entry to its subscript, and from nothing else anywhere; so no two entries have one key
pub record Indexes {X : Type 0} (key : X → List ℕ) (entries : Entries X) (index : KeyMap) : Type 0 where
  pub found : (q : List ℕ) (s : ℕ) → get index q ≡ Some s → (x : X) × (get entries s ≡ Some x) × (key x ≡ q)
  pub all : (s : ℕ) (x : X) → get entries s ≡ Some x → get index (key x) ≡ Some s

-- the index without the key of what stood at a subscript
abbrev pub less_key : KeyMap → Option (List ℕ) → KeyMap
less_key index None = index
less_key index (Some q) = remove index q

-- and with the key of what stands there now
abbrev pub with_key : KeyMap → Option (List ℕ) → ℕ → KeyMap
with_key index None s = index
with_key index (Some q) s = insert index q s

-- the index when the entry at a subscript, with this key, gives way to another, with that key
abbrev pub reindexed : KeyMap → ℕ → Option (List ℕ) → Option (List ℕ) → KeyMap
reindexed index s old new = with_key (less_key index old) new s

-- no other entry has the key of the new one
abbrev pub IsFree : {X : Type 0} → (X → List ℕ) → KeyMap → Option X → Option X → Type 0
IsFree key index old None = Unit {0}
IsFree key index old (Some entry) = get (less_key index (option_map key old)) (key entry) ≡ None
