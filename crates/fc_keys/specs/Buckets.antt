-- A table of search trees, each the bucket of the keys that have their place in it. This profile's own.
use Rattle.std.specs.Prelude.{◌≡◌, ℕ, ◌+◌, ◌-◌, ◌*◌, ◌/◌, ◌%◌, ◌^◌, bit_and, bit_xor, true, is_some, List, [], ◌∷◌, ◌++◌, fold, length, slice_index_or, IsTrue}
use Rattle.std.specs.FinMap.{from_entries, is_sorted, find}
use Rattle.fc_keys.specs.Keys.{KeyMap, Pairs, key_cmp}
use Rattle.fc_keys.specs.Trees.{pairs_of}
use Rattle.fc_keys.specs.declared.tree.Tree.{Tree}
use Rattle.fc_keys.specs.declared.tree.Tree.TheVariants.{Leaf}

-- a sum of bytes with one byte more
abbrev pub with_byte : ℕ → ℕ → ℕ
with_byte sum byte = (sum * 65599 % 2 ^ 64 + byte) % 2 ^ 64

-- that sum mixed, and its upper half laid over the lower one
abbrev pub mixed : ℕ → ℕ
mixed sum = sum * 11400714819323198485 % 2 ^ 64

abbrev pub folded : ℕ → ℕ
folded sum = bit_xor (mixed sum) (mixed sum / 2 ^ 32)

-- the place of a key among so many buckets: some bits of the sum of its bytes, mixed twice
unfoldable pub place_of : List ℕ → ℕ → ℕ
place_of key count = bit_and (folded (fold with_byte 0 key) * 13787848793156543929 % 2 ^ 64 / 2 ^ 32) (count - 1)

-- the tree at a place, which is empty where there is no bucket
abbrev pub tree_at : List Tree → ℕ → Tree
tree_at trees place = slice_index_or trees place Leaf

-- the pairs of all trees
abbrev pub pairs_in : List Tree → Pairs
pairs_in [] = []
pairs_in (tree ∷ trees) = pairs_of tree ++ pairs_in trees

abbrev pub map_of : List Tree → KeyMap
map_of trees = from_entries (pairs_in trees)

-- each tree has its pairs by rising key, and each key stands at its place
pub record IsSpread (trees : List Tree) : Type 0 where
  pub sorted : (place : ℕ) → IsTrue (is_sorted key_cmp (pairs_of (tree_at trees place)))
  pub placed : (place : ℕ) (key : List ℕ) → is_some (find key_cmp key (pairs_of (tree_at trees place))) ≡ true → place_of key (length trees) ≡ place
