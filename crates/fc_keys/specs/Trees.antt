-- The pairs of a search tree, from left to right. This profile's own.
use Rattle.std.specs.Prelude.{[], ◌∷◌, ◌++◌}
use Rattle.fc_keys.specs.Keys.{Pairs}
use Rattle.fc_keys.specs.declared.tree.Fork.{Fork}
use Rattle.fc_keys.specs.declared.tree.Tree.{Tree}
use Rattle.fc_keys.specs.declared.tree.Tree.TheVariants.{Leaf, Branch'}

abbrev pub pairs_of : Tree → Pairs
pairs_of Leaf = []
pairs_of (Branch' p left key subscript height right) = pairs_of left ++ (key, subscript) ∷ pairs_of right

-- those left of a node, its own and those right of it
abbrev pub pairs_at : Fork → Pairs
pairs_at fork = pairs_of fork.left ++ (fork.key, fork.subscript) ∷ pairs_of fork.right
