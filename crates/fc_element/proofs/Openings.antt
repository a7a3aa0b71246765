-- An element that was just made.
use Rattle.std.proofs.Common.{◌≡◌, ℕ, List, ap}
use Rattle.std.specs.FinMap.{empty}
use Rattle.std.specs.List.Sorted.{IsPermutation}
use Rattle.fc_blocks.proofs.Rising.{store_same}
use Rattle.fc_store.specs.Stores.{Stored}
use Rattle.fc_transactions.specs.State as transactions
use Rattle.fc_types.specs.declared.class.Class.{Class}
use Rattle.fc_element.specs.ElementState.{ElementState, opened}

abbrev begun : ℕ → ℕ → Stored → ElementState
begun id ce store = record { transactions = transactions.opened id ce store; associations = empty; clock = 0; last_beat = 0 }

-- it is the same in whatever order the instances are given
pub opened_same : (id ce : ℕ) (library : List Class) (one other : List (ℕ × ℕ)) → IsPermutation one other → opened id ce library one ≡ opened id ce library other
opened_same id ce library one other m = ap (begun id ce) (store_same library one other m)
