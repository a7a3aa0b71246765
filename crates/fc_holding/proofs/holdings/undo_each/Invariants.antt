use Rattle.std.proofs.Common.{◌≡◌, ◌-◌, ◌++◌, ◌≤◌, take, drop, vec_len}
use Rattle.fc_holding.specs.Holdings.{all_undone, not_started}
use Rattle.fc_holding.proofs.holdings.undo_each.Given as goal

abbrev pub invariant-loop-at : goal.invariant-loop-at
invariant-loop-at l = record {
  within : l.at ≤ vec_len l.holdings;
  undone : all_undone l.records.entries (drop l.at l.holdings.items) l.store ≡ all_undone l.records.entries l.fn.holdings.items l.fn.store;
  left : take l.at l.holdings.items ++ not_started l.records.entries (drop l.at l.holdings.items) ≡ not_started l.records.entries l.fn.holdings.items;
}

abbrev pub decreases-loop-at : goal.decreases-loop-at
decreases-loop-at l = vec_len l.holdings - l.at
