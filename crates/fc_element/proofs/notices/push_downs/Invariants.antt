use Rattle.std.proofs.Common.{◌≡◌, ◌++◌, take}
use Rattle.std.specs.List.{AllByRecursion, flat_map}
use Rattle.fc_performing.specs.Sending.{IsSaid}
use Rattle.fc_element.specs.Notices.{down_to}
use Rattle.fc_element.proofs.notices.push_downs.Given as goal

abbrev pub invariant-loop-seen : goal.invariant-loop-seen
invariant-loop-seen l = record {
  sent : l.outs ≡ l.fn.outs ++ flat_map (down_to l.id l.library l.subscriptions) (take l.seen-index l.peers);
  proper : AllByRecursion IsSaid l.fn.outs → AllByRecursion IsSaid l.outs;
}
