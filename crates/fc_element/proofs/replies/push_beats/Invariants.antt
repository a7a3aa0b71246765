use Rattle.std.proofs.Common.{◌≡◌, ◌+◌, ◌++◌, take, vec_len, vec_capacity}
use Rattle.std.specs.List.{AllByRecursion}
use Rattle.fc_element.specs.ElementMachine.{beats_of}
use Rattle.fc_performing.specs.Sending.{IsSaid}
use Rattle.fc_element.proofs.replies.push_beats.Given as goal

abbrev pub invariant-loop-place : goal.invariant-loop-place
invariant-loop-place l = record {
  sent : l.outs.items ≡ l.fn.outs.items ++ take l.place (beats_of l.id l.associations);
  room : vec_len l.outs ≡ vec_len l.fn.outs + l.place;
  capacity : vec_capacity l.outs ≡ vec_capacity l.fn.outs;
  proper : AllByRecursion IsSaid l.fn.outs.items → AllByRecursion IsSaid l.outs.items;
}
