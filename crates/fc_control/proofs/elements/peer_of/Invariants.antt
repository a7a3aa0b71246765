use Rattle.std.proofs.Common.{◌≡◌, ◌+◌, drop}
use Rattle.fc_control.specs.ControlNode.{peer_of}
use Rattle.fc_control.proofs.elements.peer_of.Given as goal

abbrev pub invariant-loop-other : goal.invariant-loop-other
invariant-loop-other l = record {
  place : l.peer ≡ l.other-index + 1;
  rest : peer_of l.element l.elements ≡ l.other-index + peer_of l.element (drop l.other-index l.elements);
}
