use Rattle.std.proofs.Common.{◌≡◌, take}
use Rattle.fc_element.specs.Notices.{peers_of}
use Rattle.fc_element.proofs.notices.peers_of.Given as goal

abbrev pub invariant-loop-place : goal.invariant-loop-place
invariant-loop-place l = l.peers.items ≡ take l.place (peers_of l.associations)
