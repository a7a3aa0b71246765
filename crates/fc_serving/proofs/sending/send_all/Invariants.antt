use Rattle.std.proofs.Common.{◌≡◌, take}
use Rattle.fc_peers.specs.Acting.{Acts}
use Rattle.fc_serving.specs.ElementNode.{sent}
use Rattle.fc_serving.proofs.sending.send_all.Given as goal

abbrev pub invariant-loop-out : goal.invariant-loop-out
invariant-loop-out g l = record {
  done : Acts (g.H.Hub.held l.fn.hub) (g.H.Hub.held l.hub) (sent (take l.out-index l.outs));
  count : g.H.Hub.faults l.hub ≡ g.H.Hub.faults l.fn.hub;
}
