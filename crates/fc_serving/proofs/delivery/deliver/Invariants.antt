use Rattle.std.proofs.Common.{◌≡◌, List, length}
use Rattle.fc_hub.specs.declared.event.Act.{Act}
use Rattle.fc_peers.specs.Acting.{Acts}
use Rattle.fc_serving.specs.ElementNode.{hears}
use Rattle.fc_peers.specs.Streams.{frames, rest}
use Rattle.fc_serving.proofs.Hearing.{before}
use Rattle.fc_serving.proofs.delivery.deliver.Given as goal

abbrev pub invariant-frames : goal.invariant-frames
invariant-frames g l = record {
  heard : (acts : List Act) × Acts (g.H.Hub.held l.fn.hub) (g.H.Hub.held l.hub) acts
      × (hears l.fn.element l.peer (frames l.fn.splitter) ≡ before acts (hears l.element l.peer (frames l.splitter)));
  left : rest l.fn.splitter ≡ rest l.splitter;
  count : g.H.Hub.faults l.hub ≡ g.H.Hub.faults l.fn.hub;
}

abbrev pub decreases-frames : goal.decreases-frames
decreases-frames g l = length l.splitter
