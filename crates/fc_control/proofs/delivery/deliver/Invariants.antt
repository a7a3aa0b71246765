use Rattle.std.proofs.Common.{◌≡◌, List, length}
use Rattle.fc_hub.specs.declared.event.Act.{Act}
use Rattle.fc_peers.specs.Acting.{Acts}
use Rattle.fc_peers.specs.Streams.{frames, rest}
use Rattle.fc_control.specs.ControlNode.{first_heard, hears}
use Rattle.fc_control.specs.Controls.{control_of}
use Rattle.fc_control.proofs.delivery.deliver.Given as goal

abbrev pub invariant-frames : goal.invariant-frames
invariant-frames g l = record {
  heard : (acts : List Act) × Acts (g.H.Hub.held l.fn.hub) (g.H.Hub.held l.hub) acts
      × (hears l.peer l.element (frames l.fn.splitter) (rest l.fn.splitter) (control_of l.fn.control)
      ≡ first_heard acts (hears l.peer l.element (frames l.splitter) (rest l.splitter) (control_of l.control)));
  count : g.H.Hub.faults l.hub ≡ g.H.Hub.faults l.fn.hub;
}

abbrev pub decreases-frames : goal.decreases-frames
decreases-frames g l = length l.splitter
